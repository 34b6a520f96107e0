use Rattle.std.proofs.Common.{◌≡◌, Some, refl}
use Rattle.eip_ledger.specs.declared.entry.Kind.TheVariants.{Take}
use Rattle.eip_ledger.specs.declared.place.Place.TheVariants.{InHand}
use Rattle.eip_history.specs.Births.{asked}
use Rattle.eip_history.specs.Place.{place}
use Rattle.eip_history.specs.Rules.{IsBelow, outside_asked}
use Rattle.eip_hub.specs.View.{plan}
use Rattle.eip_audit.proofs.Behind.{none-on, none-more, adds-on}
use Rattle.eip_audit.proofs.Entering.{enters-own, ticket-back}
use Rattle.eip_audit.proofs.OwnEntries.{no-take, among-with, others-take}
use Rattle.eip_audit.proofs.auditor.Auditor.take.Goals as goal

pub returns-in-Did : goal.returns-in-Did
returns-in-Did c = λ may. no-take c.in_ok-looked.looked (outside_asked (asked (plan c.args.self.now.books) c.args.self.now.books.journal.past c.args.number)) c.in-Did.is c.in_ok-looked.ensures.exact may.1

pub take-ticket-requires-clause-known : goal.take-ticket-requires-clause-known
take-ticket-requires-clause-known c =
    let listed = rw c.in-Outside.is at c.in_ok-looked.ensures.listed in
    rw (c.reserve.ensures.outside, listed) (among-with c.args.number c.args.self.now.books.outside)

pub take-ticket-requires-clause-below : goal.take-ticket-requires-clause-below
take-ticket-requires-clause-below c =
    let none = none-more c.args.self.now.books c.inner.new.self (c.in_ok-looked.ensures.outside c.in-Outside.is) c.reserve.new.self c.in_ok-reserve-in-Outside.ensures.none in
    none-on c.args.self.now.books c.reserve.new.self none (λ s t p. IsBelow s t p) (c.is_below.ensures.below.0 c.if-not-is_below.false)

pub returns-in_ok-put-in-Outside : goal.returns-in_ok-put-in-Outside
returns-in_ok-put-in-Outside c =
    let none = none-more c.args.self.now.books c.inner.new.self (c.in_ok-looked.ensures.outside c.in-Outside.is) c.reserve.new.self c.in_ok-reserve-in-Outside.ensures.none in
    let adds = adds-on c.args.self.now.books c.reserve.new.self none c.take-ticket.new.self c.args.worker (Take c.args.number) c.take-ticket.ensures.adds in
    let here : place (plan c.take-ticket.new.self) c.take-ticket.new.self.journal.past c.args.number ≡ Some (InHand c.take-ticket.result.worker) = rw c.take-ticket.ensures.worker c.take-ticket.ensures.place in
    let told = ticket-back c.args.self.now.books c.take-ticket.new.self c.args.worker (Take c.args.number) adds c.args.number (Some c.take-ticket.result) (c.take-ticket.ensures.number, here, c.take-ticket.ensures.asked) in
    enters-own c.args.self.now _ c.args.worker (Take c.args.number) adds c.take-ticket.ensures.legal c.args.number (Some c.take-ticket.result) (others-take c.args.number) (λ u was. refl)
    c.in_ok-put-in-Outside.ensures.ok told refl c.requires.holds
