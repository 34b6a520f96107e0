use Rattle.std.proofs.Common.{◌≡◌, ◌∙◌, ℕ, Some, None, refl, sym, subst, eq-eqb}
use Rattle.eip_ledger.specs.declared.entry.Kind.TheVariants.{Starve}
use Rattle.eip_ledger.specs.declared.place.Place.TheVariants.{InHand}
use Rattle.eip_history.specs.Place.{place}
use Rattle.eip_hub.specs.View.{plan, Adds}
use Rattle.eip_audit.proofs.Entering.{enters-own, ticket-gone}
use Rattle.eip_audit.proofs.OwnEntries.{ticket-told, starved-by, others-starve}
use Rattle.eip_audit.proofs.auditor.Auditor.give_up.Goals as goal

pub returns-then-holder-worker : goal.returns-then-holder-worker
returns-then-holder-worker c = λ may. c.if-holder-worker.true (starved-by (plan c.args.self.now.books) c.args.self.now.books.journal.past c.args.number c.args.worker c.in-Some.ticket (ticket-told (plan c.args.self.now.books) c.args.self.now.books.journal.past c.args.self.now.hands.entries c.args.number c.in-Some.ticket c.requires.holds.hands (sym c.in-Some.is ∙ c.take.ensures.value)) may)

pub give_up-requires-clause-place : goal.give_up-requires-clause-place
give_up-requires-clause-place c =
    let told = ticket-told (plan c.args.self.now.books) c.args.self.now.books.journal.past c.args.self.now.hands.entries c.args.number c.in-Some.ticket c.requires.holds.hands (sym c.in-Some.is ∙ c.take.ensures.value) in
    subst (λ (x : ℕ). place (plan c.args.self.now.books) c.args.self.now.books.journal.past x ≡ Some (InHand c.in-Some.ticket.worker)) (sym told.0) told.1

pub returns : goal.returns
returns c =
    let told = ticket-told (plan c.args.self.now.books) c.args.self.now.books.journal.past c.args.self.now.hands.entries c.args.number c.in-Some.ticket c.requires.holds.hands (sym c.in-Some.is ∙ c.take.ensures.value) in
    let adds : Adds c.args.self.now.books c.give_up.new.self c.args.worker (Starve c.args.number) =
    subst (λ (v : ℕ). Adds c.args.self.now.books c.give_up.new.self v (Starve c.args.number)) c.if-holder-worker.false
    (subst (λ (x : ℕ). Adds c.args.self.now.books c.give_up.new.self c.in-Some.ticket.worker (Starve x)) told.0 c.give_up.ensures.adds) in
    let here = eq-eqb c.args.number c.args.number refl in
    enters-own c.args.self.now _ c.args.worker (Starve c.args.number) adds c.give_up.ensures.legal c.args.number None (others-starve c.args.number) (λ u was. refl)
    c.take.ensures.rest (ticket-gone c.args.self.now.books c.give_up.new.self c.args.worker (Starve c.args.number) adds c.give_up.ensures.legal c.args.number here refl) refl c.requires.holds
