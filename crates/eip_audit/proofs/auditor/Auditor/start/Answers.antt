use Rattle.std.proofs.Common.{◌≡◌, ◌∙◌, ℕ, ◌<◌, length, true, false, refl, sym, subst, eq-eqb}
use Rattle.eip_route.specs.declared.route.RouteSet.{RouteSet}
use Rattle.eip_ledger.specs.declared.entry.Kind.TheVariants.{Start}
use Rattle.eip_history.specs.Place.{is_startable}
use Rattle.eip_history.specs.Rules.{May, IsBelow}
use Rattle.eip_hub.specs.View.{plan, Adds}
use Rattle.eip_audit.proofs.Behind.{none-on, none-back, adds-on}
use Rattle.eip_audit.proofs.Entering.{enters-free}
use Rattle.eip_audit.proofs.Hands.{no-ticket}
use Rattle.eip_audit.proofs.OwnEntries.{queue-within, start-startable, one-start, waits-out, others-start}
use Rattle.eip_audit.proofs.auditor.Auditor.start.Goals as goal

pub returns-then-not-is_route : goal.returns-then-not-is_route
returns-then-not-is_route c = λ may.
    let t = c.is_route.ensures.1 (queue-within c.args.self.now.books.set c.args.self.now.books.journal.past c.args.queue c.args.number may.0) in
    let both : false ≡ true = sym c.if-not-is_route.true ∙ t in
    cc both

pub start_in-requires-clause-queue : goal.start_in-requires-clause-queue
start_in-requires-clause-queue c =
    subst (λ (set : RouteSet). c.args.queue < length set.routes) (sym c.in_ok-reserve.ensures.none.same.set) (c.is_route.ensures.0 c.if-not-is_route.false)

pub start_in-requires-clause-below : goal.start_in-requires-clause-below
start_in-requires-clause-below c = none-on c.args.self.now.books c.reserve.new.self c.in_ok-reserve.ensures.none (λ s t p. IsBelow s t p) (c.is_below.ensures.below.0 c.if-not-is_below.false)

pub returns-in_default : goal.returns-in_default
returns-in_default c = λ may.
    let books = c.args.self.now.books in
    let none = none-back books c.reserve.new.self c.in_ok-reserve.ensures.none (λ s t p. is_startable s p c.args.queue ≡ false) c.in_default.ensures.exact in
    let both : true ≡ false = sym (start-startable (plan books) books.journal.turns books.journal.past c.args.worker c.args.queue c.args.number may) ∙ none in
    cc both

pub returns-then-first-number : goal.returns-then-first-number
returns-then-first-number c = λ may.
    let books = c.args.self.now.books in
    let came = none-back books c.reserve.new.self c.in_ok-reserve.ensures.none (λ s t p. May s t p c.args.worker (Start c.args.queue c.in-Some.first)) c.in-Some.ensures.may in
    c.if-first-number.true (one-start (plan books) books.journal.turns books.journal.past c.args.worker c.args.queue c.in-Some.first c.args.number came may)

pub returns : goal.returns
returns c =
    let books = c.args.self.now.books in
    let came = none-back books c.reserve.new.self c.in_ok-reserve.ensures.none (λ s t p. May s t p c.args.worker (Start c.args.queue c.in-Some.first)) c.in-Some.ensures.may in
    let may = subst (λ (x : ℕ). May (plan books) books.journal.turns books.journal.past c.args.worker (Start c.args.queue x)) c.if-first-number.false came in
    let new : Adds c.reserve.new.self c.start_in.new.self c.args.worker (Start c.args.queue c.args.number) =
    subst (λ (x : ℕ). Adds c.reserve.new.self c.start_in.new.self c.args.worker (Start c.args.queue x)) c.if-first-number.false c.in-Some.ensures.adds in
    let adds = adds-on books c.reserve.new.self c.in_ok-reserve.ensures.none c.start_in.new.self c.args.worker (Start c.args.queue c.args.number) new in
    let free = no-ticket (plan books) books.journal.past c.args.self.now.hands.entries c.args.number c.requires.holds.hands (λ v there. waits-out (plan books) books.journal.past c.args.queue c.args.number v may.0 there) in
    enters-free c.args.self.now _ c.args.worker (Start c.args.queue c.args.number) adds c.start_in.ensures.legal c.args.number (others-start c.args.queue c.args.number) (eq-eqb c.args.number c.args.number refl) refl (λ u was. refl) free refl refl c.requires.holds
