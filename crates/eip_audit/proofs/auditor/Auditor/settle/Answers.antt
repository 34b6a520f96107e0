use Rattle.std.proofs.Common.{◌≡◌, ◌∙◌, ℕ, true, false, Some, None, refl, sym, subst, eq-eqb}
use Rattle.eip_frames.specs.declared.answer.Answer.{Answer as Reply}
use Rattle.eip_ledger.specs.declared.entry.Kind.TheVariants.{Answer}
use Rattle.eip_ledger.specs.declared.place.Place.TheVariants.{InHand}
use Rattle.eip_history.specs.Place.{place}
use Rattle.eip_tables.specs.Outside.{IsAsked}
use Rattle.eip_hub.specs.View.{plan, Adds}
use Rattle.eip_audit.proofs.Entering.{enters-own, ticket-gone}
use Rattle.eip_audit.proofs.OwnEntries.{ticket-told, answered-by, others-answer}
use Rattle.eip_audit.proofs.auditor.Auditor.settle.Goals as goal

pub returns-then-holder-worker : goal.returns-then-holder-worker
returns-then-holder-worker c = λ may. c.if-holder-worker.true (sym (answered-by (plan c.args.self.now.books) c.args.self.now.books.journal.turns c.args.self.now.books.journal.past c.args.number c.args.worker c.args.answer.now c.in-Some.ticket (ticket-told (plan c.args.self.now.books) c.args.self.now.books.journal.past c.args.self.now.hands.entries c.args.number c.in-Some.ticket c.requires.holds.hands (sym c.in-Some.is ∙ c.take.ensures.value)) may).0)

pub returns-then-not-fits : goal.returns-then-not-fits
returns-then-not-fits c = λ may.
    let f = (answered-by (plan c.args.self.now.books) c.args.self.now.books.journal.turns c.args.self.now.books.journal.past c.args.number c.args.worker c.args.answer.now c.in-Some.ticket (ticket-told (plan c.args.self.now.books) c.args.self.now.books.journal.past c.args.self.now.hands.entries c.args.number c.in-Some.ticket c.requires.holds.hands (sym c.in-Some.is ∙ c.take.ensures.value)) may).1 in
    let both : false ≡ true = sym c.if-not-fits.true ∙ (c.fits.ensures ∙ f) in
    cc both

pub settle-requires-clause-fits : goal.settle-requires-clause-fits
settle-requires-clause-fits c = rw c.in_ok-answer.ensures (sym c.fits.ensures ∙ c.if-not-fits.false)

pub settle-requires-clause-place : goal.settle-requires-clause-place
settle-requires-clause-place c =
    let told = ticket-told (plan c.args.self.now.books) c.args.self.now.books.journal.past c.args.self.now.hands.entries c.args.number c.in-Some.ticket c.requires.holds.hands (sym c.in-Some.is ∙ c.take.ensures.value) in
    subst (λ (x : ℕ). place (plan c.args.self.now.books) c.args.self.now.books.journal.past x ≡ Some (InHand c.in-Some.ticket.worker)) (sym told.0) told.1

pub settle-requires-clause-asked : goal.settle-requires-clause-asked
settle-requires-clause-asked c =
    let told = ticket-told (plan c.args.self.now.books) c.args.self.now.books.journal.past c.args.self.now.hands.entries c.args.number c.in-Some.ticket c.requires.holds.hands (sym c.in-Some.is ∙ c.take.ensures.value) in
    subst (λ (x : ℕ). IsAsked (plan c.args.self.now.books) c.args.self.now.books.journal.past x c.in-Some.ticket.request) (sym told.0) told.2

pub returns : goal.returns
returns c =
    let told = ticket-told (plan c.args.self.now.books) c.args.self.now.books.journal.past c.args.self.now.hands.entries c.args.number c.in-Some.ticket c.requires.holds.hands (sym c.in-Some.is ∙ c.take.ensures.value) in
    let adds : Adds c.args.self.now.books c.settle.new.self c.args.worker (Answer c.args.number c.args.answer.now) =
    subst (λ (v : ℕ). Adds c.args.self.now.books c.settle.new.self v (Answer c.args.number c.args.answer.now)) c.if-holder-worker.false
    (subst (λ (x : ℕ). Adds c.args.self.now.books c.settle.new.self c.in-Some.ticket.worker (Answer x c.args.answer.now)) told.0
    (subst (λ (a : Reply). Adds c.args.self.now.books c.settle.new.self c.in-Some.ticket.worker (Answer c.in-Some.ticket.number a)) c.in_ok-answer.ensures c.settle.ensures.adds)) in
    let here = eq-eqb c.args.number c.args.number refl in
    enters-own c.args.self.now _ c.args.worker (Answer c.args.number c.args.answer.now) adds c.settle.ensures.legal c.args.number None (others-answer c.args.number c.args.answer.now) (λ u was. refl)
    c.take.ensures.rest (ticket-gone c.args.self.now.books c.settle.new.self c.args.worker (Answer c.args.number c.args.answer.now) adds c.settle.ensures.legal c.args.number here refl) refl c.requires.holds
