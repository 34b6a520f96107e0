use Rattle.std.proofs.Common.{◌≡◌, ◌∙◌, true, false, refl, sym, ap, subst, eq-eqb}
use Rattle.eip_frames.specs.declared.answer.Answer.{Answer as Reply}
use Rattle.eip_ledger.specs.View.{JournalView}
use Rattle.eip_ledger.specs.declared.entry.Kind.TheVariants.{Answer}
use Rattle.eip_history.specs.Births.{asked}
use Rattle.eip_history.specs.Rules.{outside_asked}
use Rattle.eip_verdict.proofs.Deciding.{reply-one}
use Rattle.eip_hub.specs.View.{plan, Adds}
use Rattle.eip_audit.specs.Judging.{is_answered}
use Rattle.eip_audit.proofs.Entering.{enters-free, may-of}
use Rattle.eip_audit.proofs.OwnEntries.{free-told, free-none, acts-inner, no-inner, answered-one, same-made, answer-told, others-answer}
use Rattle.eip_audit.proofs.auditor.Auditor.inner.Goals as goal

pub returns-then-not-is_below : goal.returns-then-not-is_below
returns-then-not-is_below c = λ may.
    let b = c.is_below.ensures.below.1 (acts-inner (plan c.args.self.now.books) c.args.self.now.books.journal.turns c.args.self.now.books.journal.past c.args.number c.args.worker c.args.answer.now (free-told (plan c.args.self.now.books) c.args.self.now.books.journal.past c.args.self.now.hands.entries c.args.number c.requires.holds.hands c.requires.free) may).1 in
    let both : false ≡ true = sym c.if-not-is_below.true ∙ b in
    cc both

pub returns-then-not-ready : goal.returns-then-not-ready
returns-then-not-ready c = λ may.
    let b = c.in_ok-ready.ensures.1 (acts-inner (plan c.args.self.now.books) c.args.self.now.books.journal.turns c.args.self.now.books.journal.past c.args.number c.args.worker c.args.answer.now (free-told (plan c.args.self.now.books) c.args.self.now.books.journal.past c.args.self.now.hands.entries c.args.number c.requires.holds.hands c.requires.free) may).0 in
    let both : false ≡ true = sym c.if-not-ready.true ∙ b in
    cc both

pub returns-in-Outside : goal.returns-in-Outside
returns-in-Outside c = λ may. no-inner c.in_ok-looked.looked (outside_asked (asked (plan c.args.self.now.books) c.args.self.now.books.journal.past c.args.number)) c.in-Outside.is c.in_ok-looked.ensures.exact (acts-inner (plan c.args.self.now.books) c.args.self.now.books.journal.turns c.args.self.now.books.journal.past c.args.number c.args.worker c.args.answer.now (free-told (plan c.args.self.now.books) c.args.self.now.books.journal.past c.args.self.now.hands.entries c.args.number c.requires.holds.hands c.requires.free) may).2

pub returns-then-not-is_answered : goal.returns-then-not-is_answered
returns-then-not-is_answered c = λ may.
    let did = c.in_ok-looked.ensures.did c.in-Did.is in
    let one = answered-one (plan c.args.self.now.books) c.args.self.now.books.journal.turns c.args.self.now.books.journal.past c.args.number c.args.worker c.args.worker did.0 c.args.answer.now (acts-inner (plan c.args.self.now.books) c.args.self.now.books.journal.turns c.args.self.now.books.journal.past c.args.number c.args.worker c.args.answer.now (free-told (plan c.args.self.now.books) c.args.self.now.books.journal.past c.args.self.now.hands.entries c.args.number c.requires.holds.hands c.requires.free) may).2 (may-of c.args.self.now.books c.inner.new.self c.args.worker (Answer c.args.number did.0) did.1 c.inner.ensures.legal) may in
    let told = c.is_answered.ensures ∙ (ap (λ (j : JournalView). is_answered c.args.answer.now j.past) c.journal.ensures.journal ∙ answer-told c.args.self.now.books c.inner.new.self c.args.worker c.args.number did.0 c.args.answer.now did.1) in
    let both : false ≡ true = sym c.if-not-is_answered.true ∙ (told ∙ same-made did.0 c.args.answer.now one) in
    cc both

pub returns-else-not-is_answered : goal.returns-else-not-is_answered
returns-else-not-is_answered c =
    let did = c.in_ok-looked.ensures.did c.in-Did.is in
    let told = c.is_answered.ensures ∙ (ap (λ (j : JournalView). is_answered c.args.answer.now j.past) c.journal.ensures.journal ∙ answer-told c.args.self.now.books c.inner.new.self c.args.worker c.args.number did.0 c.args.answer.now did.1) in
    let same = reply-one did.0 c.args.answer.now (sym told ∙ c.if-not-is_answered.false) in
    let adds : Adds c.args.self.now.books c.inner.new.self c.args.worker (Answer c.args.number c.args.answer.now) = subst (λ (a : Reply). Adds c.args.self.now.books c.inner.new.self c.args.worker (Answer c.args.number a)) same did.1 in
    enters-free c.args.self.now _ c.args.worker (Answer c.args.number c.args.answer.now) adds c.inner.ensures.legal c.args.number (others-answer c.args.number c.args.answer.now) (eq-eqb c.args.number c.args.number refl) refl (λ u was. refl)
    (free-none c.args.self.now.hands.entries c.args.number c.requires.free) refl refl c.requires.holds
