use Rattle.std.proofs.Common.{Some, None, refl, sym, ◌≡◌, ◌∙◌}
use Rattle.eip_ledger.specs.declared.entry.Kind.TheVariants.{Force}
use Rattle.eip_plan.proofs.Laws.{plan-laws}
use Rattle.eip_hub.specs.View.{plan}
use Rattle.eip_hub.proofs.Forcing.{may-force, forced-waits, none-told, some-told}
use Rattle.eip_audit.proofs.Entering.{enters-none}
use Rattle.eip_audit.proofs.auditor.Auditor.force.Goals as goal

pub returns-then-is_some : goal.returns-then-is_some
returns-then-is_some c = λ may.
    let t = some-told c.due.result (sym c.is_some.ensures ∙ c.if-is_some.true) in
    let both : None ≡ Some t.0 = sym may.2 ∙ (sym c.due.ensures ∙ t.1) in
    cc both

pub returns-then-is_some-2 : goal.returns-then-is_some-2
returns-then-is_some-2 c = λ may.
    let b = c.args.self.now.books in
    let r = some-told c.stop.result (sym c.is_some-2.ensures ∙ c.if-is_some-2.true) in
    forced-waits (plan b) b.journal.workers b.journal.turns b.journal.past c.args.worker r.0 may (sym c.stop.ensures.stop ∙ r.1)

pub force-requires-clause-may : goal.force-requires-clause-may
force-requires-clause-may c =
    let b = c.args.self.now.books in
    let none = sym c.due.ensures ∙ none-told c.due.result (sym c.is_some.ensures ∙ c.if-is_some.false) in
    let waits = sym c.stop.ensures.stop ∙ none-told c.stop.result (sym c.is_some-2.ensures ∙ c.if-is_some-2.false) in
    may-force (plan b) b.journal.workers b.journal.turns b.journal.past c.args.worker (plan-laws b.set) c.stop.ensures.legal.entries
    (c.is_quiet.ensures.0 c.if-not-is_quiet.false) (c.is_below.ensures.below.0 c.if-not-is_below.false) none waits

pub returns : goal.returns
returns c =
    enters-none c.args.self.now _ c.args.worker Force c.in_ok-force.ensures.adds c.force.ensures.legal (λ x. refl) (λ u was. refl) refl refl c.requires.holds
