use Rattle.std.proofs.Common.{Some, None, sym, ◌≡◌, ◌∙◌}
use Rattle.eip_plan.proofs.Laws.{plan-laws}
use Rattle.eip_books.specs.View.{plan}
use Rattle.eip_hub.proofs.Forcing.{may-force, forced-waits, none-told, some-told}
use Rattle.eip_hub.proofs.hub.Hub.force.Goals as goal

pub returns-then-is_some-clause-exact : goal.returns-then-is_some-clause-exact
returns-then-is_some-clause-exact c = λ no allowed.
    let may = rw (← c.self.view_is) at allowed in
    let t = some-told c.due.result (sym c.is_some.ensures ∙ c.if-is_some.true) in
    let both : None ≡ Some t.0 = sym may.2 ∙ (sym c.due.ensures ∙ t.1) in
    cc both

pub returns-then-is_some-2-clause-exact : goal.returns-then-is_some-2-clause-exact
returns-then-is_some-2-clause-exact c = λ no allowed.
    let may = rw (← c.self.view_is) at allowed in
    let b = c.self.inside.books in
    let r = some-told c.stop.result (sym c.is_some-2.ensures ∙ c.if-is_some-2.true) in
    forced-waits (plan b) b.journal.workers b.journal.turns b.journal.past c.args.worker r.0 may (sym c.stop.ensures.stop ∙ r.1)

pub force-requires-clause-may : goal.force-requires-clause-may
force-requires-clause-may c =
    let b = c.self.inside.books in
    let none = sym c.due.ensures ∙ none-told c.due.result (sym c.is_some.ensures ∙ c.if-is_some.false) in
    let waits = sym c.stop.ensures.stop ∙ none-told c.stop.result (sym c.is_some-2.ensures ∙ c.if-is_some-2.false) in
    may-force (plan b) b.journal.workers b.journal.turns b.journal.past c.args.worker (plan-laws b.set) c.stop.ensures.legal.entries
    (c.is_quiet.ensures.0 c.if-not-is_quiet.false) (c.is_below.ensures.below.0 c.if-not-is_below.false) none waits

pub returns-clause-forced : goal.returns-clause-forced
returns-clause-forced c =
    let b = c.self.inside.books in
    let none = sym c.due.ensures ∙ none-told c.due.result (sym c.is_some.ensures ∙ c.if-is_some.false) in
    let waits = sym c.stop.ensures.stop ∙ none-told c.stop.result (sym c.is_some-2.ensures ∙ c.if-is_some-2.false) in
    rw (← c.self.view_is) (λ yes. (
      may-force (plan b) b.journal.workers b.journal.turns b.journal.past c.args.worker (plan-laws b.set) c.stop.ensures.legal.entries
          (c.is_quiet.ensures.0 c.if-not-is_quiet.false) (c.is_below.ensures.below.0 c.if-not-is_below.false) none waits,
      c.in_ok-force.ensures.adds,
    ))
