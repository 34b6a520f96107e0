use Rattle.std.proofs.Common.{◌∙◌, ◌<◌, ◌≤◌, length, filter, sym}
use Rattle.eip_history.specs.Births.{births, asked}
use Rattle.eip_plan.specs.Plan.{plan_of}
use Rattle.eip_outlets.specs.Outlets.{is_owned}
use Rattle.eip_outlets.proofs.Owned.{owner-is}
use Rattle.eip_table_laws.proofs.ListedNumbers.{if-first}
use Rattle.eip_books.specs.Facts.{tables_of}
use Rattle.eip_books.specs.Owned.{is_takeable}
use Rattle.eip_books.proofs.OwnedCalls.{first-front, first-rest, if-none-first, all-front, all-rest, ready-numbers, least-some, least-none}
use Rattle.eip_books.proofs.books.Books.owned_outside.Goals as goal

pub first_takeable-requires-clause-numbers : goal.first_takeable-requires-clause-numbers
first_takeable-requires-clause-numbers c =
    rw (← c.self.view_is)
    (all-front (λ x. (0 < x) × (x ≤ length (births (plan_of c.self.inside.set) c.self.inside.journal.past))) c.runs.result.0.now c.runs.result.1.now
    (rw (← c.runs.ensures) at (ready-numbers (tables_of c.self.inside) c.self.invariant.stands)))

pub first_takeable-requires-in-None-clause-numbers : goal.first_takeable-requires-in-None-clause-numbers
first_takeable-requires-in-None-clause-numbers c =
    rw (← c.self.view_is)
    (all-rest (λ x. (0 < x) × (x ≤ length (births (plan_of c.self.inside.set) c.self.inside.journal.past))) c.runs.result.0.now c.runs.result.1.now
    (rw (← c.runs.ensures) at (ready-numbers (tables_of c.self.inside) c.self.invariant.stands)))

pub returns-in-Some-clause-known : goal.returns-in-Some-clause-known
returns-in-Some-clause-known c =
    let p = is_takeable c.args.self.now c.args.worker in
    let f = first-front p c.runs.result.0.now c.runs.result.1.now c.in-Some.number (sym c.first_takeable.ensures ∙ c.in-Some.is) in
    let g = rw (c.runs.ensures, ← c.self.view_is) at f in
    rw (← c.self.view_is) (least-some (tables_of c.self.inside) c.self.invariant.stands (λ x. is_owned c.self.inside.set c.self.inside.journal.workers c.args.worker (asked (plan_of c.self.inside.set) c.self.inside.journal.past x)) c.in-Some.number g).known

pub returns-in-Some-clause-owner : goal.returns-in-Some-clause-owner
returns-in-Some-clause-owner c =
    let p = is_takeable c.args.self.now c.args.worker in
    let f = first-front p c.runs.result.0.now c.runs.result.1.now c.in-Some.number (sym c.first_takeable.ensures ∙ c.in-Some.is) in
    let g = rw (c.runs.ensures, ← c.self.view_is) at f in
    rw (← c.self.view_is) (owner-is _ _ _ (least-some (tables_of c.self.inside) c.self.invariant.stands (λ x. is_owned c.self.inside.set c.self.inside.journal.workers c.args.worker (asked (plan_of c.self.inside.set) c.self.inside.journal.past x)) c.in-Some.number g).passes)

pub returns-in-Some-clause-least : goal.returns-in-Some-clause-least
returns-in-Some-clause-least c =
    let p = is_takeable c.args.self.now c.args.worker in
    let f = first-front p c.runs.result.0.now c.runs.result.1.now c.in-Some.number (sym c.first_takeable.ensures ∙ c.in-Some.is) in
    let g = rw (c.runs.ensures, ← c.self.view_is) at f in
    rw (← c.self.view_is) (least-some (tables_of c.self.inside) c.self.invariant.stands (λ x. is_owned c.self.inside.set c.self.inside.journal.workers c.args.worker (asked (plan_of c.self.inside.set) c.self.inside.journal.past x)) c.in-Some.number g).least

pub returns-in-None-clause-known : goal.returns-in-None-clause-known
returns-in-None-clause-known c =
    let p = is_takeable c.args.self.now c.args.worker in
    let whole = first-rest p c.runs.result.0.now c.runs.result.1.now (sym c.first_takeable.ensures ∙ c.in-None.is) in
    if-first c.first_takeable-in-None.result (filter p c.runs.result.1.now) _ c.first_takeable-in-None.ensures
    (λ x h. let g = rw (c.runs.ensures, ← c.self.view_is) at (whole ∙ h) in rw (← c.self.view_is) (least-some (tables_of c.self.inside) c.self.invariant.stands (λ x. is_owned c.self.inside.set c.self.inside.journal.workers c.args.worker (asked (plan_of c.self.inside.set) c.self.inside.journal.past x)) x g).known)

pub returns-in-None-clause-owner : goal.returns-in-None-clause-owner
returns-in-None-clause-owner c =
    let p = is_takeable c.args.self.now c.args.worker in
    let whole = first-rest p c.runs.result.0.now c.runs.result.1.now (sym c.first_takeable.ensures ∙ c.in-None.is) in
    if-first c.first_takeable-in-None.result (filter p c.runs.result.1.now) _ c.first_takeable-in-None.ensures
    (λ x h. let g = rw (c.runs.ensures, ← c.self.view_is) at (whole ∙ h) in rw (← c.self.view_is) (owner-is _ _ _ (least-some (tables_of c.self.inside) c.self.invariant.stands (λ x. is_owned c.self.inside.set c.self.inside.journal.workers c.args.worker (asked (plan_of c.self.inside.set) c.self.inside.journal.past x)) x g).passes))

pub returns-in-None-clause-least : goal.returns-in-None-clause-least
returns-in-None-clause-least c =
    let p = is_takeable c.args.self.now c.args.worker in
    let whole = first-rest p c.runs.result.0.now c.runs.result.1.now (sym c.first_takeable.ensures ∙ c.in-None.is) in
    if-first c.first_takeable-in-None.result (filter p c.runs.result.1.now) _ c.first_takeable-in-None.ensures
    (λ x h. let g = rw (c.runs.ensures, ← c.self.view_is) at (whole ∙ h) in rw (← c.self.view_is) (least-some (tables_of c.self.inside) c.self.invariant.stands (λ x. is_owned c.self.inside.set c.self.inside.journal.workers c.args.worker (asked (plan_of c.self.inside.set) c.self.inside.journal.past x)) x g).least)

pub returns-in-None-clause-none : goal.returns-in-None-clause-none
returns-in-None-clause-none c =
    let p = is_takeable c.args.self.now c.args.worker in
    let whole = first-rest p c.runs.result.0.now c.runs.result.1.now (sym c.first_takeable.ensures ∙ c.in-None.is) in
    if-none-first c.first_takeable-in-None.result (filter p c.runs.result.1.now) c.first_takeable-in-None.ensures
    (λ h. let g = rw (c.runs.ensures, ← c.self.view_is) at (whole ∙ h) in
    rw (← c.self.view_is) (least-none (tables_of c.self.inside) c.self.invariant.stands (λ x. is_owned c.self.inside.set c.self.inside.journal.workers c.args.worker (asked (plan_of c.self.inside.set) c.self.inside.journal.past x)) g))
