-- Steps that fit are of the right form, so numbering their blocks loses nothing.
use Rattle.std.proofs.Common.{◌≡◌, ℕ, suc, ◌+◌, List, [], ◌∷◌, All, arith}
use Rattle.eip_route.specs.Nest.{NestedStep, NestedSteps, NestedGroups, NestedLast, NestedClause, NestedRoute, NestedSet, leaf, holds, none, more, no_group, group, no_last, last, flat_set, un_set}
use Rattle.eip_route.specs.declared.route.Names.{Names}
use Rattle.eip_route_validity.proofs.GoodSteps.{bare_leaf, frame_named}
use Rattle.eip_route_validity.specs.Fit.{StepsFit, StepFits, GroupsFit, LastFits, ClauseFits, RouteFits, SetFits}
use Rattle.eip_route_print.specs.Formed.{AreFormed, StepFormed, GroupsFormed, LastFormed, ClausesFormed, RoutesFormed, SetFormed}
use Rattle.eip_route_print.proofs.Numbered.{back_set}

mutual
  steps_formed : (n : Names) (d : ℕ) (ss : NestedSteps) → StepsFit n d ss → AreFormed ss
  steps_formed n d none h = tt
  steps_formed n d (more s ss) h = (step_formed n d s h.0, steps_formed n d ss h.1)

  step_formed : (n : Names) (d : ℕ) (s : NestedStep) → StepFits n d s → StepFormed s
  step_formed n d (leaf s) h = bare_leaf n s h
  step_formed n d (holds f gs) h = (h.0.number, (frame_named n f h.0.setting, groups_formed n d gs h.1))

  groups_formed : (n : Names) (d : ℕ) (gs : NestedGroups) → GroupsFit n d gs → GroupsFormed gs
  groups_formed n d no_group h = tt
  groups_formed n d (group ss gs) h = (steps_formed n (d + 1) ss h.0.1, groups_formed n d gs h.1)

last_formed : (n : Names) (d : ℕ) (o : NestedLast) → LastFits n d o → LastFormed o
last_formed n d no_last h = tt
last_formed n d (last ss) h = steps_formed n (d + 1) ss h.1

clauses_formed : (n : Names) (cs : List NestedClause) → All (ClauseFits n) cs → ClausesFormed cs
clauses_formed n [] h = tt
clauses_formed n (c ∷ cs) h =
    let fits : ClauseFits n c = h 0 c (omega arith) in
    (last_formed n 0 c.steps fits.steps, clauses_formed n cs (λ k d l. h (suc k) d (omega arith)))

routes_formed : (n : Names) (rs : List NestedRoute) → All (RouteFits n) rs → RoutesFormed rs
routes_formed n [] h = tt
routes_formed n (r ∷ rs) h =
    let fits : RouteFits n r = h 0 r (omega arith) in
    (steps_formed n 1 r.steps fits.steps.1, routes_formed n rs (λ k d l. h (suc k) d (omega arith)))

pub set_formed : (n : Names) (x : NestedSet) → SetFits n x → SetFormed x
set_formed n x h = (clauses_formed n x.clauses h.clauses, routes_formed n x.routes h.routes)

pub back_fitting : (n : Names) (x : NestedSet) → SetFits n x → un_set (flat_set n x) ≡ x
back_fitting n x h = back_set n x (set_formed n x h)
