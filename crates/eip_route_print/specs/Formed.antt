-- Nested steps of the right form: a leaf holds no blocks, a frame has as many groups as it is to have, and repositories, where they are named, have Names.
use Rattle.std.specs.Prelude.{◌≡◌, List, [], ◌∷◌, None}
use Rattle.eip_route.specs.Nest.{FrameNamed, HasGroups, NestedStep, NestedSteps, NestedGroups, NestedLast, NestedClause, NestedRoute, NestedSet, leaf, holds, none, more, no_group, group, no_last, last, count, held}

abbrev mutual
  pub AreFormed : NestedSteps → Type 0
  AreFormed none = Unit {0}
  AreFormed (more s ss) = StepFormed s × AreFormed ss

  pub StepFormed : NestedStep → Type 0
  StepFormed (leaf s) = held s ≡ None
  StepFormed (holds f gs) = HasGroups f (count gs) × (FrameNamed f × GroupsFormed gs)

  pub GroupsFormed : NestedGroups → Type 0
  GroupsFormed no_group = Unit {0}
  GroupsFormed (group ss gs) = AreFormed ss × GroupsFormed gs

abbrev pub LastFormed : NestedLast → Type 0
LastFormed no_last = Unit {0}
LastFormed (last ss) = AreFormed ss

abbrev pub ClausesFormed : List NestedClause → Type 0
ClausesFormed [] = Unit {0}
ClausesFormed (c ∷ cs) = LastFormed c.steps × ClausesFormed cs

abbrev pub RoutesFormed : List NestedRoute → Type 0
RoutesFormed [] = Unit {0}
RoutesFormed (r ∷ rs) = AreFormed r.steps × RoutesFormed rs

-- of a whole file
abbrev pub SetFormed : NestedSet → Type 0
SetFormed s = ClausesFormed s.clauses × RoutesFormed s.routes
