use Rattle.std.proofs.Common.{◌≡◌, eqb, drop}
use Rattle.std.specs.List.{list_any}
use Rattle.eip_route.specs.Nest.{catch_numbers}
use Rattle.eip_tables.proofs.around.is_in_catches.Given as goal

abbrev pub invariant-loop-catch : goal.invariant-loop-catch
invariant-loop-catch l = list_any (λ i. eqb i l.block) (catch_numbers l.catches) ≡ list_any (λ i. eqb i l.block) (catch_numbers (drop l.catch-index l.catches))
