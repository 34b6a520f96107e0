use Rattle.std.proofs.Common.{◌≡◌, ◌++◌, drop}
use Rattle.eip_route.specs.Nest.{catch_numbers}
use Rattle.eip_route_canonical.proofs.steps.push_catches.Given as goal

abbrev pub invariant-loop-catch : goal.invariant-loop-catch
invariant-loop-catch l = l.numbers.items ++ catch_numbers (drop l.catch-index l.catches) ≡ l.fn.numbers.items ++ catch_numbers l.catches
