use Rattle.std.proofs.Common.{◌≡◌, eqb, drop}
use Rattle.std.specs.List.{list_any}
use Rattle.eip_route.specs.Nest.{case_numbers}
use Rattle.eip_tables.proofs.around.is_in_cases.Given as goal

abbrev pub invariant-loop-case : goal.invariant-loop-case
invariant-loop-case l = list_any (λ i. eqb i l.block) (case_numbers l.cases) ≡ list_any (λ i. eqb i l.block) (case_numbers (drop l.case-index l.cases))
