use Rattle.std.proofs.Common.{◌≡◌, eqb, drop}
use Rattle.std.specs.List.{list_any}
use Rattle.eip_tables.proofs.around.is_among.Given as goal

abbrev pub invariant-loop-number : goal.invariant-loop-number
invariant-loop-number l = list_any (λ i. eqb i l.block) l.numbers ≡ list_any (λ i. eqb i l.block) (drop l.number-index l.numbers)
