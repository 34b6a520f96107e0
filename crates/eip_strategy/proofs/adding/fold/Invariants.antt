use Rattle.std.proofs.Common.{◌≡◌, Ok, drop}
use Rattle.std.specs.Prelude.{fold}
use Rattle.std.specs.Option.{option_map}
use Rattle.eip_strategy.specs.Adding.{IsReady}
use Rattle.eip_strategy.specs.Folding.{added_to, folded}
use Rattle.eip_strategy.specs.Growing.{grown}
use Rattle.eip_strategy.proofs.adding.fold.Given as goal

abbrev pub invariant-loop-part : goal.invariant-loop-part
invariant-loop-part l = record {
  so_far : fold (added_to l.strategy) (Ok (option_map grown l.so_far)) (drop l.part-index l.parts) ≡ folded l.strategy l.parts;
  ready : IsReady l.strategy (option_map grown l.so_far);
}
