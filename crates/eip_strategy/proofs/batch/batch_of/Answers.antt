use Rattle.std.proofs.Common.{ap}
use Rattle.std.specs.Option.{option_map}
use Rattle.eip_strategy.specs.Growing.{grown}
use Rattle.eip_strategy.proofs.Packed.{empty_batch}
use Rattle.eip_strategy.proofs.batch.batch_of.Goals as goal

pub returns-in_ok-from_str-in-None : goal.returns-in_ok-from_str-in-None
returns-in_ok-from_str-in-None c = empty_batch _ _ _ (option_map grown c.args.so_far) c.in_ok-from_str-in-None.ensures.ok c.new.ensures c.new-in-None.ensures (ap (option_map grown) c.in-None.is)
