-- What is known of a check, and what a try makes of it.
use Rattle.std.specs.Prelude.{Bool}
use Rattle.eip_exchange.specs.declared.message.Message.{Message}
use Rattle.eip_progress.specs.declared.tried.Progress.{Progress}
use Rattle.eip_progress.specs.declared.tried.Tried.{Tried}
use Rattle.eip_progress.specs.Tries.{asked}
use Rattle.eip_parts.specs.declared.checks.Known.{Known}
use Rattle.eip_parts.specs.declared.checks.Known.TheVariants as known

abbrev pub known_tried : Known → Progress → Message → (Bool → Tried) → Tried
known_tried (known.Is holds) g m k = k holds
known_tried (known.Asks q) g m k = asked g q 0 m
