-- What a try of a step gives.
use Rattle.std.specs.Prelude.{ℕ}
use Rattle.eip_exchange.specs.declared.message.Message.{Message}
use Rattle.eip_frames.specs.declared.request.Request.{Request}
use Rattle.eip_progress.specs.declared.tried.Progress.{Progress}
use Rattle.eip_progress.specs.declared.tried.Tried.{Tried}
use Rattle.eip_progress.specs.declared.tried.Tried.TheVariants as tried

-- it asks, with parts from this index on, and keeps a message
abbrev pub asked : Progress → Request → (index : ℕ) → Message → Tried
asked p q k m = tried.Asks (record { progress = p; request = q; index = k }) m
