-- What a birth and its answers so far give.
use Rattle.eip_exchange.specs.declared.message.Message.{Message}
use Rattle.eip_exchange.specs.declared.end.End.{End}
use Rattle.eip_frames.specs.declared.request.At.{At}
use Rattle.eip_frames.specs.declared.request.Request.{Request}

-- the exchange asks a request at a place, or it ends with a message, or the answers are no run of its route
pub data Fate : Type 0 where
  AsksNext : Request → At → Fate
  Ends : End → Message → Fate
  Strays : Fate
