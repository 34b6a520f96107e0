-- What a try of a step gives, by what it has done and the message that it left.
use Rattle.eip_exchange.specs.declared.message.Message.{Message}
use Rattle.eip_progress.specs.declared.tried.Tried.{Tried}
use Rattle.eip_progress.specs.declared.tried.Tried.TheVariants as tried
use Rattle.eip_parts.specs.declared.effect.Effect.{Effect}
use Rattle.eip_parts.specs.declared.effect.Effect.TheVariants as effect

abbrev pub tried_of : Effect → Message → Tried
tried_of effect.Goes m = tried.Goes m
tried_of (effect.Faults f again) m = tried.Faults f again m
tried_of (effect.Asks x) m = tried.Asks x m
tried_of (effect.Enters j) m = tried.Enters j m
tried_of (effect.Calls r) m = tried.Calls r m
