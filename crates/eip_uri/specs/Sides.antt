-- Where a URI may stand in a route.
use Rattle.std.specs.Prelude.{Bool, true, false}
use Rattle.eip_uri.specs.declared.uri.Uri.{Uri}
use Rattle.eip_uri.specs.declared.uri.Uri.TheVariants as uri

-- whether it may stand at `from`
abbrev pub is_consumer : Uri → Bool
is_consumer (uri.Log name) = false
is_consumer (uri.Line host port) = false
is_consumer (uri.Lane name) = false
is_consumer _ = true

-- whether it may stand at `to`
abbrev pub is_producer : Uri → Bool
is_producer uri.StreamIn = false
is_producer (uri.Listen port) = false
is_producer (uri.Load n) = false
is_producer _ = true
