-- Which inlet a consumer's messages come from.
use Rattle.std.specs.Prelude.{ℕ, List, Option, Some, None, codes}
use Rattle.eip_uri.specs.declared.uri.Uri.{Uri}
use Rattle.eip_uri.specs.declared.uri.Uri.TheVariants as uri

-- the name of the inlet that reads an endpoint, or none where no inlet does
abbrev pub inlet_of : Uri → Option (List ℕ)
inlet_of uri.StreamIn = Some (codes "stream")
inlet_of (uri.File folder after failed exist) = Some (codes "file")
inlet_of (uri.Listen port) = Some (codes "line")
inlet_of (uri.Load n) = Some (codes "load")
inlet_of _ = None
