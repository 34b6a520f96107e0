-- The URIs that reading gives: each part is within the range of its form.
use Rattle.std.specs.Prelude.{ℕ, Bool, true, ◌&&◌, not, nat_le, List, bytes_eq, codes, Option, Some, None}
use Rattle.std.specs.Option.{is_none}
use Rattle.eip_text.specs.Cuts.{behind, holds_byte}
use Rattle.eip_text.specs.Names.{is_name}
use Rattle.eip_uri.specs.declared.uri.Uri.{Uri}
use Rattle.eip_uri.specs.declared.uri.Uri.TheVariants as uri
use Rattle.eip_uri.specs.declared.uri.After.{After}
use Rattle.eip_uri.specs.declared.uri.After.TheVariants as after
use Rattle.eip_uri.specs.Options.{is_folder}

abbrev pub is_between : ℕ → ℕ → ℕ → Bool
is_between low high n = nat_le low n && nat_le n high

-- a folder that files may be moved to
abbrev pub is_target : List ℕ → Bool
is_target folder = is_folder folder && not (holds_byte 38 folder)

abbrev pub is_after : After → Bool
is_after (after.Move folder) = is_target folder
is_after _ = true

abbrev pub is_failed : Option (List ℕ) → Bool
is_failed None = true
is_failed (Some folder) = is_target folder

unfoldable pub is_uri : Uri → Bool
is_uri (uri.Direct name) = is_name name
is_uri (uri.Seda name size consumers discard) = is_name name && (is_between 1 100000 size && is_between 1 64 consumers)
is_uri (uri.File folder after failed e) = (is_folder folder && is_none (behind (codes "//") folder)) && (is_after after && is_failed failed)
is_uri uri.StreamIn = true
is_uri (uri.Log name) = is_name name
is_uri (uri.Line host port) = (is_name host && not (bytes_eq host (codes "listen"))) && is_between 1 65535 port
is_uri (uri.Listen port) = is_between 1 65535 port
is_uri (uri.Lane name) = is_name name
is_uri (uri.Load n) = is_between 1 20000 n
