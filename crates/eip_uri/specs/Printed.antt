-- The printed form of a URI: scheme, colon, rest, and the options that differ from their default, in byte order of the name.
use Rattle.std.specs.Prelude.{ℕ, Bool, true, false, ◌==◌, not, bytes_eq, codes, decimal, List, [], ◌∷◌, ◌++◌, Option, Some, None}
use Rattle.eip_uri.specs.declared.uri.Uri.{Uri}
use Rattle.eip_uri.specs.declared.uri.Uri.TheVariants as uri
use Rattle.eip_uri.specs.declared.uri.After.{After}
use Rattle.eip_uri.specs.declared.uri.After.TheVariants as after
use Rattle.eip_uri.specs.declared.uri.Exist.{Exist}
use Rattle.eip_uri.specs.declared.uri.Exist.TheVariants as exist

-- an option with its value
abbrev pub Given : Type 0
Given = List ℕ × List ℕ

-- the options, each behind a mark: `?` before the first, `&` before the others
abbrev pub query : ℕ → List Given → List ℕ
query mark [] = []
query mark (o ∷ os) = (mark ∷ o.0) ++ (codes "=" ++ (o.1 ++ query 38 os))

-- an option where it differs from its default
abbrev pub where_not : Bool → List ℕ → List ℕ → List Given
where_not true name value = []
where_not false name value = (name, value) ∷ []

abbrev pub exist_word : Exist → List ℕ
exist_word exist.Override = codes "Override"
exist_word exist.Append = codes "Append"
exist_word exist.Fail = codes "Fail"
exist_word exist.Ignore = codes "Ignore"

abbrev pub is_override : Exist → Bool
is_override exist.Override = true
is_override _ = false

abbrev pub failed_options : Option (List ℕ) → List Given
failed_options None = []
failed_options (Some folder) = (codes "moveFailed", folder) ∷ []

abbrev pub file_options : After → Option (List ℕ) → Exist → List Given
file_options after.Delete failed e = (codes "delete", codes "true") ∷ (where_not (is_override e) (codes "fileExist") (exist_word e) ++ failed_options failed)
file_options after.Noop failed e = where_not (is_override e) (codes "fileExist") (exist_word e) ++ (failed_options failed ++ (codes "noop", codes "true") ∷ [])
file_options (after.Move folder) failed e =
    where_not (is_override e) (codes "fileExist") (exist_word e) ++ (where_not (bytes_eq folder (codes ".camel")) (codes "move") folder ++ failed_options failed)

abbrev pub seda_options : ℕ → ℕ → Bool → List Given
seda_options size consumers discard =
    where_not (consumers == 1) (codes "concurrentConsumers") (decimal consumers)
    ++ (where_not (not discard) (codes "discardWhenFull") (codes "true") ++ where_not (size == 1000) (codes "size") (decimal size))

unfoldable pub printed : Uri → List ℕ
printed (uri.Direct name) = codes "direct:" ++ name
printed (uri.Seda name size consumers discard) = codes "seda:" ++ (name ++ query 63 (seda_options size consumers discard))
printed (uri.File folder after failed exist) = codes "file:" ++ (folder ++ query 63 (file_options after failed exist))
printed uri.StreamIn = codes "stream:in"
printed (uri.Log name) = codes "log:" ++ name
printed (uri.Line host port) = codes "line:" ++ (host ++ (codes ":" ++ decimal port))
printed (uri.Listen port) = codes "line:listen:" ++ decimal port
printed (uri.Lane name) = codes "lane:" ++ name
printed (uri.Load n) = codes "load:" ++ decimal n
