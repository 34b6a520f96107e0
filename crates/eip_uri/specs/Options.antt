-- The options of a URI: which there are in a text, which are faulty, and what they say.
use Rattle.std.specs.Prelude.{◌≡◌, ℕ, Bool, true, false, ◌&&◌, ◌||◌, ◌==◌, not, nat_le, List, [], ◌∷◌, ◌++◌, length, map, codes, Option, Some, None, option_and_then, unwrap_or, Result, Ok, Err, if◌then◌else◌}
use denote.Ref.{Bor}
use Rattle.std.specs.Option.{is_some, option_or, option_map_or}
use Rattle.std.specs.List.{list_all, list_any}
use Rattle.std.specs.Str.{bytes_eq}
use Rattle.eip_text.specs.Counts.{count_of}
use Rattle.eip_text.specs.Cuts.{behind, cut, holds_byte, pieces}
use Rattle.eip_uri.specs.declared.uri.Exist.{Exist}
use Rattle.eip_uri.specs.declared.uri.Exist.TheVariants as exist
use Rattle.eip_uri.specs.declared.scheme.Scheme.{Scheme}
use Rattle.eip_uri.specs.declared.scheme.Scheme.TheVariants as scheme
use Rattle.eip_uri.specs.declared.scheme.Values.{Values}
use Rattle.eip_uri.specs.declared.scheme.Values.TheVariants as values
use Rattle.eip_uri.specs.declared.fault.UriFault.{UriFault}
use Rattle.eip_uri.specs.declared.fault.UriFault.TheVariants as fault

-- ---- values

-- the count from `low` to `high` whose decimal text this is
abbrev pub within : ℕ → ℕ → Option ℕ → Option ℕ
within low high None = None
within low high (Some n) = if nat_le low n && nat_le n high then Some n else None

-- whether the word stands in the text
abbrev pub holds_word : List ℕ → List ℕ → Bool
holds_word w [] = is_some (behind w [])
holds_word w (b ∷ bs) = is_some (behind w (b ∷ bs)) || holds_word w bs

-- a byte that is neither a control byte nor `?`
abbrev pub is_folder_byte : ℕ → Bool
is_folder_byte b = nat_le 32 b && (not (b == 127) && not (b == 63))

-- 1 to 200 bytes, none of them a control byte or `?`, without `${`
unfoldable pub is_folder : List ℕ → Bool
is_folder bs = (nat_le 1 (length bs) && nat_le (length bs) 200) && (list_all is_folder_byte bs && not (holds_word (codes "${") bs))

abbrev pub is_flag : List ℕ → Bool
is_flag v = bytes_eq v (codes "true") || bytes_eq v (codes "false")

unfoldable pub exist_of : List ℕ → Option Exist
exist_of v =
    if bytes_eq v (codes "Override") then Some exist.Override
    else (if bytes_eq v (codes "Append") then Some exist.Append
    else (if bytes_eq v (codes "Fail") then Some exist.Fail
    else (if bytes_eq v (codes "Ignore") then Some exist.Ignore else None)))

unfoldable pub is_level : List ℕ → Bool
is_level v = bytes_eq v (codes "TRACE") || (bytes_eq v (codes "DEBUG") || (bytes_eq v (codes "INFO") || (bytes_eq v (codes "WARN") || bytes_eq v (codes "ERROR"))))

-- whether an option that takes these values may have this one
unfoldable pub has : Values → List ℕ → Bool
has (values.Count low high) v = is_some (within low high (count_of v))
has values.Flag v = is_flag v
has values.Folder v = is_folder v && not (holds_byte 38 v)
has values.Exist v = is_some (exist_of v)
has values.Level v = is_level v

-- the options that each scheme has, with the values that each takes
unfoldable pub values_of : Scheme → List ℕ → Option Values
values_of scheme.Seda name =
    if bytes_eq name (codes "size") then Some (values.Count 1 100000)
    else (if bytes_eq name (codes "concurrentConsumers") then Some (values.Count 1 64)
    else (if bytes_eq name (codes "discardWhenFull") then Some values.Flag else None))
values_of scheme.File name =
    if bytes_eq name (codes "noop") then Some values.Flag
    else (if bytes_eq name (codes "delete") then Some values.Flag
    else (if bytes_eq name (codes "move") then Some values.Folder
    else (if bytes_eq name (codes "moveFailed") then Some values.Folder
    else (if bytes_eq name (codes "fileExist") then Some values.Exist else None))))
values_of scheme.Log name = if bytes_eq name (codes "level") then Some values.Level else None
values_of _ name = None

-- ---- the options of a text

-- an option: a name and a value, or a text without `=` in the place of both
abbrev pub Entry : Type 0
Entry = List ℕ × Option (List ℕ)

abbrev pub entry_at : List ℕ → Option (List ℕ × List ℕ) → Entry
entry_at piece None = (piece, None)
entry_at piece (Some p) = (p.0, Some p.1)

-- a piece of a query, cut at its first `=`
abbrev pub entry : List ℕ → Entry
entry piece = entry_at piece (cut 61 piece)

abbrev pub pair_entry : List ℕ × List ℕ → Entry
pair_entry p = (p.0, Some p.1)

abbrev pub query_entries : Option (List ℕ) → List Entry
query_entries None = []
query_entries (Some query) = map entry (pieces 38 query)

-- all options, those of the query first
abbrev pub entries : Option (List ℕ) → List (List ℕ × List ℕ) → List Entry
entries query parameters = query_entries query ++ map pair_entry parameters

-- ---- faults

-- an option's fault: first by its name, then for being repeated, then by its value
abbrev pub judged : Option Values → Bool → List ℕ → List ℕ → Option UriFault
judged None repeated name value = Some (fault.UnknownOption name)
judged (Some v) true name value = Some (fault.DoubleOption name)
judged (Some v) false name value = if has v value then None else Some (fault.BadOption name)

-- the fault of an option that stands behind these options
abbrev pub entry_fault : Scheme → List Entry → Entry → Option UriFault
entry_fault s before (text, None) = Some (fault.BadOption text)
entry_fault s before (name, Some value) = judged (values_of s name) (list_any (λ e. bytes_eq e.0 name) before) name value

-- the fault of the first faulty option, behind these
abbrev pub first_fault : Scheme → List Entry → List Entry → Option UriFault
first_fault s before [] = None
first_fault s before (e ∷ es) = option_or (entry_fault s before e) (first_fault s (before ++ e ∷ []) es)

-- ---- what options say

-- the value of the option of this name
abbrev pub value_of : List ℕ → List Entry → Option (List ℕ)
value_of name [] = None
value_of name (e ∷ es) = if bytes_eq e.0 name then e.1 else value_of name es

abbrev pub count_given : Option (List ℕ) → ℕ → ℕ
count_given value default = unwrap_or (option_and_then count_of value) default

abbrev pub flag_given : Option (List ℕ) → Bool
flag_given value = option_map_or (λ v. bytes_eq v (codes "true")) value false

abbrev pub exist_given : Option (List ℕ) → Exist
exist_given value = unwrap_or (option_and_then exist_of value) exist.Override

-- ---- as they lie in memory

-- the options of these texts
abbrev pub now_entries : List (Bor (List ℕ) × Bor (List ℕ)) → List Entry
now_entries xs = map (λ x. (x.0.now, Some x.1.now)) xs

-- a fault that is this one, or want of memory
abbrev pub IsFault : UriFault → Option UriFault → Type 0
IsFault fault.NoMemory found = Unit {0}
IsFault e found = found ≡ Some e

-- the options became more by these, or one of these is faulty, or memory ran out
abbrev pub Adds : Scheme → List Entry → List Entry → List Entry → Result (Unit {0}) UriFault → Type 0
Adds s before es now (Ok _) = (first_fault s before es ≡ None) × (now ≡ before ++ es)
Adds s before es now (Err e) = IsFault e (first_fault s before es)

abbrev pub AddsOne : Scheme → List Entry → Entry → List Entry → Result (Unit {0}) UriFault → Type 0
AddsOne s before e now (Ok _) = (entry_fault s before e ≡ None) × (now ≡ before ++ e ∷ [])
AddsOne s before e now (Err f) = IsFault f (entry_fault s before e)
