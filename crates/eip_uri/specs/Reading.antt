-- Which text with which parameters is which URI, or has which first fault.
use Rattle.std.specs.Prelude.{◌≡◌, ℕ, ◌+◌, Bool, true, false, ◌&&◌, ◌||◌, List, [], length, codes, Option, Some, None, option_map, option_and_then, unwrap_or, Result, Ok, Err, if◌then◌else◌}
use Rattle.std.specs.Option.{is_some, is_none}
use Rattle.std.specs.Str.{bytes_eq}
use Rattle.eip_text.specs.Counts.{count_of}
use Rattle.eip_text.specs.Cuts.{behind, cut}
use Rattle.eip_text.specs.Names.{is_name}
use Rattle.eip_uri.specs.declared.uri.Uri.{Uri}
use Rattle.eip_uri.specs.declared.uri.Uri.TheVariants as uri
use Rattle.eip_uri.specs.declared.uri.After.{After}
use Rattle.eip_uri.specs.declared.uri.After.TheVariants as after
use Rattle.eip_uri.specs.declared.uri.Exist.TheVariants as exist
use Rattle.eip_uri.specs.declared.scheme.Scheme.{Scheme}
use Rattle.eip_uri.specs.declared.scheme.Scheme.TheVariants as scheme
use Rattle.eip_uri.specs.declared.fault.UriFault.{UriFault}
use Rattle.eip_uri.specs.declared.fault.UriFault.TheVariants as fault
use Rattle.eip_uri.specs.Options.{within, is_folder, Entry, entries, first_fault, value_of, count_given, flag_given, exist_given}

unfoldable pub scheme_of : List ℕ → Option Scheme
scheme_of name =
    if bytes_eq name (codes "direct") then Some scheme.Direct
    else (if bytes_eq name (codes "seda") then Some scheme.Seda
    else (if bytes_eq name (codes "file") then Some scheme.File
    else (if bytes_eq name (codes "stream") then Some scheme.Stream
    else (if bytes_eq name (codes "log") then Some scheme.Log
    else (if bytes_eq name (codes "line") then Some scheme.Line
    else (if bytes_eq name (codes "lane") then Some scheme.Lane
    else (if bytes_eq name (codes "load") then Some scheme.Load else None)))))))

-- ---- the part behind the scheme

-- a host and a port, or the word `listen` and a port
abbrev pub line_at : List ℕ → ℕ → Option Uri
line_at host port = if bytes_eq host (codes "listen") then Some (uri.Listen port) else (if is_name host then Some (uri.Line host port) else None)

abbrev pub line_parts : Option (List ℕ × List ℕ) → Option Uri
line_parts None = None
line_parts (Some p) = option_and_then (line_at p.0) (within 1 65535 (count_of p.1))

-- the URI that this text names, each option at its default
unfoldable pub plain : Scheme → List ℕ → Option Uri
plain scheme.Direct rest = if is_name rest then Some (uri.Direct rest) else None
plain scheme.Seda rest = if is_name rest then Some (uri.Seda rest 1000 1 false) else None
plain scheme.File rest = if is_folder rest && is_none (behind (codes "//") rest) then Some (uri.File rest (after.Move (codes ".camel")) None exist.Override) else None
plain scheme.Stream rest = if bytes_eq rest (codes "in") then Some uri.StreamIn else None
plain scheme.Log rest = if is_name rest then Some (uri.Log rest) else None
plain scheme.Line rest = line_parts (cut 58 rest)
plain scheme.Lane rest = if is_name rest then Some (uri.Lane rest) else None
plain scheme.Load rest = option_map (λ n. uri.Load n) (within 1 20000 (count_of rest))

-- a text without the two slashes in front
abbrev pub unslashed : List ℕ → List ℕ
unslashed rest = unwrap_or (behind (codes "//") rest) rest

-- ---- the options at work

-- what becomes of a file, where these three options stand so
abbrev pub after_given : Bool → Bool → Option (List ℕ) → After
after_given true delete folder = after.Noop
after_given false true folder = after.Delete
after_given false false folder = after.Move (unwrap_or folder (codes ".camel"))

abbrev pub file_given : List ℕ → Bool → Bool → Option (List ℕ) → Option (List ℕ) → Option (List ℕ) → Result Uri UriFault
file_given folder noop delete to failed e =
    if delete && noop then Err (fault.BadOption (codes "delete"))
    else (if is_some to && (noop || delete) then Err (fault.BadOption (codes "move"))
    else Ok (uri.File folder (after_given noop delete to) failed (exist_given e)))

abbrev pub file_with : List ℕ → List Entry → Result Uri UriFault
file_with folder es =
    file_given folder (flag_given (value_of (codes "noop") es)) (flag_given (value_of (codes "delete") es)) (value_of (codes "move") es) (value_of (codes "moveFailed") es) (value_of (codes "fileExist") es)

-- the URI with the options that are given
unfoldable pub with_options : Uri → List Entry → Result Uri UriFault
with_options (uri.Seda name size consumers discard) es =
    Ok (uri.Seda name (count_given (value_of (codes "size") es) size) (count_given (value_of (codes "concurrentConsumers") es) consumers) (flag_given (value_of (codes "discardWhenFull") es)))
with_options (uri.File folder after failed e) es = file_with folder es
with_options u es = Ok u

-- ---- the whole

abbrev pub settled : Uri → Option UriFault → List Entry → Result Uri UriFault
settled u (Some e) es = Err e
settled u None es = with_options u es

abbrev pub placed : ℕ → Scheme → Option Uri → List Entry → Result Uri UriFault
placed at s None es = Err (fault.BadUri at)
placed at s (Some u) es = settled u (first_fault s [] es) es

-- the text before a query, and the query
abbrev pub query_at : List ℕ → Option (List ℕ × List ℕ) → List ℕ × Option (List ℕ)
query_at rest None = (rest, None)
query_at rest (Some p) = (p.0, Some p.1)

abbrev pub split_query : List ℕ → List ℕ × Option (List ℕ)
split_query rest = query_at rest (cut 63 rest)

-- the URI of a scheme whose other part begins at the byte `at`
abbrev pub in_scheme : ℕ → Option Scheme → List ℕ × Option (List ℕ) → List (List ℕ × List ℕ) → Result Uri UriFault
in_scheme at None rest parameters = Err fault.UnknownScheme
in_scheme at (Some s) rest parameters = placed at s (plain s (unslashed rest.0)) (entries rest.1 parameters)

abbrev pub at_colon : Option (List ℕ × List ℕ) → List (List ℕ × List ℕ) → Result Uri UriFault
at_colon None parameters = Err (fault.BadUri 0)
at_colon (Some p) parameters = in_scheme (length p.0 + 1) (scheme_of p.0) (split_query p.1) parameters

-- the URI that a text and its parameters are, or their first fault
unfoldable pub read : List ℕ → List (List ℕ × List ℕ) → Result Uri UriFault
read text parameters = at_colon (cut 58 text) parameters

-- a call's answer: what the text is, unless memory ran out
abbrev pub Says : Result Uri UriFault → Result Uri UriFault → Type 0
Says (Ok u) found = found ≡ Ok u
Says (Err fault.NoMemory) found = Unit {0}
Says (Err e) found = found ≡ Err e
