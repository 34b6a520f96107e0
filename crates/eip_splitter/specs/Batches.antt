-- The messages of a packed batch as parts, in the order of their keys.
use Rattle.std.specs.List.{IsDistinct}
use Rattle.std.specs.List.Sorted.{IsPermutation, IsSortedBy, IsStableBy}
use Rattle.std.specs.Prelude.{◌≡◌, ◌≤◌, ℕ, suc, Bool, true, false, not, ◌&&◌, nat_le, List, [], ◌∷◌, ◌++◌, length, map, bytes_eq, Option, Some, None, is_none, option_map, option_and_then, Result, Ok, Err, if◌then◌else◌}
use Rattle.eip_exchange.specs.Headers.{same_name, get_header, counted, is_one_too_many}
use Rattle.eip_exchange.specs.Pairs.{Pairs, names, value_of, get_property}
use Rattle.eip_exchange.specs.declared.message.Message.{Message}
use Rattle.eip_exchange.specs.declared.setting.Key.{Key}
use Rattle.eip_exchange.specs.declared.setting.Key.TheVariants as key
use Rattle.eip_resequence.specs.Order.{Arrival, ordered_messages, comes_before}
use Rattle.eip_resequence.specs.Unpacking.{unpacked}
use Rattle.eip_resequence.specs.declared.packed.Packed.{Packed}
use Rattle.eip_splitter.specs.declared.fault.SplitFault.{SplitFault}
use Rattle.eip_splitter.specs.declared.fault.SplitFault.TheVariants as fault
use Rattle.eip_splitter.specs.Parts.{within_limit, marked}

-- ---- what may stand in a message

-- each name is new behind those before it
abbrev pub are_new : (List ℕ → List ℕ → Bool) → Pairs → Pairs → Bool
are_new same before [] = true
are_new same before (p ∷ ps) = is_none (value_of same p.0 before) && are_new same (before ++ p ∷ []) ps

-- no two names are equal up to ASCII case, and there are at most 64 beside the two of redelivery
abbrev pub are_headers : Pairs → Bool
are_headers hs = are_new same_name [] hs && nat_le (counted hs) 64

-- no two names are equal
abbrev pub are_properties : Pairs → Bool
are_properties ps = are_new bytes_eq [] ps

-- a header of this name may be set behind these: it isn't there, and isn't one too many
abbrev pub may_add : List ℕ → Pairs → Bool
may_add name hs = is_none (get_header name hs) && not (is_one_too_many name hs)

-- memory ran out, or the pairs are refused
abbrev pub IsRefused : SplitFault → Bool → Type 0
IsRefused fault.NoMemory fits = Unit {0}
IsRefused fault.NotArray fits = fits ≡ false
IsRefused (fault.TooManyParts n) fits = ⊥

-- memory ran out, or there is nothing
abbrev pub IsNone : {A : Type 0} → SplitFault → Option A → Type 0
IsNone fault.NoMemory o = Unit {0}
IsNone fault.NotArray o = o ≡ None
IsNone (fault.TooManyParts n) o = ⊥

-- ---- the messages of a batch

-- what a message is put in order by
abbrev pub key_in : Key → List ℕ → Pairs → Pairs → Option (List ℕ)
key_in key.Body body headers properties = Some body
key_in (key.Header name) body headers properties = get_header name headers
key_in (key.Property name) body headers properties = get_property name properties

abbrev pub with_key : Key → Packed → Arrival
with_key k p = (key_in k p.body p.headers p.properties, p)

-- the message that was packed, where its headers and properties can be held
abbrev pub message_of : Packed → Option Message
message_of p = if are_headers p.headers && are_properties p.properties then Some (record { body = p.body; headers = p.headers; properties = p.properties }) else None

abbrev pub before : Option Message → Option (List Message) → Option (List Message)
before m ms = option_and_then (λ x. option_map (λ xs. x ∷ xs) ms) m

abbrev pub messages_of : List Packed → Option (List Message)
messages_of [] = Some []
messages_of (p ∷ ps) = before (message_of p) (messages_of ps)

-- the messages in the order of their keys
abbrev pub in_key_order : Key → List Packed → List Packed
in_key_order k ps = ordered_messages (map (with_key k) ps)

-- ---- the parts

-- message k of n, with its place
abbrev pub placed_one : ℕ → ℕ → Message → Message
placed_one n k m = record { body = m.body; headers = m.headers; properties = marked n k m.properties }

-- the messages from message k on, each with its place
abbrev pub placed_from : ℕ → ℕ → List Message → List Message
placed_from n k [] = []
placed_from n k (m ∷ ms) = placed_one n k m ∷ placed_from n (suc k) ms

abbrev pub placed_all : Result (List Message) SplitFault → Result (List Message) SplitFault
placed_all (Ok ms) = Ok (placed_from (length ms) 0 ms)
placed_all (Err e) = Err e

-- the parts of a packed batch, or the fault
unfoldable pub batch_parts : Key → Message → Result (List Message) SplitFault
batch_parts k m = placed_all (within_limit (option_and_then (λ ps. messages_of (in_key_order k ps)) (unpacked m.body)))

-- ---- a batch of messages

-- headers and properties as each message has them: no two names are equal, and there are few enough headers
pub record IsHeld (m : Message) : Type 0 where
  pub headers : IsDistinct same_name (names m.headers)
  pub few : counted m.headers ≤ 64
  pub properties : IsDistinct bytes_eq (names m.properties)

abbrev pub AreHeld : List Message → Type 0
AreHeld [] = Unit {0}
AreHeld (m ∷ ms) = IsHeld m × AreHeld ms

-- a message goes before another by its key
abbrev pub goes_first : Key → Message → Message → Bool
goes_first k a b = comes_before (key_in k a.body a.headers a.properties) (key_in k b.body b.headers b.properties)

-- the parts are all the arrivals, each once, each with its place: none goes before the one in front of it, and those of equal keys stand in order of arrival
pub record IsBatchOf (k : Key) (arrivals : List Message) (parts : Result (List Message) SplitFault) : Type 0 where
  pub ordered : List Message
  pub same : IsPermutation arrivals ordered
  pub rising : IsSortedBy (goes_first k) ordered
  pub ties : IsStableBy (goes_first k) arrivals ordered
  pub parts_are : parts ≡ Ok (placed_from (length arrivals) 0 ordered)
