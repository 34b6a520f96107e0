-- The parts of a message: which bodies they have, and what else.
use Rattle.std.specs.Prelude.{ℕ, suc, Bool, ◌==◌, nat_le, if◌then◌else◌, List, [], ◌∷◌, length, map, codes, bytes_eq, decimal, Option, Some, None, Result, Ok, Err}
use Rattle.eip_text.specs.Json.{Json, word, list, Items, no_items, item}
use Rattle.eip_text.specs.JsonText.{json_text, items_have_float}
use Rattle.eip_exchange.specs.Pairs.{Pairs, put_property}
use Rattle.eip_exchange.specs.declared.message.Message.{Message}
use Rattle.eip_pieces.specs.Pieces.{pieces}
use Rattle.eip_splitter.specs.declared.fault.SplitFault.{SplitFault}
use Rattle.eip_splitter.specs.declared.fault.SplitFault.TheVariants as fault

-- ---- the bodies

-- the list without its last item, where that passes the test
abbrev pub without_last : {A : Type 0} → (A → Bool) → List A → List A
without_last test [] = []
without_last test (x ∷ []) = if test x then [] else x ∷ []
without_last test (x ∷ y ∷ ys) = x ∷ without_last test (y ∷ ys)

abbrev pub is_empty : List ℕ → Bool
is_empty bs = length bs == 0

-- a line without one CR at its end
abbrev pub without_cr : List ℕ → List ℕ
without_cr line = without_last (λ b. b == 13) line

abbrev pub ended_one : Bool → List ℕ → List ℕ
ended_one is_line piece = if is_line then without_cr piece else piece

abbrev pub ended : Bool → List (List ℕ) → List (List ℕ)
ended are_lines ps = map (ended_one are_lines) ps

-- the pieces between the places of the token, without a last one that is empty; where the token is LF, each without one CR at its end
abbrev pub token_bodies : List ℕ → List ℕ → List (List ℕ)
token_bodies token body = ended (bytes_eq token (10 ∷ [])) (without_last is_empty (pieces token body))

-- a text as it is, every other value as its compact text
abbrev pub element_text : Json → List ℕ
element_text (word w) = w
element_text j = json_text j

abbrev pub element_texts : Items → List (List ℕ)
element_texts no_items = []
element_texts (item j js) = element_text j ∷ element_texts js

-- the texts of the elements, where each number in them is whole
abbrev pub elements_bodies : Items → Option (List (List ℕ))
elements_bodies js = if items_have_float js then None else Some (element_texts js)

-- the same of a value, where it is an array
abbrev pub array_bodies : Option Json → Option (List (List ℕ))
array_bodies (Some (list js)) = elements_bodies js
array_bodies _ = None

-- ---- how many there may be

abbrev pub count_within_limit : ℕ → Result (Unit {0}) SplitFault
count_within_limit n = if nat_le n 10000 then Ok tt else Err (fault.TooManyParts n)

-- `NotArray` where there are none, and `TooManyParts` beyond the limit
abbrev pub within_limit : {A : Type 0} → Option (List A) → Result (List A) SplitFault
within_limit None = Err fault.NotArray
within_limit (Some ps) = if nat_le (length ps) 10000 then Ok ps else Err (fault.TooManyParts (length ps))

-- ---- the parts

abbrev pub truth : Bool → List ℕ
truth b = if b then codes "true" else codes "false"

-- the properties of part k of n, from 0, where the message has these
unfoldable pub marked : ℕ → ℕ → Pairs → Pairs
marked n k ps =
    put_property (codes "CamelSplitComplete") (truth (suc k == n))
    (put_property (codes "CamelSplitSize") (decimal n)
    (put_property (codes "CamelSplitIndex") (decimal k) ps))

-- part k of n
abbrev pub part : Message → ℕ → ℕ → List ℕ → Message
part m n k body = record { body = body; headers = m.headers; properties = marked n k m.properties }

-- the parts with these bodies, from part k on
abbrev pub parts_from : Message → ℕ → ℕ → List (List ℕ) → List Message
parts_from m n k [] = []
parts_from m n k (b ∷ bs) = part m n k b ∷ parts_from m n (suc k) bs

abbrev pub parts_of : Message → Result (List (List ℕ)) SplitFault → Result (List Message) SplitFault
parts_of m (Ok bs) = Ok (parts_from m (length bs) 0 bs)
parts_of m (Err e) = Err e
