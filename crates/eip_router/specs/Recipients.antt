-- The endpoints that a text lists.
use Rattle.std.specs.Prelude.{◌≡◌, ℕ, suc, true, nat_le, List, [], ◌∷◌, length, Option, Some, None, Result, Ok, Err, if◌then◌else◌}
use Rattle.eip_pieces.specs.Pieces.{pieces}
use Rattle.eip_uri.specs.declared.uri.Uri.{Uri}
use Rattle.eip_uri.specs.declared.fault.UriFault.{UriFault}
use Rattle.eip_uri.specs.Printed.{printed}
use Rattle.eip_uri.specs.Reading.{read}
use Rattle.eip_uri.specs.Sides.{is_producer}
use Rattle.eip_router.specs.Blanks.{trimmed}
use Rattle.eip_router.specs.declared.fault.RecipientFault.{RecipientFault}
use Rattle.eip_router.specs.declared.fault.RecipientFault.TheVariants as fault

-- an item before others, where it isn't empty
abbrev pub kept : List ℕ → List (List ℕ) → List (List ℕ)
kept [] items = items
kept (b ∷ bs) items = (b ∷ bs) ∷ items

-- the items that are not empty, without the blanks round them
abbrev pub items_of : List (List ℕ) → List (List ℕ)
items_of [] = []
items_of (p ∷ ps) = kept (trimmed p) (items_of ps)

-- ---- endpoints

-- a message may be sent to it
abbrev pub where_producer : Result Uri UriFault → Option Uri
where_producer (Ok u) = if is_producer u then Some u else None
where_producer (Err e) = None

-- the endpoint that an item names, where a message may be sent to it
unfoldable pub recipient : List ℕ → Option Uri
recipient item = where_producer (read item [])

-- the item at this place before the others; the first bad one decides
abbrev pub before : Option Uri → ℕ → Result (List Uri) RecipientFault → Result (List Uri) RecipientFault
before None place others = Err (fault.BadRecipient place)
before (Some u) place (Ok us) = Ok (u ∷ us)
before (Some u) place (Err e) = Err e

-- the endpoints of the items from this place on
abbrev pub read_from : ℕ → List (List ℕ) → Result (List Uri) RecipientFault
read_from place [] = Ok []
read_from place (item ∷ items) = before (recipient item) place (read_from (suc place) items)

abbrev pub read_within_limit : List (List ℕ) → Result (List Uri) RecipientFault
read_within_limit items = if nat_le (length items) 10000 then read_from 0 items else Err (fault.TooManyParts (length items))

-- the endpoints that the text lists between the delimiters, or the fault
unfoldable pub recipients : List ℕ → List ℕ → Result (List Uri) RecipientFault
recipients delimiter value = read_within_limit (items_of (pieces delimiter value))

-- ---- what they are

-- each is read again from its printed form, and a message may be sent to it
abbrev pub AreTargets : List Uri → Type 0
AreTargets [] = Unit {0}
AreTargets (u ∷ us) = ((read (printed u) [] ≡ Ok u) × (is_producer u ≡ true)) × AreTargets us
