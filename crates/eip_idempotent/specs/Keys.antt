-- Who holds which key, by the calls so far, and how a table of keys stands for them.
use Rattle.std.specs.Prelude.{ℕ, ◌≡◌, ◌≤◌, ◌==◌, ◌&&◌, not, min, Bool, true, false, List, [], ◌∷◌, ◌++◌, Option, Some, None, is_some, is_none, option_map, unwrap_or, bytes_eq, if◌then◌else◌}
use Rattle.std.specs.List.{list_any, fold}
use Rattle.std.specs.Map.{lookup}
use Rattle.eip_exchange.specs.declared.end.Ending.{Ending}
use Rattle.eip_exchange.specs.declared.end.Ending.TheVariants as end
use Rattle.eip_idempotent.specs.declared.repo.Offered.{Offered}
use Rattle.eip_idempotent.specs.declared.repo.Offered.TheVariants as offered

-- a repository and a key in it
abbrev pub Key : Type 0
Key = List ℕ × List ℕ

abbrev pub same_key : Key → Key → Bool
same_key a b = bytes_eq a.0 b.0 && bytes_eq a.1 b.1

-- what happened: an exchange offered a key that nobody held and so claimed it, eager or not, to be removed or not where it
-- doesn't complete; or an exchange ended
pub data Call : Type 0 where
  Claimed : Key → ℕ → Bool → Bool → Call
  Settled : ℕ → Ending → Call

-- ---- by the calls so far, the newest first

-- how an exchange ended
abbrev pub end_of : List Call → ℕ → Option Ending
end_of [] x = None
end_of (Claimed key number eager remove ∷ calls) x = end_of calls x
end_of (Settled number end ∷ calls) x = if number == x then Some end else end_of calls x

-- a claim on a key
pub record ClaimView : Type 0 where
  pub key : Key
  -- whether it holds at once
  pub eager : Bool
  -- whether it is given up where its exchange doesn't complete
  pub remove : Bool

abbrev pub claim : Key → Bool → Bool → ClaimView
claim key eager remove = record { key = key; eager = eager; remove = remove }

-- the claims of an exchange, the first one first
abbrev pub claims_of : List Call → ℕ → List ClaimView
claims_of [] x = []
claims_of (Claimed key number eager remove ∷ calls) x = if number == x then claims_of calls x ++ claim key eager remove ∷ [] else claims_of calls x
claims_of (Settled number end ∷ calls) x = claims_of calls x

-- a claim holds its key, where its exchange hasn't ended or ended so
abbrev pub is_held : Option Ending → ClaimView → Bool
is_held None c = c.eager
is_held (Some end.Completed) c = true
is_held (Some end.Handled) c = not c.remove
is_held (Some end.Failed) c = not c.remove

abbrev pub is_on : Key → ClaimView → Bool
is_on k c = same_key c.key k

-- an exchange holds a key: one of its claims on the key holds it
abbrev pub holds : List Call → Key → ℕ → Bool
holds calls k x = list_any (λ c. is_on k c && is_held (end_of calls x) c) (claims_of calls x)

-- the least number of which p says so, where there is one
abbrev pub IsLeast : (ℕ → Bool) → Option ℕ → Type 0
IsLeast p None = (x : ℕ) → p x ≡ false
IsLeast p (Some h) = (p h ≡ true) × ((x : ℕ) → p x ≡ true → h ≤ x)

-- fresh where nobody holds the key, else a duplicate of its least holder
abbrev pub IsAnswer : List Call → Key → Offered → Type 0
IsAnswer calls k offered.Fresh = (x : ℕ) → holds calls k x ≡ false
IsAnswer calls k (offered.Duplicate holder) = (holds calls k holder ≡ true) × ((x : ℕ) → holds calls k x ≡ true → holder ≤ x)

-- the calls behind an offer: only a fresh one claims the key
abbrev pub offered_by : Key → ℕ → Bool → Bool → Offered → List Call → List Call
offered_by key number eager remove offered.Fresh calls = Claimed key number eager remove ∷ calls
offered_by key number eager remove (offered.Duplicate holder) calls = calls

-- ---- the holders of one key

pub record HoldersView : Type 0 where
  -- who holds it and hasn't ended
  pub unended : Option ℕ
  -- the least of those who hold it and have ended
  pub lasting : Option ℕ

abbrev pub nobody : HoldersView
nobody = record { unended = None; lasting = None }

-- a new claim, where nobody else holds the key
abbrev pub held_by : ℕ → Bool → HoldersView
held_by number eager = record { unended = if eager then Some number else None; lasting = None }

-- the lesser of two numbers, where there are any
abbrev pub least : Option ℕ → Option ℕ → Option ℕ
least None b = b
least (Some a) None = Some a
least (Some a) (Some b) = Some (min a b)

abbrev pub least_holder : HoldersView → Option ℕ
least_holder h = least h.unended h.lasting

-- an exchange has ended whose claim was eager or not, and lasts or not
abbrev pub settled : ℕ → Bool → Bool → HoldersView → HoldersView
settled number eager lasts h = record { unended = if eager then None else h.unended; lasting = if lasts then least (Some number) h.lasting else h.lasting }

-- the holders of a key, where an exchange with this claim ended so
abbrev pub settled_claim : ℕ → Ending → Key → ClaimView → HoldersView → HoldersView
settled_claim number end k c h = if is_on k c then settled number c.eager (is_held (Some end) c) h else h

abbrev pub settled_claims : ℕ → Ending → Key → List ClaimView → HoldersView → HoldersView
settled_claims number end k cs h = fold (λ held c. settled_claim number end k c held) h cs

-- ---- tables of keys and of claims

abbrev pub Keys : Type 0
Keys = List (Key × HoldersView)

abbrev pub Claims : Type 0
Claims = List (ℕ × List ClaimView)

pub record Table : Type 0 where
  -- who holds each key
  pub keys : Keys
  -- the claims of each exchange that hasn't ended
  pub claims : Claims

abbrev pub row_at : Keys → Key → Option HoldersView
row_at keys k = lookup (same_key k) keys

abbrev pub holders_at : Keys → Key → HoldersView
holders_at keys k = unwrap_or (row_at keys k) nobody

-- the new table has these holders at a key, and all else as before
abbrev pub PutsKey : Keys → Keys → Key → HoldersView → Type 0
PutsKey old new key holders = (k : Key) → row_at new k ≡ (if same_key key k then Some holders else row_at old k)

abbrev pub value_at : Claims → ℕ → Option (List ClaimView)
value_at claims x = lookup (λ n. x == n) claims

abbrev pub claims_at : Claims → ℕ → List ClaimView
claims_at claims x = unwrap_or (value_at claims x) []

-- the new table has these claims of an exchange, and all else as before
abbrev pub PutsClaims : Claims → Claims → ℕ → Option (List ClaimView) → Type 0
PutsClaims old new number claims = (x : ℕ) → value_at new x ≡ (if number == x then claims else value_at old x)

-- x is this number
abbrev pub is_number : ℕ → Option ℕ → Bool
is_number x None = false
is_number x (Some y) = x == y

-- the key of each claim has a row
abbrev pub HaveRows : Keys → List ClaimView → Type 0
HaveRows keys [] = Unit {0}
HaveRows keys (c ∷ cs) = (is_some (row_at keys c.key) ≡ true) × HaveRows keys cs

-- a table has the claims of each exchange that hasn't ended, and says of each key who holds it
pub record Stands (calls : List Call) (table : Table) : Type 0 where
  pub claims : (x : ℕ) → end_of calls x ≡ None → claims_at table.claims x ≡ claims_of calls x
  pub rows : (x : ℕ) → end_of calls x ≡ None → HaveRows table.keys (claims_of calls x)
  pub unended : (k : Key) (x : ℕ) → (holds calls k x && is_none (end_of calls x)) ≡ is_number x (holders_at table.keys k).unended
  pub lasting : (k : Key) → IsLeast (λ x. holds calls k x && is_some (end_of calls x)) (holders_at table.keys k).lasting
