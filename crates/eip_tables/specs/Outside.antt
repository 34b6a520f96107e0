-- The numbers of the exchanges that are known to wait for somebody outside.
use Rattle.std.specs.Prelude.{ℕ, ◌≡◌, ◌==◌, ◌||◌, not, Bool, false, cond, List, [], ◌∷◌, Some, filter}
use Rattle.eip_frames.specs.declared.request.Request.{Request}
use Rattle.eip_history.specs.Plan.{Plan}
use Rattle.eip_history.specs.Own.{Past}
use Rattle.eip_history.specs.Births.{Asked, asked}
use Rattle.eip_history.specs.Tables.{without, put_in}
use Rattle.eip_tables.specs.declared.asking.Inner.{Inner}
use Rattle.eip_tables.specs.declared.asking.Inner.TheVariants.{Did, Outside}

-- a number is one of a list
abbrev pub is_among : ℕ → List ℕ → Bool
is_among x [] = false
is_among x (y ∷ ys) = (y == x) || is_among x ys

-- rising numbers with one more, if it isn't among them yet
abbrev pub with_number : ℕ → List ℕ → List ℕ
with_number x xs = put_in x (without x xs)

-- the numbers known as Outside behind a look at an exchange, by whether it asks somebody outside
abbrev pub outside_looked : Bool → ℕ → List ℕ → List ℕ
outside_looked asks x xs = cond asks (with_number x xs) xs

-- what a look at an exchange and its entry, if one came, make of the numbers known as Outside: it joins them, or its entry takes it out
abbrev pub outside_after : Inner → ℕ → List ℕ → List ℕ
outside_after Outside x xs = with_number x xs
outside_after Did x xs = without x xs

-- the numbers that are not known as Outside
abbrev pub unlooked_numbers : List ℕ → List ℕ → List ℕ
unlooked_numbers outside ready = filter (λ x. not (is_among x outside)) ready

-- an exchange asks this request
abbrev pub IsAsked : Plan → Past → ℕ → Request → Type 0
IsAsked s past x q = (k : Asked) × ((asked s past x ≡ Some k) × (k.request ≡ q))
