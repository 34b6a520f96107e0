-- Which exchanges an entry of each kind may move.
use Rattle.std.specs.Prelude.{ℕ, ◌≡◌, ◌≤◌, ◌⊎◌, Some}
use Rattle.eip_exchange.specs.declared.birth.Birth.{Birth}
use Rattle.eip_exchange.specs.declared.birth.Origin.TheVariants as from
use Rattle.eip_ledger.specs.declared.entry.Kind.{Kind}
use Rattle.eip_ledger.specs.declared.entry.Kind.TheVariants.{Start, Take, Answer, Tick, Starve, Return}
use Rattle.eip_ledger.specs.declared.place.Place.TheVariants as place_is
use Rattle.eip_history.specs.Plan.{Plan}
use Rattle.eip_history.specs.Own.{Past, numbered}
use Rattle.eip_history.specs.Births.{births}
use Rattle.eip_history.specs.Place.{place_of}

-- exchange n is a part of b
abbrev pub IsParent : Plan → Past → Birth → ℕ → Type 0
IsParent s past b n = (d : Birth) × (i : ℕ) × (numbered (births s past) n ≡ Some d) × (d.origin ≡ from.Part b.number i)

-- who may stand elsewhere behind an entry: its own exchange, the parent of one that may end by it, and who is due at a Tick
abbrev pub CanMove : Plan → Past → Kind → Birth → Type 0
CanMove s past (Start q n) b = b.number ≡ n
CanMove s past (Take n) b = b.number ≡ n
CanMove s past (Return n) b = b.number ≡ n
CanMove s past (Answer n a) b = (b.number ≡ n) ⊎ IsParent s past b n
CanMove s past (Starve n) b = (b.number ≡ n) ⊎ IsParent s past b n
CanMove s past (Tick t) b = (due : ℕ) × (place_of s past b ≡ place_is.Retry due) × (due ≤ t)
CanMove s past _ b = ⊥
