-- How much is left to do without a turn.
use Rattle.std.specs.Prelude.{ℕ, zero, suc, ◌+◌, ◌*◌, List, [], ◌∷◌, length, filter}
use Rattle.eip_exchange.specs.declared.birth.Birth.{Birth}
use Rattle.eip_ledger.specs.declared.place.Place.{Place}
use Rattle.eip_ledger.specs.declared.place.Place.TheVariants as place_is
use Rattle.eip_history.specs.Plan.{Plan}
use Rattle.eip_history.specs.Own.{Past, SourceState, Idle, Out, Done, source_state}
use Rattle.eip_history.specs.Groups.{Group, is_open}
use Rattle.eip_history.specs.Births.{births, groups}
use Rattle.eip_history.specs.Place.{place_of}

-- a measure of what may still happen at a place without a turn
abbrev pub weight : Place → ℕ
weight (place_is.Ended e) = 0
weight (place_is.InHand w) = 1
weight place_is.Ready = 2
weight place_is.Joining = 3
weight (place_is.Retry d) = 3
weight (place_is.Queue q) = 4

-- the sum of a weight over all births
abbrev pub weigh : (Birth → ℕ) → List Birth → ℕ
weigh f [] = 0
weigh f (b ∷ bs) = f b + weigh f bs

-- an idle source may be pulled and end, one that is out may end
abbrev pub source_weight : SourceState → ℕ
source_weight Idle = 2
source_weight (Out w) = 1
source_weight Done = 0

-- the sum over the numbers below a bound
abbrev pub sum_below : (ℕ → ℕ) → ℕ → ℕ
sum_below f zero = 0
sum_below f (suc n) = sum_below f n + f n

-- how many groups are open
abbrev pub open_count : List Group → ℕ
open_count gs = length (filter is_open gs)

-- the weight of all exchanges
unfoldable pub births_work : Plan → Past → ℕ
births_work s past = weigh (λ (b : Birth). weight (place_of s past b)) (births s past)

-- the weight of all sources
unfoldable pub sources_work : Plan → Past → ℕ
sources_work s past = sum_below (λ t. source_weight (source_state t past)) s.routes

-- what is left to do without a turn
abbrev pub work : Plan → Past → ℕ
work s past = births_work s past + (3 * open_count (groups s past) + sources_work s past)
