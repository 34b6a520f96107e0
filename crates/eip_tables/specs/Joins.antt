-- How a table of joins stands for a history, and what it is told where an exchange ends.
use Rattle.std.specs.Prelude.{ℕ, ◌≡◌, ◌+◌, ◌<◌, cond, List, ◌∷◌, Option, Some, None}
use Rattle.eip_exchange.specs.declared.end.Ended.{Ended}
use Rattle.eip_route.specs.declared.route.RouteSet.{RouteSet}
use Rattle.eip_join.specs.Parts as join
use Rattle.eip_join.specs.Parts.{Call, PartEnded, Took, Open, IsOpenPart, is_ready}
use Rattle.eip_history.specs.Own.{Past}
use Rattle.eip_history.specs.Place.{ended}
use Rattle.eip_history.specs.TableWords.{open_parts}
use Rattle.eip_plan.specs.Plan.{plan_of}
use Rattle.eip_tables.specs.declared.row.Born.{Born}
use Rattle.eip_tables.specs.declared.row.Born.TheVariants as born

-- the table stands for a list of calls by which the same parents have open joins over the same parts, and those ended as they did
pub record JoinsStand (set : RouteSet) (past : Past) (joins : List (ℕ × Open)) : Type 0 where
  pub calls : List Call
  pub stands : join.Stands calls joins
  -- a parent's join is open from the birth of its parts until it is answered how they ended, or has ended itself
  pub parts : (parent : ℕ) → join.parts_of calls parent ≡ open_parts (plan_of set) past parent
  pub ends : (parent first count : ℕ) → open_parts (plan_of set) past parent ≡ Some (first, count) → (i : ℕ) → i < count → join.end_of calls (first + i) ≡ ended (plan_of set) past (first + i)

-- a part that ends is one of an open join, and its end is told
abbrev pub MayTell : Born → (number : ℕ) → Option Ended → List (ℕ × Open) → Type 0
MayTell (born.Part parent index) number (Some e) joins = IsOpenPart number joins
MayTell (born.Part parent index) number None joins = ⊥
MayTell _ number told joins = Unit {0}

-- the end of a part is told to the join of its parent
abbrev pub Tells : Born → (number : ℕ) → Option Ended → List (ℕ × Open) → List (ℕ × Open) → Type 0
Tells (born.Part parent index) number (Some e) old new = (calls : List Call) → join.Stands calls old → join.Stands (PartEnded number e ∷ calls) new
Tells _ number told old new = new ≡ old

-- the parent of a part that ended, where this was the last of its parts
abbrev pub Wakes : Born → List (ℕ × Open) → Option ℕ → Type 0
Wakes (born.Part parent index) joins woken = (calls : List Call) → join.Stands calls joins → woken ≡ cond (is_ready calls parent) (Some parent) None
Wakes _ joins woken = woken ≡ None

-- the calls by which a join whose parts have all ended is closed, where there is one
abbrev pub closing : ℕ → List Call → List Call
closing number calls = cond (is_ready calls number) (Took number ∷ calls) calls

-- the join of an exchange that ends is closed
abbrev pub Closes : ℕ → List (ℕ × Open) → List (ℕ × Open) → Type 0
Closes number old new = (calls : List Call) → join.Stands calls old → join.Stands (closing number calls) new
