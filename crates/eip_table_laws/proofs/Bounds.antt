-- What the tables say of the counts that the limit bounds.
use Rattle.std.proofs.Common.{◌≡◌, ℕ, ◌+◌, ◌≤◌, Bool, true, false, cond, List, [], ◌∷◌, length, filter, refl, sym, ap, ◌∙◌, arith}
use Rattle.eip_route.specs.declared.route.RouteSet.{RouteSet}
use Rattle.eip_history.specs.Own.{Past}
use Rattle.eip_history.specs.Births.{births}
use Rattle.eip_history.specs.Place.{hands, takes_out, is_taken, numbers_at, is_ready, place_of}
use Rattle.eip_history.proofs.Numbers.{numbers-at-is}
use Rattle.eip_history.proofs.Told.{births-numbered}
use Rattle.eip_exchange.specs.declared.birth.Birth.{Birth}
use Rattle.eip_history.proofs.Lists.{filter-length}
use Rattle.eip_history.proofs.Limit.{legal-within}
use Rattle.eip_plan.specs.Plan.{plan_of}
use Rattle.eip_tables.specs.Row.{Row}
use Rattle.eip_tables.specs.Numbers.{row_numbers, row_count}
use Rattle.eip_tables.specs.State.{State, state_of}
use Rattle.eip_tables.specs.State as state
use Rattle.eip_tables.specs.Rows.{RowStands, row_ready, row_held, row_live, state_ready, state_live}
use Rattle.eip_tables.specs.Stands.{Tables, Stands}
use Rattle.eip_table_laws.proofs.RowNumbers.{count-related, numbers-related}
use Rattle.eip_table_laws.proofs.OwnCalls.{rows-many}
use Rattle.eip_table_laws.proofs.RowPlaces.{row-is_taken, row-is_ready}

ready-lives : (r : Row) → row_ready r ≡ true → row_live r ≡ true
ready-lives r h = by_state (state_of r) h
  where
    by_state : (g : State) → state_ready g ≡ true → state_live g ≡ true
    by_state (state.Ended c) h = absurd (cc h)
    by_state _ h = refl

pub ready-counts : (n : ℕ) (rs : List Row) → length (row_numbers row_ready n rs) ≤ row_count row_live rs
ready-counts n [] = omega arith
ready-counts n (r ∷ rs) =
    let ih = ready-counts (n + 1) rs in
    by_row (row_ready r) refl ih
  where
    by_row : (v : Bool) → row_ready r ≡ v → length (row_numbers row_ready (n + 1) rs) ≤ row_count row_live rs → length (cond v (n ∷ row_numbers row_ready (n + 1) rs) (row_numbers row_ready (n + 1) rs)) ≤ row_count row_live (r ∷ rs)
    by_row true h ih = rw (ready-lives r h) (omega (arith, ih))
    by_row false h ih = elim (row_live r) as (λ u. length (row_numbers row_ready (n + 1) rs) ≤ length (cond u (r ∷ filter row_live rs) (filter row_live rs))) [ true ↦ omega (arith, ih) | false ↦ ih ]

module _ {set : RouteSet} {workers limit : ℕ} {past : Past} (t : Tables) (st : Stands set workers limit past t) where
  takes-are : takes_out (plan_of set) past ≡ t.taken
  unfolding takes_out
  takes-are = count-related (RowStands set past) (is_taken past) row_held (births (plan_of set) past) t.rows st.rows (λ b r h. row-is_taken set past b r h) ∙ sym st.taken

  -- the hands that are out
  pub hands-are : hands (plan_of set) past ≡ t.pulled + t.taken
  hands-are = omega (arith, takes-are, st.pulled)

  pub within-limit : t.turns + (t.pulled + t.taken) ≤ limit
  within-limit = omega (arith, legal-within (plan_of set) workers limit past st.legal.entries, hands-are, st.turns)

  pub live-within : t.live ≤ length t.rows
  live-within = omega (arith, filter-length row_live t.rows, st.live)

  -- who is Ready lives, so there are no more Ready numbers than lives
  pub ready-few : length t.ready ≤ t.live
  ready-few = let n = ap length st.ready in omega (arith, n, ready-counts 1 t.rows, st.live)

  pub rows-are : length t.rows ≡ length (births (plan_of set) past)
  rows-are = rows-many t st

  -- the Ready numbers are those of the table
  pub ready-are : t.ready ≡ numbers_at (plan_of set) past is_ready
  ready-are =
      st.ready
      ∙ (sym (numbers-related (RowStands set past) (λ (b : Birth). is_ready (place_of (plan_of set) past b)) row_ready 1 (births (plan_of set) past) t.rows (births-numbered (plan_of set) past) st.rows (λ b r h. row-is_ready set past b r h))
      ∙ numbers-at-is (plan_of set) past is_ready)
