-- The rows of the exchanges of closed groups.
use Rattle.std.proofs.Common.{◌≡◌, ℕ, zero, suc, ◌+◌, List, [], ◌∷◌, ◌++◌, length, None, refl, sym, ap, ◌∙◌}
use Rattle.std.specs.List.{slice_get}
use Rattle.std.proofs.lemmas.List.{append-nil}
use Rattle.eip_route.specs.declared.route.RouteSet.{RouteSet}
use Rattle.eip_aggregator.specs.declared.closed.Closed.{Closed}
use Rattle.eip_tables.specs.Row.{Row}
use Rattle.eip_tables.specs.Numbers.{row_numbers, row_count, numbers_from}
use Rattle.eip_tables.specs.State.{row_outside}
use Rattle.eip_tables.specs.Groups.{group_rows}
use Rattle.eip_tables.specs.Sleepers.{due_in, due_at, SleepersTold}
use Rattle.eip_tables.specs.Rows.{row_ready, row_held, row_live}
use Rattle.eip_table_laws.proofs.PartCalls.{numbers-behind}

-- each is ready, lives and is in nobody's hand
pub groups-ready : (set : RouteSet) (m n : ℕ) (xs : List Closed) → row_numbers row_ready m (group_rows set n xs) ≡ numbers_from m (length xs)
groups-ready set m n [] = refl
groups-ready set m n (x ∷ xs) = ap (λ ns. m ∷ ns) (groups-ready set (m + 1) (n + 1) xs)

pub groups-live : (set : RouteSet) (n : ℕ) (xs : List Closed) → row_count row_live (group_rows set n xs) ≡ length xs
groups-live set n [] = refl
groups-live set n (x ∷ xs) = ap suc (groups-live set (n + 1) xs)

pub groups-free : (set : RouteSet) (n : ℕ) (xs : List Closed) → row_count row_held (group_rows set n xs) ≡ 0
groups-free set n [] = refl
groups-free set n (x ∷ xs) = groups-free set (n + 1) xs

groups-unknown : (set : RouteSet) (m n : ℕ) (xs : List Closed) → row_numbers row_outside m (group_rows set n xs) ≡ []
groups-unknown set m n [] = refl
groups-unknown set m n (x ∷ xs) = groups-unknown set (m + 1) (n + 1) xs

-- nobody knows what they ask
pub groups-outside : (set : RouteSet) (n : ℕ) (xs : List Closed) (rows : List Row) → row_numbers row_outside 1 (rows ++ group_rows set n xs) ≡ row_numbers row_outside 1 rows
groups-outside set n xs rows =
    numbers-behind row_outside 1 rows (group_rows set n xs)
    ∙ (ap (λ (ns : List ℕ). row_numbers row_outside 1 rows ++ ns) (groups-unknown set (1 + length rows) n xs) ∙ append-nil (row_numbers row_outside 1 rows))

-- and nobody of them sleeps
groups-awake : (set : RouteSet) (n : ℕ) (xs : List Closed) (i : ℕ) → due_in (slice_get (group_rows set n xs) i) ≡ None
groups-awake set n [] i = refl
groups-awake set n (x ∷ xs) zero = refl
groups-awake set n (x ∷ xs) (suc i) = groups-awake set (n + 1) xs i

due-behind : (set : RouteSet) (n : ℕ) (xs : List Closed) (rows : List Row) (i : ℕ) → due_in (slice_get (rows ++ group_rows set n xs) i) ≡ due_in (slice_get rows i)
due-behind set n xs [] i = groups-awake set n xs i
due-behind set n xs (r ∷ rows) zero = refl
due-behind set n xs (r ∷ rows) (suc i) = due-behind set n xs rows i

due-more : (set : RouteSet) (n : ℕ) (xs : List Closed) (rows : List Row) (x : ℕ) → due_at (rows ++ group_rows set n xs) x ≡ due_at rows x
due-more set n xs rows zero = refl
due-more set n xs rows (suc i) = due-behind set n xs rows i

pub told-more : (set : RouteSet) (n : ℕ) (xs : List Closed) (rows : List Row) (sleepers : List (ℕ × ℕ)) → SleepersTold rows sleepers → SleepersTold (rows ++ group_rows set n xs) sleepers
told-more set n xs rows sleepers told = record { calls = told.calls; stands = told.stands; moments = λ x. told.moments x ∙ sym (due-more set n xs rows x) }
