-- The numbers known as Outside behind a look at an exchange.
use Rattle.std.proofs.Common.{◌≡◌, ℕ, ◌+◌, ◌-◌, false, map, set as put_at, Option, Some, refl, sym, ap, ◌∙◌, arith}
use Rattle.std.specs.List.{slice_get}
use Rattle.std.proofs.lemmas.Option.{slice_get_within}
use Rattle.eip_exchange.specs.declared.end.Fault.{Fault}
use Rattle.eip_route.specs.declared.route.RouteSet.{RouteSet}
use Rattle.eip_frames.specs.declared.request.Request.{Request}
use Rattle.eip_frames.specs.Fits.{is_outside}
use Rattle.eip_ledger.specs.declared.place.Place.TheVariants as place_is
use Rattle.eip_history.specs.Own.{Past}
use Rattle.eip_history.specs.Births.{asked}
use Rattle.eip_history.specs.Place.{place}
use Rattle.eip_history.specs.Rules.{outside_asked}
use Rattle.eip_plan.specs.Plan.{plan_of}
use Rattle.eip_progress.specs.declared.cursor.Cursor.{Cursor}
use Rattle.eip_tables.specs.declared.row.Stage.{Stage}
use Rattle.eip_tables.specs.declared.row.Stage.TheVariants as stage
use Rattle.eip_tables.specs.Row.{Row}
use Rattle.eip_tables.specs.Moves.{begun, new_row}
use Rattle.eip_tables.specs.State as state
use Rattle.eip_tables.specs.State.{state_by, known_of, asks_outside, row_outside}
use Rattle.eip_tables.specs.Numbers.{row_numbers}
use Rattle.eip_tables.specs.Outside.{outside_looked}
use Rattle.eip_tables.specs.Stands.{Tables, Stands}
use Rattle.eip_table_laws.proofs.SourceEvents.{get-set-same}
use Rattle.eip_table_laws.proofs.OwnCalls.{row-within}
use Rattle.eip_table_laws.proofs.LookCalls.{known-now, known-state}
use Rattle.eip_table_laws.proofs.InnerCalls.{asks-outside}
use Rattle.eip_table_laws.proofs.ListedNumbers.{numbers-looked, set-there}

asks-is : (g : Stage) (oc : Option Cursor) (oq : Option Request) (f : Option Fault) (c : Cursor) (q : Request) → state_by g oc oq f ≡ state.Asks c q → asks_outside g oq ≡ is_outside q
asks-is stage.Asks (Some d) (Some p) f c q h = let same : p ≡ q = cc in ap is_outside same
asks-is (stage.Held v) (Some d) oq f c q h = absurd (cc h)
asks-is stage.Failed oc oq (Some f) c q h = absurd (cc h)
asks-is (stage.Joining i) (Some d) oq f c q h = absurd (cc h)
asks-is (stage.Asleep i due) (Some d) oq f c q h = absurd (cc h)
asks-is (stage.Answered i) (Some d) oq f c q h = absurd (cc h)
asks-is _ _ _ f c q h = absurd (cc h)

-- a row that was not known to ask anything has begun to
pub looked-outside : {set : RouteSet} {workers limit : ℕ} {past : Past} (t : Tables) (x : ℕ) (old new : Row) (c : Cursor) (q : Request) → Stands set workers limit past t → place (plan_of set) past x ≡ Some place_is.Ready → slice_get t.rows (x - 1) ≡ Some old
    → Stands set workers limit past (record t { rows = put_at t.rows (x - 1) new }) → new ≡ begun c q old → row_outside old ≡ false
    → row_numbers row_outside 1 (put_at t.rows (x - 1) new) ≡ outside_looked (outside_asked (asked (plan_of set) past x)) x (row_numbers row_outside 1 t.rows)
looked-outside {set} {workers} {limit} {past} t x old new c q st ready row st' is was =
    let within = slice_get_within t.rows (x - 1) old row in
    let above = row-within t x place_is.Ready st ready in
    let number : 1 + (x - 1) ≡ x = omega (arith, above.0) in
    let there : slice_get (put_at t.rows (x - 1) new) (x - 1) ≡ Some new = get-set-same t.rows (x - 1) new within in
    let knows : known_of new ≡ Some q = ap known_of is in
    let asks = asks-outside (record t { rows = put_at t.rows (x - 1) new }) x new st' ready there q (known-now t.rows (x - 1) old new q row knows) in
    let now : row_outside new ≡ is_outside q = ap row_outside is in
    rw asks (rw number at (numbers-looked row_outside 1 t.rows (x - 1) (new_row 0) old new (is_outside q) row within refl now (λ h. was)))

-- a row that was looked at already
pub known-outside-already : {set : RouteSet} {workers limit : ℕ} {past : Past} (t : Tables) (x : ℕ) (r : Row) (q : Request) → Stands set workers limit past t → place (plan_of set) past x ≡ Some place_is.Ready → slice_get t.rows (x - 1) ≡ Some r
    → slice_get (map known_of t.rows) (x - 1) ≡ Some (Some q)
    → row_numbers row_outside 1 t.rows ≡ outside_looked (outside_asked (asked (plan_of set) past x)) x (row_numbers row_outside 1 t.rows)
known-outside-already {set} {workers} {limit} {past} t x r q st ready row known =
    let within = slice_get_within t.rows (x - 1) r row in
    let above = row-within t x place_is.Ready st ready in
    let number : 1 + (x - 1) ≡ x = omega (arith, above.0) in
    let k = known-state t.rows (x - 1) r q row known in
    let now : row_outside r ≡ is_outside q = asks-is r.stage r.cursor r.request r.fault k.0 q k.1 in
    let asks = asks-outside t x r st ready row q known in
    let same : put_at t.rows (x - 1) r ≡ t.rows = set-there t.rows (x - 1) r row in
    rw asks (ap (row_numbers row_outside 1) (sym same) ∙ (rw number at (numbers-looked row_outside 1 t.rows (x - 1) (new_row 0) r r (is_outside q) row within refl now (λ h. now ∙ h))))
