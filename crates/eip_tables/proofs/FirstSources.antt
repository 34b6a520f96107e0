-- The sources of a set before the first entry.
use Rattle.std.proofs.Common.{◌≡◌, ℕ, zero, suc, Bool, true, false, cond, List, [], ◌∷◌, map, Some, is_some, refl, ap, ◌∙◌}
use Rattle.std.specs.List.{slice_get}
use Rattle.std.proofs.lemmas.List.{length-map}
use Rattle.eip_uri.specs.Inlets.{inlet_of}
use Rattle.eip_route.specs.declared.route.Route.{Route}
use Rattle.eip_route.specs.declared.route.RouteSet.{RouteSet}
use Rattle.eip_history.specs.Own.{source_state}
use Rattle.eip_history.proofs.Lists.{slice_get-some}
use Rattle.eip_plan.specs.Plan.{plan_of}
use Rattle.eip_tables.specs.declared.row.SourceState.TheVariants as source
use Rattle.eip_tables.specs.Rows.{SourcesStand, source_row, first_row, first_state}

get-map : {A B : Type 0} (f : A → B) (xs : List A) (i : ℕ) (x : A) → slice_get xs i ≡ Some x → slice_get (map f xs) i ≡ Some (f x)
get-map f [] i x h = absurd (cc h)
get-map f (y ∷ xs) zero x h = let e : y ≡ x = cc in ap (λ z. Some (f z)) e
get-map f (y ∷ xs) (suc i) x h = get-map f xs i x h

state-of : (v : Bool) → first_state v ≡ cond v source.Idle source.Unused
state-of true = refl
state-of false = refl

row-of : (set : RouteSet) (r : ℕ) (x : Route) → slice_get set.routes r ≡ Some x → first_row x ≡ source_row (plan_of set) [] r
unfolding plan_of source_state
row-of set r x h = rw h (state-of (is_some (inlet_of x.from)))

pub first-stand : (set : RouteSet) → SourcesStand (plan_of set) [] (map first_row set.routes)
unfolding plan_of
first-stand set = record {
  many = length-map set.routes first_row;
  each = λ r l. let x = slice_get-some set.routes r l in get-map first_row set.routes r x.0 x.1 ∙ ap Some (row-of set r x.0 x.1);
}
