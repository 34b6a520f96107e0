-- No two routes of a set that fits have one consumer or one id, no clause of it is both handled and continued, and it has not too many routes.
use Rattle.std.proofs.Common.{ℕ, ◌+◌, false, ◌&&◌, List, [], ◌∷◌, ◌++◌, Some, None, length, nat_lt, bytes_eq, All, slice_index_or, ◌≡◌, refl, ◌∙◌, arith, le-ltb}
use Rattle.std.proofs.lemmas.Bool.{or_from, or_parts, cond-false}
use Rattle.std.proofs.lemmas.List.Elements.{All-head, All-tail}
use Rattle.eip_uri.specs.declared.uri.Uri.{Uri}
use Rattle.eip_route.specs.Faults.{same_consumer, is_consumed, is_id, second_consumer, double_id, next_number, both, too_many_routes}
use Rattle.eip_route.specs.Nest.{NestedClause, NestedRoute, NestedSet, flat_block, flat_last, flat_clauses, flat_routes, flat_set}
use Rattle.eip_route.specs.declared.fault.SetFault.TheVariants.{TooManyRoutes}
use Rattle.eip_route.specs.declared.route.Names.{Names}
use Rattle.eip_route.specs.declared.route.Route.{Route}
use Rattle.eip_route_validity.proofs.GoodSteps.{route_at}
use Rattle.eip_route_validity.specs.Fit.{ClauseFits, AreApart, SetFits}

-- one more route with another consumer, and with another id
not_consumed : (u : Uri) (before : List Route) (r : Route) → is_consumed u before ≡ false → same_consumer r.from u ≡ false → is_consumed u (before ++ r ∷ []) ≡ false
not_consumed u [] r h e = or_from _ _ e refl
not_consumed u (b ∷ bs) r h e = let parts = or_parts (same_consumer b.from u) (is_consumed u bs) h in or_from _ _ parts.0 (not_consumed u bs r parts.1 e)

not_id : (id : List ℕ) (before : List Route) (r : Route) → is_id id before ≡ false → bytes_eq r.id id ≡ false → is_id id (before ++ r ∷ []) ≡ false
not_id id [] r h e = or_from _ _ e refl
not_id id (b ∷ bs) r h e = let parts = or_parts (bytes_eq b.id id) (is_id id bs) h in or_from _ _ parts.0 (not_id id bs r parts.1 e)

no_second : (before : List Route) (i k : ℕ) (rs : List NestedRoute) → All (λ r. is_consumed r.from before ≡ false) rs → AreApart rs → second_consumer before i (flat_routes k rs).routes ≡ None
no_second before i k [] h a = refl
no_second before i k (r ∷ rs) h a =
    let after = k + length (flat_block k r.steps) in
    cond-false (is_consumed r.from before) (Some i) (second_consumer (before ++ route_at k r ∷ []) (i + 1) (flat_routes after rs).routes) (All-head (λ x. is_consumed x.from before ≡ false) r rs h) ∙
    no_second (before ++ route_at k r ∷ []) (i + 1) after rs
    (λ j d l. not_consumed (slice_index_or rs j d).from before (route_at k r) (All-tail (λ x. is_consumed x.from before ≡ false) r rs h j d l) (a.0 j d l).1) a.1

no_double : (before : List Route) (i k : ℕ) (rs : List NestedRoute) → All (λ r. is_id r.id before ≡ false) rs → AreApart rs → double_id before i (flat_routes k rs).routes ≡ None
no_double before i k [] h a = refl
no_double before i k (r ∷ rs) h a =
    let after = k + length (flat_block k r.steps) in
    cond-false (is_id r.id before) (Some i) (double_id (before ++ route_at k r ∷ []) (i + 1) (flat_routes after rs).routes) (All-head (λ x. is_id x.id before ≡ false) r rs h) ∙
    no_double (before ++ route_at k r ∷ []) (i + 1) after rs
    (λ j d l. not_id (slice_index_or rs j d).id before (route_at k r) (All-tail (λ x. is_id x.id before ≡ false) r rs h j d l) (a.0 j d l).0) a.1

none_both : (n : Names) (i k : ℕ) (cs : List NestedClause) → All (ClauseFits n) cs → both i (flat_clauses k cs).clauses ≡ None
none_both n i k [] h = refl
none_both n i k (c ∷ cs) h =
    let after = k + length (flat_last k c.steps) in
    cond-false (c.handled && c.continued) (Some i) (both (next_number i) (flat_clauses after cs).clauses) (All-head (ClauseFits n) c cs h).one ∙
    none_both n (next_number i) after cs (All-tail (ClauseFits n) c cs h)

as_many : (k : ℕ) (rs : List NestedRoute) → length (flat_routes k rs).routes ≡ length rs
as_many k [] = refl
as_many k (r ∷ rs) = omega (arith, as_many (k + length (flat_block k r.steps)) rs)

pub none_second : (n : Names) (x : NestedSet) → SetFits n x → second_consumer [] 0 (flat_set n x).routes ≡ None
none_second n x h = no_second [] 0 (length (flat_clauses 0 x.clauses).blocks) x.routes (λ j d l. refl) h.apart

pub none_double : (n : Names) (x : NestedSet) → SetFits n x → double_id [] 0 (flat_set n x).routes ≡ None
none_double n x h = no_double [] 0 (length (flat_clauses 0 x.clauses).blocks) x.routes (λ j d l. refl) h.apart

pub none_handled_and_continued : (n : Names) (x : NestedSet) → SetFits n x → both 0 (flat_set n x).clauses ≡ None
none_handled_and_continued n x h = none_both n 0 0 x.clauses h.clauses

pub not_too_many : (n : Names) (x : NestedSet) → SetFits n x → too_many_routes (flat_set n x) ≡ None
not_too_many n x h =
    let s = flat_set n x in
    cond-false (nat_lt 256 (length s.routes)) (Some TooManyRoutes) None (le-ltb 256 (length s.routes) (omega (arith, as_many (length (flat_clauses 0 x.clauses).blocks) x.routes, h.count)))
