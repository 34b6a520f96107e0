-- The least moment at which somebody is due, by the tables of sleepers and of groups.
use Rattle.std.proofs.Common.{◌≡◌, ℕ, zero, suc, ◌≤◌, min, Bool, true, false, ◌||◌, List, [], ◌∷◌, ◌++◌, filter_map, Option, Some, None, is_some, refl, sym, ap, ◌∙◌, arith, inl, inr}
use Rattle.std.specs.List.{slice_get, cons_option, find}
use Rattle.std.proofs.Math.Nat.{le-min, min-eq_left, min-eq_right}
use Rattle.eip_exchange.specs.declared.birth.Birth.{Birth}
use Rattle.eip_route.specs.declared.route.RouteSet.{RouteSet}
use Rattle.eip_redelivery.specs.Sleep.{IsFirstMoment}
use Rattle.eip_history.specs.Own.{Past}
use Rattle.eip_history.specs.Births.{births, groups}
use Rattle.eip_aggregator.specs.Arrivals as table
use Rattle.eip_aggregator.specs.Arrivals.{open_at}
use Rattle.eip_aggregator.specs.Tables.{IsFirstDue}
use Rattle.eip_history.specs.Groups.{Group, is_open, is_for, due_of}
use Rattle.eip_history.specs.Place.{place, place_of}
use Rattle.eip_history.specs.Rules.{dues, least, or_least, retry_due, any_group}
use Rattle.eip_history.specs.TableWords.{sleeps}
use Rattle.eip_plan.specs.Plan.{plan_of}
use Rattle.eip_history.proofs.GroupNumbers.{groups-numbered}
use Rattle.eip_tables.specs.Groups.{settings, group_calls}
use Rattle.eip_tables.specs.Sleepers.{sooner}
use Rattle.eip_table_laws.proofs.GroupLists.{only-one}
use Rattle.eip_table_laws.proofs.GroupLaws.{Gathers, gathers, kept_group, open-is}
use Rattle.eip_table_laws.proofs.GroupShut.{In, find-in, open-own, some-of}
use Rattle.eip_tables.specs.Stands.{Tables, Stands}

-- the least value that a function gives of a list is no less than what is no more than each
least-low : {A : Type 0} (f : A → Option ℕ) (xs : List A) (d e : ℕ) → ((j : ℕ) (y : A) (v : ℕ) → slice_get xs j ≡ Some y → f y ≡ Some v → d ≤ v) → least (filter_map f xs) ≡ Some e → d ≤ e
least-low f [] d e all h = absurd (cc h)
least-low {A} f (x ∷ xs) d e all h = by_value (f x) refl h (λ u g. least-low f xs d u (λ j y v at is. all (suc j) y v at is) g)
  where
    by_rest : (v : ℕ) → f x ≡ Some v → (o : Option ℕ) → least (filter_map f xs) ≡ o → or_least v o ≡ Some e → ((u : ℕ) → least (filter_map f xs) ≡ Some u → d ≤ u) → d ≤ e
    by_rest v is None l g ih = let same : v ≡ e = cc in let k = all 0 x v refl is in omega (arith, k, same)
    by_rest v is (Some u) l g ih =
        let same : min v u ≡ e = cc in
        let k : d ≤ min v u = le-min (all 0 x v refl is) (ih u l) in
        omega (arith, k, same)

    by_value : (o : Option ℕ) → f x ≡ o → least (cons_option o (filter_map f xs)) ≡ Some e → ((u : ℕ) → least (filter_map f xs) ≡ Some u → d ≤ u) → d ≤ e
    by_value None is g ih = ih e g
    by_value (Some v) is g ih = by_rest v is (least (filter_map f xs)) refl g ih

-- and is the one that is no more than each
least-picked : {A : Type 0} (f : A → Option ℕ) (xs : List A) (d i : ℕ) (x : A) → slice_get xs i ≡ Some x → f x ≡ Some d → ((j : ℕ) (y : A) (v : ℕ) → slice_get xs j ≡ Some y → f y ≡ Some v → d ≤ v)
    → least (filter_map f xs) ≡ Some d
least-picked f [] d i x at is all = absurd (cc at)
least-picked {A} f (y ∷ xs) d zero x at is all =
    let same : y ≡ x = cc in
    ap (λ (o : Option ℕ). least (cons_option o (filter_map f xs))) (ap f same ∙ is) ∙ by_rest (least (filter_map f xs)) refl
  where
    by_rest : (o : Option ℕ) → least (filter_map f xs) ≡ o → or_least d o ≡ Some d
    by_rest None l = refl
    by_rest (Some u) l = ap Some (min-eq_left (least-low f xs d u (λ j z v there g. all (suc j) z v there g) l))
least-picked {A} f (y ∷ xs) d (suc i) x at is all = by_value (f y) refl (least-picked f xs d i x at is (λ j z v there g. all (suc j) z v there g))
  where
    by_value : (o : Option ℕ) → f y ≡ o → least (filter_map f xs) ≡ Some d → least (cons_option o (filter_map f xs)) ≡ Some d
    by_value None g ih = ih
    by_value (Some v) g ih = ap (or_least v) ih ∙ ap Some (min-eq_right (all 0 y v refl g))

none-picked : {A : Type 0} (f : A → Option ℕ) (xs : List A) → ((j : ℕ) (y : A) → slice_get xs j ≡ Some y → f y ≡ None) → filter_map f xs ≡ []
none-picked f [] h = refl
none-picked f (x ∷ xs) h = rw (h 0 x refl) (none-picked f xs (λ j y at. h (suc j) y at))

sleeps-at : (set : RouteSet) (past : Past) (i : ℕ) (b : Birth) → slice_get (births (plan_of set) past) i ≡ Some b → sleeps (plan_of set) past (suc i) ≡ retry_due (place_of (plan_of set) past b)
unfolding sleeps place
sleeps-at set past i b at = rw at refl

-- who sleeps is born
sleeps-born : (set : RouteSet) (past : Past) (x d : ℕ) → sleeps (plan_of set) past x ≡ Some d → (i : ℕ) × (b : Birth) × (slice_get (births (plan_of set) past) i ≡ Some b) × (retry_due (place_of (plan_of set) past b) ≡ Some d)
unfolding sleeps place
sleeps-born set past zero d h = absurd (cc h)
sleeps-born set past (suc i) d h = by_birth (slice_get (births (plan_of set) past) i) refl
  where
    by_birth : (o : Option Birth) → slice_get (births (plan_of set) past) i ≡ o → (j : ℕ) × (b : Birth) × (slice_get (births (plan_of set) past) j ≡ Some b) × (retry_due (place_of (plan_of set) past b) ≡ Some d)
    by_birth None e = absurd (let g = rw e at h in cc g)
    by_birth (Some b) e = (i, b, e, (let g = rw e at h in g))

-- ---- of two lists

min-same : (a b c : ℕ) → min a (min b c) ≡ min (min a b) c
min-same a b c = omega arith

least-both : (xs ys : List ℕ) → least (xs ++ ys) ≡ sooner (least xs) (least ys)
least-both [] ys = refl
least-both (x ∷ xs) ys = ap (or_least x) (least-both xs ys) ∙ by_rest (least xs) (least ys)
  where
    by_rest : (o p : Option ℕ) → or_least x (sooner o p) ≡ sooner (or_least x o) p
    by_rest None None = refl
    by_rest None (Some b) = refl
    by_rest (Some a) None = refl
    by_rest (Some a) (Some b) = ap Some (min-same x a b)

in-slice : {A : Type 0} (xs : List A) (x : A) → In xs x → (i : ℕ) × (slice_get xs i ≡ Some x)
in-slice [] x i = absurd i
in-slice (y ∷ xs) x (inl e) = (0, ap Some e)
in-slice (y ∷ xs) x (inr i) = let r = in-slice xs x i in (suc r.0, r.1)

slice-in : {A : Type 0} (xs : List A) (i : ℕ) (x : A) → slice_get xs i ≡ Some x → In xs x
slice-in [] i x h = absurd (cc h)
slice-in (y ∷ xs) zero x h = inl cc
slice-in (y ∷ xs) (suc i) x h = inr (slice-in xs i x h)

module _ {set : RouteSet} {workers limit : ℕ} {past : Past} (t : Tables) (st : Stands set workers limit past t) where
  births-due : (first : Option ℕ) → IsFirstMoment st.sleepers.calls first → least (filter_map (λ (b : Birth). retry_due (place_of (plan_of set) past b)) (births (plan_of set) past)) ≡ first
  births-due None none = ap least (none-picked (λ (b : Birth). retry_due (place_of (plan_of set) past b)) (births (plan_of set) past)
      (λ j b at. sym (sleeps-at set past j b at) ∙ (sym (st.sleepers.moments (suc j)) ∙ none (suc j))))
  births-due (Some d) is =
      let one = sleeps-born set past is.0.0 d (sym (st.sleepers.moments is.0.0) ∙ is.0.1) in
      least-picked (λ (b : Birth). retry_due (place_of (plan_of set) past b)) (births (plan_of set) past) d one.0 one.1 one.2 one.3
      (λ j b v at g. is.1 (suc j) v (st.sleepers.moments (suc j) ∙ (sleeps-at set past j b at ∙ g)))

  -- ---- groups

  abbrev gs : List Group
  gs = groups (plan_of set) past

  given : Gathers set (groups (plan_of set) past) (group_calls set past)
  given = gathers set workers limit past st.legal.entries

  -- a group with a moment is open
  due-open : (g : Group) (v : ℕ) → due_of (plan_of set) g ≡ Some v → is_open g ≡ true
  due-open g v h = by_open (is_open g) refl
    where
      by_open : (o : Bool) → is_open g ≡ o → o ≡ true
      by_open true e = refl
      by_open false e = absurd (let k = rw e at h in cc k)

  group-at : (j : ℕ) (g : Group) → slice_get (groups (plan_of set) past) j ≡ Some g → is_open g ≡ true → open_at (settings set) (group_calls set past) (g.aggregator, g.key) ≡ Some (kept_group set g)
  group-at j g at o = open-own set (groups (plan_of set) past) (group_calls set past) (groups-numbered (plan_of set) past) (λ a key. only-one (plan_of set) past a key) given g (slice-in (groups (plan_of set) past) j g at) o

  groups-due : (first : Option ℕ) → IsFirstDue (settings set) (group_calls set past) first → least (filter_map (due_of (plan_of set)) (groups (plan_of set) past)) ≡ first
  groups-due None none = ap least (none-picked (due_of (plan_of set)) (groups (plan_of set) past) (λ j g at. by_moment j g at (due_of (plan_of set) g) refl))
    where
      by_moment : (j : ℕ) (g : Group) → slice_get (groups (plan_of set) past) j ≡ Some g → (o : Option ℕ) → due_of (plan_of set) g ≡ o → o ≡ None
      by_moment j g at None h = refl
      by_moment j g at (Some v) h = absurd (let n = none (g.aggregator, g.key) g.number (kept_group set g).1 (group-at j g at (due-open g v h)) in cc (sym h ∙ n))
  groups-due (Some d) is =
      let e = is.0 in
      let h = some-of (kept_group set) (find (is_for e.0.0 e.0.1) (groups (plan_of set) past)) (e.1, e.2) (sym (open-is set (groups (plan_of set) past) (group_calls set past) (λ a key. only-one (plan_of set) past a key) given e.0) ∙ e.3) in
      let here = in-slice (groups (plan_of set) past) h.0 (find-in (is_for e.0.0 e.0.1) (groups (plan_of set) past) h.0 h.1) in
      let due : due_of (plan_of set) h.0 ≡ Some d = ap (λ (x : ℕ × table.Group). x.1.due) h.2 ∙ e.4 in
      least-picked (due_of (plan_of set)) (groups (plan_of set) past) d here.0 h.0 here.1 due
      (λ j g v at f. is.1 (g.aggregator, g.key) g.number v (kept_group set g).1 (group-at j g at (due-open g v f)) f)

  -- the sooner of the first moments of both tables is the least one at which somebody is due
  pub due-least : (first other : Option ℕ) → IsFirstMoment st.sleepers.calls first → IsFirstDue (settings set) (group_calls set past) other → sooner first other ≡ least (dues (plan_of set) past)
  unfolding dues
  due-least first other h k =
      sym (least-both (filter_map (λ (b : Birth). retry_due (place_of (plan_of set) past b)) (births (plan_of set) past)) (filter_map (due_of (plan_of set)) (groups (plan_of set) past))
      ∙ (ap (λ (o : Option ℕ). sooner o (least (filter_map (due_of (plan_of set)) (groups (plan_of set) past)))) (births-due first h) ∙ ap (sooner first) (groups-due other k)))

  -- whether some group has a moment
  pub some-due : (other : Option ℕ) → IsFirstDue (settings set) (group_calls set past) other → any_group (λ (g : Group). is_some (due_of (plan_of set) g)) (groups (plan_of set) past) ≡ is_some other
  some-due other k = any-least (due_of (plan_of set)) (groups (plan_of set) past) ∙ ap is_some (groups-due other k)
    where
      any-least : (f : Group → Option ℕ) (xs : List Group) → any_group (λ (g : Group). is_some (f g)) xs ≡ is_some (least (filter_map f xs))
      any-least f [] = refl
      any-least f (x ∷ xs) = by_value (f x) (any-least f xs)
        where
          by_rest : (v : ℕ) (o : Option ℕ) → true ≡ is_some (or_least v o)
          by_rest v None = refl
          by_rest v (Some u) = refl

          by_value : (o : Option ℕ) → any_group (λ (g : Group). is_some (f g)) xs ≡ is_some (least (filter_map f xs)) → (is_some o || any_group (λ (g : Group). is_some (f g)) xs) ≡ is_some (least (cons_option o (filter_map f xs)))
          by_value None ih = ih
          by_value (Some v) ih = by_rest v (least (filter_map f xs))
