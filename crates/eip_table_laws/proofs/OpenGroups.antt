-- The open groups of the table are those of the journal, in the order of their numbers.
use Rattle.std.proofs.Common.{◌≡◌, ℕ, ◌+◌, Bool, true, false, ◌||◌, ◌&&◌, ◌==◌, List, [], ◌∷◌, length, map, filter, Some, is_some, refl, sym, ap, subst, ◌∙◌, cond, arith, eq-eqb, inl, inr}
use Rattle.std.specs.Ordering.{nat_cmp}
use Rattle.std.specs.List.{find, list_any}
use Rattle.std.specs.List.Sorted.{IsStrictlySortedBy}
use Rattle.std.proofs.lemmas.Bool.{cases_Bool, eqb-true, ne_eqb}
use Rattle.std.proofs.lemmas.List.{length-map}
use Rattle.eip_ordered.specs.Numbered.{value_at}
use Rattle.eip_route.specs.declared.route.RouteSet.{RouteSet}
use Rattle.eip_aggregator.specs.Arrivals as table
use Rattle.eip_aggregator.specs.Arrivals.{open_at}
use Rattle.eip_history.specs.Own.{Past}
use Rattle.eip_history.specs.Groups.{Group, is_open, is_for, is_forced, due_of}
use Rattle.eip_history.specs.Births.{groups}
use Rattle.eip_history.specs.Rules.{any_group}
use Rattle.eip_history.specs.Stop.{open_groups, will_close}
use Rattle.eip_history.proofs.GroupNumbers.{groups-numbered}
use Rattle.eip_plan.specs.Plan.{plan_of}
use Rattle.eip_tables.specs.Groups.{group_calls}
use Rattle.eip_tables.specs.Stands.{Tables, Stands}
use Rattle.eip_table_laws.proofs.GroupLists.{only-one}
use Rattle.eip_table_laws.proofs.GroupLaws.{Gathers, gathers, kept_group, open-is, found-key}
use Rattle.eip_table_laws.proofs.GroupShut.{In, RiseUp, rises-above, same-rising, sorted-rises, rises-map, group-rises, in-map, map-in, in-filter, filter-in, find-in, open-own, some-of}

-- an entry of a table in rising order is what is found at its number
in-value : (es : List (ℕ × table.Group)) (n : ℕ) → RiseUp (λ (e : ℕ × table.Group). e.0) n es → (e : ℕ × table.Group) → In es e → value_at es e.0 ≡ Some e.1
in-value [] n h e i = absurd i
in-value (d ∷ es) n h e (inl same) = let s : (e.0 == d.0) ≡ true = eq-eqb e.0 d.0 (ap (λ (x : ℕ × table.Group). x.0) (sym same)) in rw s (ap (λ (x : ℕ × table.Group). Some x.1) same)
in-value (d ∷ es) n h e (inr i) =
    let above = rises-above (λ (x : ℕ × table.Group). x.0) (d.0 + 1) es e h.1 i in
    let f : (e.0 == d.0) ≡ false = ne_eqb e.0 d.0 (λ same. omega (arith, above, same)) in
    rw f (in-value es (d.0 + 1) h.1 e i)

value-in : (es : List (ℕ × table.Group)) (n : ℕ) (g : table.Group) → value_at es n ≡ Some g → In es (n, g)
value-in [] n g h = absurd (cc h)
value-in (d ∷ es) n g h = elim (cases_Bool (n == d.0)) [
  | inl s ↦ (
      let found : Some d.1 ≡ Some g = rw s at h in
      let number : d.0 ≡ n = sym (eqb-true n d.0 s) in
      let its : d.1 ≡ g = cc in
      inl (ap (λ (m : ℕ). (m, d.1)) number ∙ ap (λ (y : table.Group). (n, y)) its))
  | inr f ↦ (let rest : value_at es n ≡ Some g = rw f at h in inr (value-in es n g rest))
]

module _ {set : RouteSet} {workers limit : ℕ} {past : Past} (t : Tables) (st : Stands set workers limit past t) (rising : IsStrictlySortedBy nat_cmp (map (λ (e : ℕ × table.Group). e.0) t.groups.open_groups)) where
  given : Gathers set (groups (plan_of set) past) (group_calls set past)
  given = gathers set workers limit past st.legal.entries

  rises : RiseUp (λ (e : ℕ × table.Group). e.0) 0 t.groups.open_groups
  rises = sorted-rises (λ (e : ℕ × table.Group). e.0) t.groups.open_groups rising

  pub open-groups-are : t.groups.open_groups ≡ map (kept_group set) (open_groups (plan_of set) past)
  open-groups-are =
      same-rising (λ (e : ℕ × table.Group). e.0) 0 1 t.groups.open_groups (map (kept_group set) (filter is_open (groups (plan_of set) past))) rises
      (rises-map (λ (g : Group). g.number) (λ (e : ℕ × table.Group). e.0) (kept_group set) 1 (filter is_open (groups (plan_of set) past)) (λ g. refl) (group-rises is_open 1 (groups (plan_of set) past) (groups-numbered (plan_of set) past)))
      (λ e i.
      let at = (st.groups.stands.each e.0 e.1).0 (in-value t.groups.open_groups 0 rises e i) in
      let h = some-of (kept_group set) (find (is_for e.1.key.0 e.1.key.1) (groups (plan_of set) past)) e (sym (open-is set (groups (plan_of set) past) (group_calls set past) (λ a key. only-one (plan_of set) past a key) given e.1.key) ∙ at) in
      let of = found-key e.1.key.0 e.1.key.1 (groups (plan_of set) past) h.0 h.1 in
      subst (λ (x : ℕ × table.Group). In (map (kept_group set) (filter is_open (groups (plan_of set) past))) x) h.2
      (in-map (kept_group set) (filter is_open (groups (plan_of set) past)) h.0 (in-filter is_open (groups (plan_of set) past) h.0 (find-in (is_for e.1.key.0 e.1.key.1) (groups (plan_of set) past) h.0 h.1) of.0)))
      (λ e i.
      let g = map-in (kept_group set) (filter is_open (groups (plan_of set) past)) e i in
      let there = filter-in is_open (groups (plan_of set) past) g.0 g.1 in
      let at = open-own set (groups (plan_of set) past) (group_calls set past) (groups-numbered (plan_of set) past) (λ a key. only-one (plan_of set) past a key) given g.0 there.0 there.1 in
      let value = (st.groups.stands.each g.0.number (kept_group set g.0).1).1 at in
      subst (λ (x : ℕ × table.Group). In t.groups.open_groups x) g.2 (value-in t.groups.open_groups g.0.number (kept_group set g.0).1 value))

  -- how many there are
  pub open-many : length t.groups.open_groups ≡ length (open_groups (plan_of set) past)
  open-many = ap (λ (es : List (ℕ × table.Group)). length es) open-groups-are ∙ length-map (open_groups (plan_of set) past) (kept_group set)

  any-forced : (xs : List Group) → list_any (λ (e : ℕ × table.Group). e.1.force) (map (kept_group set) (filter is_open xs)) ≡ any_group (is_forced (plan_of set)) xs
  any-forced [] = refl
  any-forced (g ∷ xs) =
      let ih = any-forced xs in
      elim (is_open g) as (λ v. list_any (λ (e : ℕ × table.Group). e.1.force) (map (kept_group set) (cond v (g ∷ filter is_open xs) (filter is_open xs))) ≡ ((v && ((plan_of set).group g.aggregator).force) || any_group (is_forced (plan_of set)) xs)) [
        | true ↦ ap (λ (b : Bool). ((plan_of set).group g.aggregator).force || b) ih
        | false ↦ ih
      ]

  -- whether one of them may be forced
  pub some-forced : list_any (λ (e : ℕ × table.Group). e.1.force) t.groups.open_groups ≡ any_group (is_forced (plan_of set)) (groups (plan_of set) past)
  some-forced = ap (list_any (λ (e : ℕ × table.Group). e.1.force)) open-groups-are ∙ any-forced (groups (plan_of set) past)

  both : (xs : List Group) → any_group (will_close (plan_of set)) xs ≡ (any_group (λ (g : Group). is_some (due_of (plan_of set) g)) xs || any_group (is_forced (plan_of set)) xs)
  both [] = refl
  both (g ∷ xs) = rw (both xs) (either (is_some (due_of (plan_of set) g)) (is_forced (plan_of set) g) (any_group (λ (d : Group). is_some (due_of (plan_of set) d)) xs) (any_group (is_forced (plan_of set)) xs))
    where
      either : (a b c d : Bool) → ((a || b) || (c || d)) ≡ ((a || c) || (b || d))
      either true b c d = refl
      either false true true d = refl
      either false true false d = refl
      either false false c d = refl

  -- whether a timeout or force will close one
  pub closing-is : (due forced : Bool) → due ≡ any_group (λ (g : Group). is_some (due_of (plan_of set) g)) (groups (plan_of set) past) → forced ≡ list_any (λ (e : ℕ × table.Group). e.1.force) t.groups.open_groups
      → (due || forced) ≡ any_group (will_close (plan_of set)) (groups (plan_of set) past)
  closing-is due forced h k = rw (h, k ∙ some-forced) (sym (both (groups (plan_of set) past)))
