-- Open groups of the books: how many there are, and which of them will close.
use Rattle.std.proofs.Common.{◌≡◌, ℕ, ◌+◌, ◌*◌, ◌≤◌, false, List, [], ◌∷◌, length, map, filter, Option, Some, None, refl, sym, ap, ◌∙◌, arith, inl, inr}
use Rattle.std.specs.List.{slice_get}
use Rattle.std.specs.List.Sorted.{IsStrictlySortedBy}
use Rattle.std.specs.Prelude.{MatchOption}
use Rattle.std.specs.Option.{option_map}
use Rattle.std.specs.Ordering.{nat_cmp}
use Rattle.std.proofs.lemmas.Bool.{cases_Bool}
use Rattle.std.proofs.lemmas.Option.{slice_get-map}
use Rattle.eip_route.specs.declared.route.RouteSet.{RouteSet}
use Rattle.eip_frames.specs.declared.answer.Completion.{Completion}
use Rattle.eip_aggregator.specs.Arrivals as table
use Rattle.eip_aggregator.specs.Arrivals.{Key, Call, Settings}
use Rattle.eip_aggregator.specs.Tables.{Shows, answer_at, closed_as, closed_by}
use Rattle.eip_aggregator.specs.declared.closed.Arrived.{Arrived}
use Rattle.eip_aggregator.specs.declared.closed.Closed.{Closed}
use Rattle.eip_aggregator.specs.declared.closed.OpenGroup.{OpenGroup}
use Rattle.eip_history.specs.Plan.{Plan}
use Rattle.eip_history.specs.Own.{Past, turns}
use Rattle.eip_history.specs.Births.{groups}
use Rattle.eip_history.specs.Groups.{Group, is_open}
use Rattle.eip_history.specs.Rules.{any_group}
use Rattle.eip_history.specs.Stop.{open_groups, will_close}
use Rattle.eip_plan.specs.Plan.{plan_of}
use Rattle.eip_tables.specs.Groups.{Shown, shown_group, seen_group}
use Rattle.eip_tables.specs.Stands.{Tables, Stands}
use Rattle.eip_table_laws.proofs.Bounds.{rows-are}
use Rattle.eip_table_laws.proofs.GroupLaws.{kept_group}
use Rattle.eip_table_laws.proofs.OfferCalls.{few-all}
use Rattle.eip_table_laws.proofs.OpenGroups.{open-many, open-groups-are}

-- a group that isn't open will not close
none-closes : (s : Plan) (xs : List Group) → length (filter is_open xs) ≡ 0 → any_group (will_close s) xs ≡ false
none-closes s [] h = refl
none-closes s (g ∷ xs) h = elim (cases_Bool (is_open g)) [
  | inl o ↦ absurd (let more = rw o at h in omega (arith, more))
  | inr shut ↦ (let rest : length (filter is_open xs) ≡ 0 = rw shut at h in rw (shut, none-closes s xs rest) refl)
]

-- a group that closes with an arrival is the one that it joined
same-number : (o : Option Completion) (n : ℕ) (g : table.Group) (x : Closed) → closed_by o n g ≡ Some x → x.group ≡ n
same-number None n g x h = absurd (cc h)
same-number (Some c) n g x h = let same : closed_as c n g ≡ x = cc in ap (λ (y : Closed). y.group) (sym same)

pub closed-number : (s : Settings) (calls : List Call) (k : Key) (p : table.Arrival) (answer : Arrived) (x : Closed) → answer ≡ answer_at s calls k p → answer.closed ≡ Some x → x.group ≡ answer.group
closed-number s calls k p answer x is closed =
    same-number _ _ _ x (sym (ap (λ (y : Arrived). y.closed) is) ∙ closed) ∙ sym (ap (λ (y : Arrived). y.group) is)

module _ {set : RouteSet} {workers limit : ℕ} {past : Past} (t : Tables) (st : Stands set workers limit past t) (rising : IsStrictlySortedBy nat_cmp (map (λ (e : ℕ × table.Group). e.0) t.groups.open_groups)) where
  -- no turn makes more than so many exchanges and groups
  pub groups-few : length t.rows + length t.groups.open_groups ≤ turns past * 10000
  groups-few =
      let both = few-all set workers limit past st.legal.entries st.simple in
      let many = open-many t st rising in
      let rows = rows-are t st in
      omega (arith, both, many, rows)

  pub none-closing : length t.groups.open_groups ≡ 0 → any_group (will_close (plan_of set)) (groups (plan_of set) past) ≡ false
  none-closing h = let many = open-many t st rising in none-closes (plan_of set) (groups (plan_of set) past) (omega (arith, many, h))

  shown-so : (x : OpenGroup) (g : Group) → Shows x (kept_group set g) → seen_group x ≡ shown_group g
  shown-so x g h =
      ap (λ (n : ℕ). record { number = n; size = x.size; key = x.key.now }) h.number
      ∙ (ap (λ (n : ℕ). record { number = g.number; size = n; key = x.key.now }) h.size
      ∙ ap (λ (key : List ℕ). record { number = g.number; size = length g.parts; key = key }) h.key)

  at-index : (k : ℕ) → slice_get t.groups.open_groups k ≡ option_map (kept_group set) (slice_get (open_groups (plan_of set) past) k)
  at-index k = ap (λ (es : List (ℕ × table.Group)). slice_get es k) (open-groups-are t st rising) ∙ slice_get-map (kept_group set) (open_groups (plan_of set) past) k

  -- the group with an index is shown as the history has it
  shown-here : (k : ℕ) (x : OpenGroup) (e : ℕ × table.Group) → slice_get t.groups.open_groups k ≡ Some e → Shows x e → option_map shown_group (slice_get (open_groups (plan_of set) past) k) ≡ Some (seen_group x)
  shown-here k x e at shows = by_there (slice_get (open_groups (plan_of set) past) k) (sym (at-index k) ∙ at)
    where
      by_there : (o : Option Group) → option_map (kept_group set) o ≡ Some e → option_map shown_group o ≡ Some (seen_group x)
      by_there None h = absurd (cc h)
      by_there (Some g) h = let same : kept_group set g ≡ e = cc in ap (λ (s : Shown). Some s) (sym (shown-so x g (rw same shows)))

  shown-none : (k : ℕ) → slice_get t.groups.open_groups k ≡ None → option_map shown_group (slice_get (open_groups (plan_of set) past) k) ≡ None
  shown-none k at = by_there (slice_get (open_groups (plan_of set) past) k) (sym (at-index k) ∙ at)
    where
      by_there : (o : Option Group) → option_map (kept_group set) o ≡ None → option_map shown_group o ≡ None
      by_there None h = refl
      by_there (Some g) h = absurd (cc h)

  -- so is what a look at it answers
  pub shown-either : (k : ℕ) (o : Option OpenGroup) → MatchOption o (slice_get t.groups.open_groups k ≡ None) (λ x. (e : ℕ × table.Group) × (slice_get t.groups.open_groups k ≡ Some e) × Shows x e)
      → option_map seen_group o ≡ option_map shown_group (slice_get (open_groups (plan_of set) past) k)
  shown-either k None h = sym (shown-none k h)
  shown-either k (Some x) h = sym (shown-here k x h.0 h.1 h.2)
