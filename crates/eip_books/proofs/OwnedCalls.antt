-- What belongs to a worker, by the rows.
use Rattle.std.proofs.Common.{◌≡◌, ◌==◌, ℕ, ◌+◌, ◌-◌, ◌<◌, ◌≤◌, ◌&&◌, ◌||◌, Bool, true, false, List, [], ◌∷◌, length, filter, Option, Some, None, option_map, slice_get, refl, sym, ap, subst, ◌∙◌, arith, eq-eqb, length-append, ◌++◌}
use Rattle.std.specs.Prelude.{All, IfNone}
use Rattle.std.proofs.Math.ListN.{get_or-append}
use Rattle.std.proofs.lemmas.Bool.{ne_eqb, eqb-true}
use Rattle.std.proofs.lemmas.List.{get_or-append-add}
use Rattle.std.proofs.lemmas.List.Elements.{filter-append}
use Rattle.eip_route.specs.declared.route.RouteSet.{RouteSet}
use Rattle.eip_history.specs.Births.{Asked, asked, births}
use Rattle.eip_history.specs.Own.{Past}
use Rattle.eip_history.specs.BookText.{origin_at}
use Rattle.eip_history.specs.Owner.{outlet_by}
use Rattle.eip_history.specs.Rules.{first}
use Rattle.eip_exchange.specs.declared.birth.Origin.{Origin}
use Rattle.eip_frames.specs.declared.request.Request.{Request}
use Rattle.eip_outlets.specs.Outlets.{outlets, route_from, outlet_from}
use Rattle.eip_outlets.proofs.Owned.{outlet-from}
use Rattle.eip_plan.specs.Plan.{plan_of}
use Rattle.eip_tables.specs.Numbers.{RiseFrom, row_numbers}
use Rattle.eip_tables.specs.Outside.{is_among}
use Rattle.eip_tables.specs.Rows.{row_ready}
use Rattle.eip_tables.specs.Stands.{Tables, Stands}
use Rattle.eip_tables.specs.State.{row_outside, outside_at, is_outside_row, is_wanted}
use Rattle.eip_tables.specs.Row.{Row}
use Rattle.eip_table_laws.proofs.HandCalls.{known-outside, outside-are}
use Rattle.eip_tables.proofs.NumbersRise.{numbers-rise}
use Rattle.eip_tables.specs.Rows.{IsIdleSource, is_idle, source_row}
use Rattle.eip_table_laws.proofs.StopCalls.{idle-is, idle-from}
use Rattle.eip_table_laws.proofs.Bounds.{rows-are}
use Rattle.eip_table_laws.proofs.ListedNumbers.{among-numbers, numbers-filter, numbers-within}
use Rattle.eip_table_laws.proofs.OwnCalls.{here, asking, asked-here}

-- who passes two tests passes the second of those that pass the first
pub filter-both : (p q : ℕ → Bool) (xs : List ℕ) → filter (λ x. p x && q x) xs ≡ filter q (filter p xs)
filter-both p q [] = refl
filter-both p q (x ∷ xs) = by_test (p x) refl (filter-both p q xs)
  where
    by_test : (v : Bool) → p x ≡ v → filter (λ y. p y && q y) xs ≡ filter q (filter p xs) → filter (λ y. p y && q y) (x ∷ xs) ≡ filter q (filter p (x ∷ xs))
    by_test true h ih = rw (h, ih) refl
    by_test false h ih = rw (h, ih) refl

or-true : (v w : Bool) → w ≡ true → (v || w) ≡ true
or-true true w h = refl
or-true false w h = h

-- the first of two lists, one behind the other, that passes
pub first-front : (p : ℕ → Bool) (xs ys : List ℕ) (x : ℕ) → first (filter p xs) ≡ Some x → first (filter p (xs ++ ys)) ≡ Some x
first-front p xs ys x h = ap first (filter-append p xs ys) ∙ by_list (filter p xs) h
  where
    by_list : (zs : List ℕ) → first zs ≡ Some x → first (zs ++ filter p ys) ≡ Some x
    by_list [] g = absurd (cc g)
    by_list (z ∷ zs) g = g

pub first-rest : (p : ℕ → Bool) (xs ys : List ℕ) → first (filter p xs) ≡ None → first (filter p (xs ++ ys)) ≡ first (filter p ys)
first-rest p xs ys h = ap first (filter-append p xs ys) ∙ by_list (filter p xs) h
  where
    by_list : (zs : List ℕ) → first zs ≡ None → first (zs ++ filter p ys) ≡ first (filter p ys)
    by_list [] g = refl
    by_list (z ∷ zs) g = absurd (cc g)

pub if-none-first : {P : Type 0} (o : Option ℕ) (xs : List ℕ) → o ≡ first xs → (first xs ≡ None → P) → IfNone o P
if-none-first (Some x) xs e f = tt
if-none-first None xs e f = f (sym e)

-- what is true of each of a list is true of each of its two parts
pub all-front : (P : ℕ → Type 0) (xs ys : List ℕ) → All P (xs ++ ys) → All P xs
all-front P xs ys h = λ k d l. subst P (get_or-append xs ys d k l) (h k d (omega (arith, l, length-append xs ys)))

pub all-rest : (P : ℕ → Type 0) (xs ys : List ℕ) → All P (xs ++ ys) → All P ys
all-rest P xs ys h = λ k d l. subst P (get_or-append-add xs ys k d) (h (length xs + k) d (omega (arith, l, length-append xs ys)))

-- the first of those that pass is one of them, and passes
pub first-of : (p : ℕ → Bool) (xs : List ℕ) (x : ℕ) → first (filter p xs) ≡ Some x → (is_among x xs ≡ true) × (p x ≡ true)
first-of p [] x h = absurd (cc h)
first-of p (y ∷ ys) x h = by_test (p y) refl (first-of p ys x)
  where
    by_test : (v : Bool) → p y ≡ v → (first (filter p ys) ≡ Some x → (is_among x ys ≡ true) × (p x ≡ true)) → (is_among x (y ∷ ys) ≡ true) × (p x ≡ true)
    by_test true g ih = let same : y ≡ x = (let k : Some y ≡ Some x = rw g at h in cc) in (rw (eq-eqb y x same) refl, ap p (sym same) ∙ g)
    by_test false g ih = let r = ih (rw g at h) in (or-true (y == x) (is_among x ys) r.0, r.1)

-- rising numbers have none below the first
absent : (y n : ℕ) (xs : List ℕ) → RiseFrom n xs → y < n → is_among y xs ≡ false
absent y n [] rise l = refl
absent y n (z ∷ zs) rise l = rw (ne_eqb z y (omega (arith, l, rise.0)), absent y (z + 1) zs rise.1 (omega (arith, l, rise.0))) refl

-- of rising numbers none before the first that passes does
pub least-of : (p : ℕ → Bool) (n : ℕ) (xs : List ℕ) (x : ℕ) → RiseFrom n xs → first (filter p xs) ≡ Some x → (y : ℕ) → y < x → (is_among y xs && p y) ≡ false
least-of p n [] x rise h y l = refl
least-of p n (z ∷ zs) x rise h y l = by_test (p z) refl (λ g. least-of p (z + 1) zs x rise.1 g y l)
  where
    by_test : (v : Bool) → p z ≡ v → (first (filter p zs) ≡ Some x → (is_among y zs && p y) ≡ false) → (is_among y (z ∷ zs) && p y) ≡ false
    by_test true g ih = let same : z ≡ x = (let k : Some z ≡ Some x = rw g at h in cc) in
        rw (ne_eqb z y (omega (arith, same, l)), absent y (z + 1) zs rise.1 (omega (arith, same, l))) refl
    by_test false g ih = by_same (z == y) refl (ih (rw g at h))
      where
        by_same : (v : Bool) → (z == y) ≡ v → (is_among y zs && p y) ≡ false → ((v || is_among y zs) && p y) ≡ false
        by_same true e ih = ap p (sym (eqb-true z y e)) ∙ g
        by_same false e ih = ih

-- where nobody passes, nobody does
pub none-of : (p : ℕ → Bool) (xs : List ℕ) → first (filter p xs) ≡ None → (y : ℕ) → (is_among y xs && p y) ≡ false
none-of p [] h y = refl
none-of p (z ∷ zs) h y = by_test (p z) refl (λ g. none-of p zs g y)
  where
    by_test : (v : Bool) → p z ≡ v → (first (filter p zs) ≡ None → (is_among y zs && p y) ≡ false) → (is_among y (z ∷ zs) && p y) ≡ false
    by_test true g ih = absurd (let k : Some z ≡ None = rw g at h in cc k)
    by_test false g ih = by_same (z == y) refl (ih (rw g at h))
      where
        by_same : (v : Bool) → (z == y) ≡ v → (is_among y zs && p y) ≡ false → ((v || is_among y zs) && p y) ≡ false
        by_same true e ih = ap p (sym (eqb-true z y e)) ∙ g
        by_same false e ih = ih

module _ {set : RouteSet} {workers limit : ℕ} {past : Past} (t : Tables) (st : Stands set workers limit past t) where
  -- of the ready numbers those that are known as Outside are all that are known so
  known-are : filter (λ x. is_among x (row_numbers row_outside 1 t.rows)) t.ready ≡ row_numbers row_outside 1 t.rows
  known-are =
      rw st.ready
      (numbers-filter row_ready row_outside (λ x. is_among x (row_numbers row_outside 1 t.rows)) 1 t.rows (λ i r at. among-numbers row_outside 1 t.rows i r at)
      ∙ (sym (numbers-filter row_ready row_outside (λ x. is_wanted true (outside_at t.rows x)) 1 t.rows (λ i r at. let e : 1 + i - 1 ≡ i = omega arith in rw e (ap is_outside_row at)))
      ∙ rw st.ready at (outside-are t st)))

  pub takeable-are : (p : ℕ → Bool) → filter (λ x. is_among x (row_numbers row_outside 1 t.rows) && p x) t.ready ≡ filter p (row_numbers row_outside 1 t.rows)
  takeable-are p = filter-both (λ x. is_among x (row_numbers row_outside 1 t.rows)) p t.ready ∙ ap (filter p) known-are

  -- the numbers that are Ready are those of exchanges
  pub ready-numbers : All (λ x. (0 < x) × (x ≤ length (births (plan_of set) past))) t.ready
  ready-numbers = λ k d l.
      let n = (rw (← st.ready) at (numbers-within row_ready t.rows)) k d l in
      (n.0, omega (arith, n.1, rows-are t st))

  -- the first Ready number that is known as Outside and passes a test is the least that does both
  pub record Least (p : ℕ → Bool) (x : ℕ) : Type 0 where
    pub known : is_among x (row_numbers row_outside 1 t.rows) ≡ true
    pub passes : p x ≡ true
    pub least : (y : ℕ) → y < x → (is_among y (row_numbers row_outside 1 t.rows) && p y) ≡ false

  pub least-some : (p : ℕ → Bool) (x : ℕ) → first (filter (λ y. is_among y (row_numbers row_outside 1 t.rows) && p y) t.ready) ≡ Some x → Least p x
  least-some p x h =
      let f : first (filter p (row_numbers row_outside 1 t.rows)) ≡ Some x = ap first (sym (takeable-are p)) ∙ h in
      let one = first-of p (row_numbers row_outside 1 t.rows) x f in
      record { known = one.0; passes = one.1; least = least-of p 0 (row_numbers row_outside 1 t.rows) x (numbers-rise row_outside t.rows) f }

  pub least-none : (p : ℕ → Bool) → first (filter (λ y. is_among y (row_numbers row_outside 1 t.rows) && p y) t.ready) ≡ None
      → (y : ℕ) → (is_among y (row_numbers row_outside 1 t.rows) && p y) ≡ false
  least-none p h = none-of p (row_numbers row_outside 1 t.rows) (ap first (sym (takeable-are p)) ∙ h)

  -- what an exchange known as Outside asks is its row's request, and where it comes from
  pub record AsksSo (x : ℕ) (r : Row) : Type 0 where
    pub known : Asked
    pub is : asked (plan_of set) past x ≡ Some known
    pub has : r.request ≡ Some known.request
    pub from : origin_at (plan_of set) past x ≡ Some known.birth.origin

  pub asks-so : (x : ℕ) (r : Row) → is_among x (row_numbers row_outside 1 t.rows) ≡ true → slice_get t.rows (x - 1) ≡ Some r → AsksSo x r
  asks-so x r h at =
      let k = known-outside t st x h in
      let same : k.row ≡ r = let both : Some k.row ≡ Some r = sym k.at ∙ at in cc in
      let born = here t 0 x st (omega arith) k.asks.cursor k.row k.ready k.at in
      record {
        known = record { birth = born.birth; request = k.asks.request; at = (asking t 0 x st (omega arith) k.asks.cursor k.row k.ready k.at k.asks.request k.asks.asks).at };
        is = asked-here t 0 x st (omega arith) k.asks.cursor k.row k.ready k.at k.asks.request k.asks.asks;
        has = ap (λ (s : Row). s.request) (sym same) ∙ k.asks.has;
        from = rw born.at refl;
      }

  -- the outlet of an exchange known as Outside, by its row's request and by the route whose source it came from
  pub outlet-so : (x : ℕ) (r : Row) (q : Request) (route : Option ℕ) → is_among x (row_numbers row_outside 1 t.rows) ≡ true → slice_get t.rows (x - 1) ≡ Some r
      → r.request ≡ Some q → ((o : Origin) → origin_at (plan_of set) past x ≡ Some o → route ≡ route_from o)
      → outlet_from (outlets set) route q ≡ outlet_by (outlets set) (asked (plan_of set) past x)
  outlet-so x r q route h at has from =
      let a = asks-so x r h at in
      let same : q ≡ a.known.request = let both : Some q ≡ Some a.known.request = sym has ∙ a.has in cc in
      rw (a.is, from a.known.birth.origin a.from, same) (outlet-from (outlets set) a.known.birth a.known.request)

-- the source of a route of the set, by its row
module _ {set : RouteSet} {workers limit : ℕ} {past : Past} (t : Tables) (st : Stands set workers limit past t) where
  routes-are : length t.sources ≡ length set.routes
  unfolding plan_of
  routes-are = st.sources.many

  pub route-row : (r : ℕ) → r < length set.routes → r < length t.sources
  route-row r l = omega (arith, l, routes-are)

  pub idle-row : (r : ℕ) → r < length set.routes → option_map is_idle (slice_get t.sources r) ≡ Some true → IsIdleSource (plan_of set) past r
  idle-row r l h =
      let within : r < (plan_of set).routes = omega (arith, l, routes-are, st.sources.many) in
      let at = st.sources.each r within in
      idle-from (plan_of set) past r within (let k : Some (is_idle (source_row (plan_of set) past r)) ≡ Some true = rw at at h in cc)

  pub busy-row : (r : ℕ) → option_map is_idle (slice_get t.sources r) ≡ Some false → IsIdleSource (plan_of set) past r → ⊥
  busy-row r h i =
      let at = st.sources.each r i.0.0 in
      let k : Some (is_idle (source_row (plan_of set) past r)) ≡ Some false = rw at at h in
      let f : is_idle (source_row (plan_of set) past r) ≡ false = cc in
      let y = idle-is (plan_of set) past r i in
      cc (sym y ∙ f)
