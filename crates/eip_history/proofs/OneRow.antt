-- An entry of one exchange changes a table at one place.
use Rattle.std.proofs.Common.{◌≡◌, ◌≢◌, ℕ, zero, suc, ◌+◌, ◌<◌, Bool, true, false, List, [], ◌∷◌, ◌++◌, filter, filter_map, map, Option, Some, None, refl, sym, ap, ◌∙◌, arith}
use Rattle.std.specs.List.{slice_get, cons_option as list_cons}
use Rattle.eip_exchange.specs.declared.birth.Birth.{Birth}
use Rattle.eip_ledger.specs.declared.entry.Entry.{Entry}
use Rattle.eip_ledger.specs.declared.place.Place.{Place}
use Rattle.eip_history.specs.Plan.{Plan}
use Rattle.eip_history.specs.Own.{Past, concerns, ticked}
use Rattle.eip_history.specs.Births.{births, made_at}
use Rattle.eip_history.specs.Place.{place_of, numbers_at, number_of, picked}
use Rattle.eip_history.specs.Rules.{KeepsRules}
use Rattle.eip_history.specs.Laws.{PlanLaws}
use Rattle.eip_history.specs.Tables.{AreNumberedFrom, put_in}
use Rattle.eip_history.proofs.Told.{births-numbered}
use Rattle.eip_history.proofs.Lists.{numbers-join}
use Rattle.eip_history.proofs.Unborn.{legal-tail}
use Rattle.eip_history.proofs.Places.{place-other, EndsNone}
use Rattle.eip_history.proofs.Numbers.{newborn_place, numbers-after, numbers-at-is}

cons-append : {A : Type 0} (o : Option A) (xs ys : List A) → list_cons o (xs ++ ys) ≡ list_cons o xs ++ ys
cons-append None xs ys = refl
cons-append (Some x) xs ys = refl

map-above : {A : Type 0} (f g : Birth → Option A) (n m : ℕ) (bs : List Birth) → n < m → AreNumberedFrom m bs
    → ((d : Birth) → d.number ≢ n → f d ≡ g d) → filter_map f bs ≡ filter_map g bs
map-above f g n m [] l ns h = refl
map-above f g n m (b ∷ bs) l ns h =
    ap (λ o. list_cons o (filter_map f bs)) (h b (omega (arith, ns.0, l))) ∙ ap (list_cons (g b)) (map-above f g n (m + 1) bs (omega (arith, l)) ns.1 h)

-- two tables that differ at one birth alone
pub record Differ (A : Type 0) (before after : List A) (was now : Option A) : Type 0 where
  pub front : List A
  pub back : List A
  pub before_is : before ≡ front ++ list_cons was back
  pub after_is : after ≡ front ++ list_cons now back

pub differ-at : {A : Type 0} (f g : Birth → Option A) (n : ℕ) (bs : List Birth) (i : ℕ) (b : Birth) → slice_get bs i ≡ Some b → AreNumberedFrom n bs
    → ((d : Birth) → d.number ≢ n + i → f d ≡ g d)
    → Differ A (filter_map f bs) (filter_map g bs) (f b) (g b)
differ-at f g n [] i b at ns h = absurd (cc at)
differ-at f g n (c ∷ bs) zero b at ns h =
    let e : c ≡ b = cc in
    let same = map-above f g n (n + 1) bs (omega arith) ns.1 (λ d ne. h d (omega (arith, ne))) in
    record {
      front = [];
      back = filter_map f bs;
      before_is = ap (λ d. list_cons (f d) (filter_map f bs)) e;
      after_is = ap (λ d. list_cons (g d) (filter_map g bs)) e
          ∙ ap (list_cons (g b)) (sym same);
    }
differ-at f g n (c ∷ bs) (suc i) b at ns h =
    let r = differ-at f g (n + 1) bs i b at ns.1 (λ d ne. h d (omega (arith, ne))) in
    let e = h c (omega (arith, ns.0)) in
    record {
      front = list_cons (f c) r.front;
      back = r.back;
      before_is = ap (list_cons (f c)) r.before_is ∙ cons-append (f c) r.front _;
      after_is = ap (λ o. list_cons o (filter_map g bs)) (sym e) ∙ (ap (list_cons (f c)) r.after_is ∙ cons-append (f c) r.front _);
    }

-- family 3 for any table: an entry of x = i + 1 that ends nobody
pub picked-own : {A : Type 0} (s : Plan) (w limit : ℕ) (e : Entry) (past : Past) (i : ℕ) (b : Birth) → KeepsRules s w limit (e ∷ past)
    → ((y : ℕ) → y ≢ 1 + i → concerns y e.kind ≡ false) → ((n : ℕ) → ticked e.kind n ≡ n)
    → EndsNone s e past → slice_get (births s past) i ≡ Some b → (pick : Birth → Place → Option A)
    → Differ A (picked s past pick) (filter_map
    (λ (d : Birth). pick d (place_of s (e ∷ past) d)) (births s past)) (pick b (place_of s past b)) (pick b (place_of s (e ∷ past) b))
unfolding picked
picked-own s w limit e past i b legal only t none at pick =
    differ-at (λ (d : Birth). pick d (place_of s past d)) (λ (d : Birth). pick d (place_of s (e ∷ past) d)) 1 (births s past) i b at (births-numbered s past)
    (λ d ne. ap (pick d) (sym (place-other s w limit e past d (legal-tail s w limit e past legal) none (only d.number ne) t)))

-- x joins the numbers
pub numbers-own-join : (s : Plan) (laws : PlanLaws s) (w limit : ℕ) (e : Entry) (past : Past) (i : ℕ) (c : Birth) → KeepsRules s w limit (e ∷ past)
    → ((y : ℕ) → y ≢ 1 + i → concerns y e.kind ≡ false) → ((n : ℕ) → ticked e.kind n ≡ n)
    → EndsNone s e past → (p : Place → Bool) → slice_get (births s past) i ≡ Some c
    → ((b : Birth) → slice_get (births s past) i ≡ Some b → (p (place_of s past b) ≡ false) × (p (place_of s (e ∷ past) b) ≡ true))
    → numbers_at s (e ∷ past) p ≡ put_in (1 + i) (numbers_at s past p) ++ map number_of (filter (λ (b : Birth). p (newborn_place b)) (made_at s past e.kind))
numbers-own-join s laws w limit e past i c legal only t none p at here =
    numbers-after s laws w limit e past legal p (λ b. p (place_of s (e ∷ past) b)) refl
    ∙ ap (λ xs. xs ++ map number_of (filter (λ (b : Birth). p (newborn_place b)) (made_at s past e.kind)))
    (numbers-join (λ b. p (place_of s past b)) (λ b. p (place_of s (e ∷ past) b)) 1 (births s past) i c at (births-numbered s past)
    (λ b ne. ap p (sym (place-other s w limit e past b (legal-tail s w limit e past legal) none (only b.number ne) t))) here
    ∙ ap (put_in (1 + i)) (numbers-at-is s past p))
