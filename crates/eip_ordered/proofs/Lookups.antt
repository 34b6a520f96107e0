-- Look-ups by number, as ordered maps make them.
use Rattle.std.proofs.Common.{◌≡◌, ℕ, Bool, true, false, cond, ◌==◌, eqb, ltb, List, [], ◌∷◌, Option, Some, None, Result, Ok, Err, OnErr, Less, Equal, Greater, nat_cmp, is_eq, BTreeMap, refl, sym, ap, ◌∙◌, arith, eqb-true, le-ltb}
use Rattle.std.specs.Map.{lookup, set_value}
use Rattle.std.specs.BTreeMap.{get}
use Rattle.std.proofs.lemmas.Option.{none-some, same_Some}
use Rattle.eip_ordered.specs.Numbered.{value_at, Puts}

one_tied : (less same : Bool) → (same ≡ true → less ≡ false) → is_eq (cond less Less (cond same Equal Greater)) ≡ same
one_tied true true h = sym (h refl)
one_tied true false h = refl
one_tied false true h = refl
one_tied false false h = refl

pub numbers_tied : (a b : ℕ) → is_eq (nat_cmp a b) ≡ (a == b)
numbers_tied a b = one_tied (ltb a b) (eqb a b) (λ e. le-ltb a b (let same : a ≡ b = eqb-true a b e in omega arith))

alike : {X : Type 0} (f g : ℕ → Bool) → ((k : ℕ) → f k ≡ g k) → (entries : List (ℕ × X)) → lookup f entries ≡ lookup g entries
alike f g h [] = refl
alike {X} f g h (e ∷ entries) =
    ap (λ (b : Bool). cond b (Some e.1) (lookup f entries)) (h e.0)
    ∙ ap (λ (o : Option X). cond (g e.0) (Some e.1) o) (alike f g h entries)

-- what a map has at a number
pub found : {X : Type 0} (map : BTreeMap ℕ X) (x : ℕ) → get nat_cmp map x ≡ value_at map.entries x
found map x = alike (λ k. is_eq (nat_cmp x k)) (λ k. x == k) (numbers_tied x) map.entries

-- a map that has w at a number now
pub puts : {X : Type 0} (old new : BTreeMap ℕ X) (k : ℕ) (w : Option X) → ((x : ℕ) → get nat_cmp new x ≡ cond (is_eq (nat_cmp k x)) w (get nat_cmp old x)) → Puts old.entries new.entries k w
puts {X} old new k w h = λ x.
    sym (found new x) ∙ h x
    ∙ ap (λ (b : Bool). cond b w (get nat_cmp old x)) (numbers_tied k x)
    ∙ ap (λ (o : Option X). cond (k == x) w o) (found old x)

-- ---- a value put where it is

set_by : {K X : Type 0} (t : Bool) (e : K × X) (w : X) (rest same : List (K × X)) (o : Option X) → cond t (Some e.1) o ≡ Some w → (t ≡ false → same ≡ rest) → cond t ((e.0, w) ∷ rest) (e ∷ same) ≡ e ∷ rest
set_by {K} {X} true e w rest same o at h = ap (λ (x : X). (e.0, x) ∷ rest) (sym (same_Some e.1 w at))
set_by {K} {X} false e w rest same o at h = ap (λ (es : List (K × X)). e ∷ es) (h refl)

-- changes nothing
pub set_again : {K X : Type 0} (test : K → Bool) (entries : List (K × X)) (w : X) → lookup test entries ≡ Some w → set_value test entries w ≡ entries
set_again test [] w at = absurd (none-some w at)
set_again test (e ∷ entries) w at = set_by (test e.0) e w entries (set_value test entries w) (lookup test entries) at (λ t. set_again test entries w (sym (ap (λ (b : Bool). cond b (Some e.1) (lookup test entries)) t) ∙ at))

pub err_always : {A E : Type 0} (r : Result A E) (P : Type 0) → P → OnErr r P
err_always (Ok a) P p = tt
err_always (Err e) P p = p
