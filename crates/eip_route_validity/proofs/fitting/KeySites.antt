-- The predicates of an object by its keys: those of different keys are different ones.
use Rattle.std.proofs.Common.{◌≡◌, ℕ, ◌+◌, ◌≤◌, Bool, true, false, cond, not, ◌&&◌, List, [], ◌∷◌, refl, sym, ap, ◌∙◌, arith, ⊎_elim}
use Rattle.std.proofs.lemmas.Bool.{and_parts, true≢false}
use Rattle.eip_text.specs.Json.{Json, Members, no_members, member}
use Rattle.eip_route.specs.declared.route.Names.{Names}
use Rattle.eip_route_grammar.specs.Keys.{spelled, dashed, is_spelled}
use Rattle.eip_route_grammar.specs.Objects.{value_kind}
use Rattle.eip_route_grammar.specs.Paths.{key_step}
use Rattle.eip_route_grammar.specs.declared.keys.Key.{Key}
use Rattle.eip_route_grammar.specs.declared.table.Kind.{Kind}
use Rattle.eip_route_faults.specs.Sites.{under, sites_at, members_sites}
use Rattle.eip_route_validity.proofs.fitting.Keyed.{spelled_one}
use Rattle.eip_route_validity.proofs.fitting.Marks.{stands, stands_append, stands_under}

-- how often a text stands among the predicates of the members that have this key
abbrev pub at_key : List ℕ → Names → ℕ → List (List ℕ × List ℕ) → Kind → Key → Members → ℕ
at_key w n d ps v q no_members = 0
at_key w n d ps v q (member k t ms) = cond (is_spelled q k) (stands w (sites_at n d ps (value_kind v k) t)) 0 + at_key w n d ps v q ms

abbrev pub at_keys : List ℕ → Names → ℕ → List (List ℕ × List ℕ) → Kind → List Key → Members → ℕ
at_keys w n d ps v [] ms = 0
at_keys w n d ps v (q ∷ qs) ms = at_key w n d ps v q ms + at_keys w n d ps v qs ms

-- two keys have no spelling in common
abbrev pub is_other : Key → Key → Bool
is_other q r = not (is_spelled r (spelled q)) && not (is_spelled r (dashed (spelled q)))

abbrev pub is_none_of : Key → List Key → Bool
is_none_of q [] = true
is_none_of q (r ∷ rs) = is_other q r && is_none_of q rs

abbrev pub are_apart : List Key → Bool
are_apart [] = true
are_apart (q ∷ qs) = is_none_of q qs && are_apart qs

-- ---- one member

abbrev once : List Key → List ℕ → ℕ → ℕ
once [] k n = 0
once (q ∷ qs) k n = cond (is_spelled q k) n 0 + once qs k n

denied : (b : Bool) → not b ≡ true → b ≡ false
denied true e = absurd (true≢false (sym e))
denied false e = refl

other_key : (q r : Key) (k : List ℕ) → is_other q r ≡ true → is_spelled q k ≡ true → is_spelled r k ≡ false
other_key q r k o e =
    let h = and_parts (not (is_spelled r (spelled q))) (not (is_spelled r (dashed (spelled q)))) o in
    ⊎_elim (λ p. ap (is_spelled r) p ∙ denied (is_spelled r (spelled q)) h.0) (λ p. ap (is_spelled r) p ∙ denied (is_spelled r (dashed (spelled q))) h.1) (spelled_one q k e)

none_once : (q : Key) (qs : List Key) (k : List ℕ) (n : ℕ) → is_none_of q qs ≡ true → is_spelled q k ≡ true → once qs k n ≡ 0
none_once q [] k n a e = refl
none_once q (r ∷ qs) k n a e =
    let h = and_parts (is_other q r) (is_none_of q qs) a in
    omega (arith, ap (λ (b : Bool). cond b n 0) (other_key q r k h.0 e), none_once q qs k n h.1 e)

once_by : (b : Bool) (n m : ℕ) → (b ≡ true → m ≡ 0) → m ≤ n → cond b n 0 + m ≤ n
once_by true n m z l = omega (arith, z refl)
once_by false n m z l = omega (arith, l)

at_most_once : (qs : List Key) (k : List ℕ) (n : ℕ) → are_apart qs ≡ true → once qs k n ≤ n
at_most_once [] k n a = omega arith
at_most_once (q ∷ qs) k n a =
    let h = and_parts (is_none_of q qs) (are_apart qs) a in
    once_by (is_spelled q k) n (once qs k n) (λ e. none_once q qs k n h.0 e) (at_most_once qs k n h.1)

-- ---- all members

keys_of_none : (w : List ℕ) (n : Names) (d : ℕ) (ps : List (List ℕ × List ℕ)) (v : Kind) (qs : List Key) → at_keys w n d ps v qs no_members ≡ 0
keys_of_none w n d ps v [] = refl
keys_of_none w n d ps v (q ∷ qs) = omega (arith, keys_of_none w n d ps v qs)

keys_of_more : (w : List ℕ) (n : Names) (d : ℕ) (ps : List (List ℕ × List ℕ)) (v : Kind) (qs : List Key) (k : List ℕ) (t : Json) (ms : Members)
    → at_keys w n d ps v qs (member k t ms) ≡ once qs k (stands w (sites_at n d ps (value_kind v k) t)) + at_keys w n d ps v qs ms
keys_of_more w n d ps v [] k t ms = omega arith
keys_of_more w n d ps v (q ∷ qs) k t ms = omega (arith, keys_of_more w n d ps v qs k t ms)

pub keys_within : (w : List ℕ) (n : Names) (d : ℕ) (ps : List (List ℕ × List ℕ)) (v : Kind) (qs : List Key) (ms : Members) → are_apart qs ≡ true → at_keys w n d ps v qs ms ≤ stands w (members_sites n d ps v ms)
unfolding sites_at
keys_within w n d ps v qs no_members a = omega (arith, keys_of_none w n d ps v qs)
keys_within w n d ps v qs (member k t ms) a =
    let here = sites_at n d ps (value_kind v k) t in
    omega (
      arith,
      keys_of_more w n d ps v qs k t ms,
      at_most_once qs k (stands w here) a,
      keys_within w n d ps v qs ms a,
      stands_append w (under (key_step k) here) (members_sites n d ps v ms),
      stands_under w (key_step k) here,
    )
