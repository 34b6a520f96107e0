-- What the keys of an object are, of which a table has each, and what stands at them.
use Rattle.std.proofs.Common.{ℕ, ◌≡◌, ◌⊎◌, inl, inr, ⊎_elim, Bool, true, false, cond, ◌||◌, List, [], ◌∷◌, ◌++◌, Option, Some, None, is_some, refl, sym, ap, ◌∙◌, subst, bytes_eq, append_assoc, append-nil}
use Rattle.std.proofs.Math.Bool.{or-false}
use Rattle.std.proofs.lemmas.Bool.{or_cases, cond_both, true≢false}
use Rattle.std.proofs.lemmas.Option.{same_Some}
use Rattle.std.proofs.lemmas.Slice.Eq.{bytes_eq-Decides}
use Rattle.eip_text.specs.Json.{Json, Members, no_members, member}
use Rattle.eip_route.specs.declared.route.Names.{Names}
use Rattle.eip_route_grammar.specs.Keys.{spelled, dashed, is_spelled}
use Rattle.eip_route_grammar.specs.Table.{rows, row_for, key_in, kind_in}
use Rattle.eip_route_grammar.specs.Objects.{clashes, missed, missing, known, keyed, keys_of, has_key, value_at, value_kind_in, pairs_in, parameters_of}
use Rattle.eip_route_faults.specs.Sites.{members_sites, first_fault}
use Rattle.eip_route_grammar.specs.declared.fault.Cause.{Cause}
use Rattle.eip_route_grammar.specs.declared.fault.Cause.TheVariants as cause
use Rattle.eip_route_grammar.specs.declared.keys.Key.{Key}
use Rattle.eip_route_grammar.specs.declared.keys.Key.TheVariants as key
use Rattle.eip_route_grammar.specs.declared.table.Kind.{Kind}
use Rattle.eip_route_grammar.specs.declared.table.Row.{Row}
use Rattle.eip_route_grammar.specs.declared.table.Row.TheVariants as row
use Rattle.eip_route_validity.proofs.fitting.Faultless.{or_none, IsFaultless, ObjectFits, first_member}

-- ---- tables

-- a table's row, which is that of its key in both spellings
abbrev pub HasRow : Kind → Row → Type 0
HasRow v r = (row_for (spelled (key_in r)) (rows v) ≡ Some r) × (row_for (dashed (spelled (key_in r))) (rows v) ≡ Some r)

-- a table without a row for this key
abbrev pub Lacks : Kind → Key → Type 0
Lacks v q = (row_for (spelled q) (rows v) ≡ None) × (row_for (dashed (spelled q)) (rows v) ≡ None)

pub spelled_one : (q : Key) (k : List ℕ) → is_spelled q k ≡ true → (k ≡ spelled q) ⊎ (k ≡ dashed (spelled q))
unfolding is_spelled
spelled_one q k e =
    ⊎_elim (λ a. inl ((bytes_eq-Decides k (spelled q)).0 a)) (λ b. inr ((bytes_eq-Decides k (dashed (spelled q))).0 b)) (or_cases (bytes_eq k (spelled q)) (bytes_eq k (dashed (spelled q))) e)

-- the row of a key as it is spelled
pub row_of_key : (v : Kind) (q : Key) (o : Option Row) (k : List ℕ) → (row_for (spelled q) (rows v) ≡ o) × (row_for (dashed (spelled q)) (rows v) ≡ o) → is_spelled q k ≡ true → row_for k (rows v) ≡ o
row_of_key v q o k h e = ⊎_elim (λ p. ap (λ (x : List ℕ). row_for x (rows v)) p ∙ h.0) (λ p. ap (λ (x : List ℕ). row_for x (rows v)) p ∙ h.1) (spelled_one q k e)

pub row_cases : {C : Type 0} (b : Bool) (r s : Row) (o : Option Row) → cond b (Some r) o ≡ Some s → (b ≡ true → r ≡ s → C) → (o ≡ Some s → C) → C
row_cases true r s o e f g = f refl (same_Some r s e)
row_cases false r s o e f g = g e

-- the row that is found has that key
pub found_key : (k : List ℕ) (rs : List Row) (s : Row) → row_for k rs ≡ Some s → is_spelled (key_in s) k ≡ true
found_key k [] s e = absurd cc
found_key k (r ∷ rs) s e =
    row_cases (is_spelled (key_in r) k) r s (row_for k rs) e (λ b p. subst (λ (x : Row). is_spelled (key_in x) k ≡ true) p b) (found_key k rs s)

same_spelled : (q p : Key) (k : List ℕ) → bytes_eq (spelled q) (spelled p) ≡ true → is_spelled p k ≡ true → is_spelled q k ≡ true
unfolding is_spelled
same_spelled q p k e f = let same : spelled q ≡ spelled p = (bytes_eq-Decides (spelled q) (spelled p)).0 e in rw same f

-- ---- the rows of an object's keys

abbrev pub with_row : Option Row → List Row → List Row
with_row None rs = rs
with_row (Some r) rs = r ∷ rs

abbrev pub rows_of : List Row → List (List ℕ) → List Row
rows_of rs [] = []
rows_of rs (k ∷ ks) = with_row (row_for k rs) (rows_of rs ks)

-- the table has each key
abbrev pub AreKnown : List Row → List (List ℕ) → Type 0
AreKnown rs [] = Unit {0}
AreKnown rs (k ∷ ks) = (is_some (row_for k rs) ≡ true) × AreKnown rs ks

-- no row clashes with one before it: none stands twice, and there is one of the group at most
abbrev pub AreFresh : List Row → List Row → Type 0
AreFresh seen [] = Unit {0}
AreFresh seen (r ∷ rs) = (clashes r seen ≡ false) × AreFresh (seen ++ r ∷ []) rs

pub record AreKeyed (rs seen : List Row) (ks : List (List ℕ)) : Type 0 where
  pub known : AreKnown rs ks
  pub fresh : AreFresh seen (rows_of rs ks)
  pub complete : missing (seen ++ rows_of rs ks) rs ≡ None

pub fresh_by : (b : Bool) (c : Cause) (rest : Option Cause) → cond b (Some c) rest ≡ None → (b ≡ false) × (rest ≡ None)
fresh_by true c rest e = absurd cc
fresh_by false c rest e = (refl, e)

keyed_by : (rs seen : List Row) (k : List ℕ) (ks : List (List ℕ)) (o : Option Row) → row_for k rs ≡ o
    → known o k (λ r. cond (clashes r seen) (Some (cause.DoubleKey (spelled (key_in r)))) (keyed rs (seen ++ r ∷ []) ks)) ≡ None
    → ((after : List Row) → keyed rs after ks ≡ None → AreKeyed rs after ks) → AreKeyed rs seen (k ∷ ks)
keyed_by rs seen k ks None p e next = absurd cc
keyed_by rs seen k ks (Some r) p e next =
    let f = fresh_by (clashes r seen) (cause.DoubleKey (spelled (key_in r))) (keyed rs (seen ++ r ∷ []) ks) e in
    let g = next (seen ++ r ∷ []) f.1 in
    record {
      known = (ap is_some p, g.known);
      fresh = subst (λ (o : Option Row). AreFresh seen (with_row o (rows_of rs ks))) (sym p) (f.0, g.fresh);
      complete =
          subst (λ (o : Option Row). missing (seen ++ with_row o (rows_of rs ks)) rs ≡ None) (sym p)
          (subst (λ (x : List Row). missing x rs ≡ None) (append_assoc seen (r ∷ []) (rows_of rs ks)) g.complete);
    }

pub are_keyed : (rs seen : List Row) (ks : List (List ℕ)) → keyed rs seen ks ≡ None → AreKeyed rs seen ks
are_keyed rs seen [] e = record { known = tt; fresh = tt; complete = subst (λ (x : List Row). missing x rs ≡ None) (sym (append-nil seen)) e }
are_keyed rs seen (k ∷ ks) e = keyed_by rs seen k ks (row_for k rs) refl e (λ after h. are_keyed rs after ks h)

-- ---- a key that must be there

abbrev pub has_row : Key → List Row → Bool
has_row q [] = false
has_row q (r ∷ rs) = bytes_eq (spelled q) (spelled (key_in r)) || has_row q rs

must_clash : (q : Key) (w : Kind) (seen : List Row) → clashes (row.Must q w) seen ≡ has_row q seen
must_clash q w [] = refl
must_clash q w (s ∷ seen) =
    ap (λ (x : Bool). x || clashes (row.Must q w) seen) (or-false (bytes_eq (spelled q) (spelled (key_in s)))) ∙ ap (λ (x : Bool). bytes_eq (spelled q) (spelled (key_in s)) || x) (must_clash q w seen)

pub not_missed : (b : Bool) (c : Cause) → cond b None (Some c) ≡ None → b ≡ true
not_missed true c e = refl
not_missed false c e = absurd cc

must_seen : (k : List ℕ) (rs seen : List Row) (q : Key) (w : Kind) → row_for k rs ≡ Some (row.Must q w) → missing seen rs ≡ None → has_row q seen ≡ true
must_seen k [] seen q w p e = absurd cc
must_seen k (r ∷ rs) seen q w p e =
    let h = or_none (cond (clashes r seen) None (missed r)) (missing seen rs) e in
    row_cases (is_spelled (key_in r) k) r (row.Must q w) (row_for k rs) p
    (λ b same. sym (must_clash q w seen) ∙ not_missed (clashes (row.Must q w) seen) (cause.MissingKey (spelled q)) (subst (λ (x : Row). cond (clashes x seen) None (missed x) ≡ None) same h.0))
    (λ later. must_seen k rs seen q w later h.1)

pub here : (b : Bool) (t : Json) (o : Option Json) → b ≡ true → is_some (cond b (Some t) o) ≡ true
here true t o e = refl
here false t o e = absurd (true≢false (sym e))

pub later : (b : Bool) (t : Json) (o : Option Json) → is_some o ≡ true → is_some (cond b (Some t) o) ≡ true
later true t o e = refl
later false t o e = e

there_by : (q : Key) (rs : List Row) (k : List ℕ) (t : Json) (ms : Members) (o : Option Row) → row_for k rs ≡ o → has_row q (with_row o (rows_of rs (keys_of ms))) ≡ true
    → (has_row q (rows_of rs (keys_of ms)) ≡ true → is_some (value_at q ms) ≡ true) → is_some (value_at q (member k t ms)) ≡ true
there_by q rs k t ms None p e next = later (is_spelled q k) t (value_at q ms) (next e)
there_by q rs k t ms (Some s) p e next = ⊎_elim
    (λ a. here (is_spelled q k) t (value_at q ms) (same_spelled q (key_in s) k a (found_key k rs s p)))
    (λ b. later (is_spelled q k) t (value_at q ms) (next b))
    (or_cases (bytes_eq (spelled q) (spelled (key_in s))) (has_row q (rows_of rs (keys_of ms))) e)

pub row_there : (q : Key) (rs : List Row) (ms : Members) → has_row q (rows_of rs (keys_of ms)) ≡ true → is_some (value_at q ms) ≡ true
row_there q rs no_members e = e
row_there q rs (member k t ms) e = there_by q rs k t ms (row_for k rs) refl e (row_there q rs ms)

-- a key that an object must have is there
pub must_be_there : (v : Kind) (q : Key) (w : Kind) (ms : Members) → HasRow v (row.Must q w) → keyed (rows v) [] (keys_of ms) ≡ None → is_some (value_at q ms) ≡ true
must_be_there v q w ms h e = row_there q (rows v) ms (must_seen (spelled q) (rows v) (rows_of (rows v) (keys_of ms)) q w h.0 (are_keyed (rows v) [] (keys_of ms) e).complete)

-- whether a key is there
pub key_there : (q : Key) (ms : Members) → has_key q ms ≡ is_some (value_at q ms)
key_there q no_members = refl
key_there q (member k t ms) = by (is_spelled q k) (key_there q ms)
  where
    by : (b : Bool) → has_key q ms ≡ is_some (value_at q ms) → (b || has_key q ms) ≡ is_some (cond b (Some t) (value_at q ms))
    by true e = refl
    by false e = e

-- ---- what stands at a key

-- the value of a key that may be absent
abbrev pub MayFit : Names → ℕ → List (List ℕ × List ℕ) → Kind → Option Json → Type 0
MayFit n d ps w None = Unit {0}
MayFit n d ps w (Some t) = IsFaultless n d ps w t

pub value_fits : (n : Names) (d : ℕ) (ps : List (List ℕ × List ℕ)) (v : Kind) (r : Row) (ms : Members) → HasRow v r → first_fault (members_sites n d ps v ms) ≡ None → MayFit n d ps (kind_in r) (value_at (key_in r) ms)
value_fits n d ps v r no_members h e = tt
value_fits n d ps v r (member k t ms) h e =
    let g = first_member n d ps v k t ms e in
    cond_both (is_spelled (key_in r) k) (Some t) (value_at (key_in r) ms) (MayFit n d ps (kind_in r))
    (λ b. subst (λ (o : Option Row). IsFaultless n d ps (value_kind_in o) t) (row_of_key v (key_in r) (Some r) k h b) g.0)
    (λ b. value_fits n d ps v r ms h g.1)

-- nothing is wrong with the value of a key that is there
pub value_faultless : (n : Names) (d : ℕ) (v : Kind) (r : Row) (ms : Members) (t : Json) → HasRow v r → ObjectFits n d v ms → value_at (key_in r) ms ≡ Some t → IsFaultless n d (parameters_of ms) (kind_in r) t
value_faultless n d v r ms t h o e = subst (MayFit n d (parameters_of ms) (kind_in r)) e (value_fits n d (parameters_of ms) v r ms h o.members)

given_value : (o : Option Json) → is_some o ≡ true → (t : Json) × (o ≡ Some t)
given_value None e = absurd cc
given_value (Some t) e = (t, refl)

-- the value of a key that must be there
pub must_value : (n : Names) (d : ℕ) (v : Kind) (q : Key) (w : Kind) (ms : Members) → HasRow v (row.Must q w) → ObjectFits n d v ms → (t : Json) × (value_at q ms ≡ Some t) × IsFaultless n d (parameters_of ms) w t
must_value n d v q w ms h o = let g = given_value (value_at q ms) (must_be_there v q w ms h o.keys) in (g.0, g.1, value_faultless n d v (row.Must q w) ms g.0 h o g.1)

given_by : (n : Names) (d : ℕ) (ps : List (List ℕ × List ℕ)) (w : Kind) (P : Option Json → Type 0) (o : Option Json) → MayFit n d ps w o → is_some o ≡ true → ((t : Json) → IsFaultless n d ps w t → P (Some t)) → P o
given_by n d ps w P None h e f = absurd cc
given_by n d ps w P (Some t) h e f = f t h

may_by : (n : Names) (d : ℕ) (ps : List (List ℕ × List ℕ)) (w : Kind) (P : Option Json → Type 0) (o : Option Json) → MayFit n d ps w o → P None → ((t : Json) → IsFaultless n d ps w t → P (Some t)) → P o
may_by n d ps w P None h p f = p
may_by n d ps w P (Some t) h p f = f t h

-- what holds of the value of a key that must be there, since nothing is wrong with it
pub with_must : (P : Option Json → Type 0) (n : Names) (d : ℕ) (v : Kind) (q : Key) (w : Kind) (ms : Members) → HasRow v (row.Must q w) → ObjectFits n d v ms
    → ((t : Json) → IsFaultless n d (parameters_of ms) w t → P (Some t)) → P (value_at q ms)
with_must P n d v q w ms h o f =
    given_by n d (parameters_of ms) w P (value_at q ms) (value_fits n d (parameters_of ms) v (row.Must q w) ms h o.members) (must_be_there v q w ms h o.keys) f

-- the same of one that may be there
pub with_may : (P : Option Json → Type 0) (n : Names) (d : ℕ) (v : Kind) (r : Row) (ms : Members) → HasRow v r → ObjectFits n d v ms
    → P None → ((t : Json) → IsFaultless n d (parameters_of ms) (kind_in r) t → P (Some t)) → P (value_at (key_in r) ms)
with_may P n d v r ms h o p f =
    may_by n d (parameters_of ms) (kind_in r) P (value_at (key_in r) ms) (value_fits n d (parameters_of ms) v r ms h o.members) p f

-- ---- a key that the table lacks

absent_by : (v : Kind) (q : Key) (k : List ℕ) (t : Json) (o : Option Json) → Lacks v q → is_some (row_for k (rows v)) ≡ true → o ≡ None → cond (is_spelled q k) (Some t) o ≡ None
absent_by v q k t o h e n =
    cond_both (is_spelled q k) (Some t) o (λ x. x ≡ None) (λ b. absurd (true≢false (sym e ∙ ap is_some (row_of_key v q None k h b)))) (λ b. n)

pub absent_known : (v : Kind) (q : Key) (ms : Members) → Lacks v q → AreKnown (rows v) (keys_of ms) → value_at q ms ≡ None
absent_known v q no_members h a = refl
absent_known v q (member k t ms) h a = absent_by v q k t (value_at q ms) h a.0 (absent_known v q ms h a.1)

pub lacked : (v : Kind) (q : Key) (ms : Members) → Lacks v q → keyed (rows v) [] (keys_of ms) ≡ None → value_at q ms ≡ None
lacked v q ms h e = absent_known v q ms h (are_keyed (rows v) [] (keys_of ms) e).known

-- where the table lacks `parameters`, none stand beside its values
pub without_parameters : (n : Names) (d : ℕ) (v : Kind) (ms : Members) → Lacks v key.Parameters → ObjectFits n d v ms → parameters_of ms ≡ []
without_parameters n d v ms h o = ap pairs_in (lacked v key.Parameters ms h o.keys)
