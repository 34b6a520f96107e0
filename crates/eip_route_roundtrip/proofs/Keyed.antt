-- The keys of an object by its slots are as they are to be, where those of all slots stand once and are known, and those of the sure ones are enough.
use Rattle.std.proofs.Common.{◌≡◌, ℕ, Bool, true, false, cond, List, [], ◌∷◌, ◌++◌, Option, Some, None, refl, sym, ap, ◌∙◌}
use Rattle.std.proofs.lemmas.Bool.{or_parts, or_from}
use Rattle.eip_route_grammar.specs.Keys.{spelled}
use Rattle.eip_route_grammar.specs.Objects.{clash, clashes, missed, missing, known, keyed}
use Rattle.eip_route_grammar.specs.Table.{row_for, key_in}
use Rattle.eip_route_grammar.specs.Causes.{or_else}
use Rattle.eip_route_grammar.specs.declared.fault.Cause.{Cause}
use Rattle.eip_route_grammar.specs.declared.fault.Cause.TheVariants as cause
use Rattle.eip_route_grammar.specs.declared.table.Row.{Row}
use Rattle.eip_route_roundtrip.proofs.Slots.{Slot, sure, maybe, filled, all_keys, sure_keys, slot_keys}

-- ---- rows that were seen

clashes_parts : (x : Row) (a b : List Row) → clashes x (a ++ b) ≡ false → (clashes x a ≡ false) × (clashes x b ≡ false)
clashes_parts x [] b e = (refl, e)
clashes_parts x (s ∷ a) b e =
    let p = or_parts (clash x s) (clashes x (a ++ b)) e in
    let q = clashes_parts x a b p.1 in
    (or_from (clash x s) (clashes x a) p.0 q.0, q.1)

clashes_both : (x : Row) (a b : List Row) → clashes x a ≡ false → clashes x b ≡ false → clashes x (a ++ b) ≡ false
clashes_both x [] b e f = f
clashes_both x (s ∷ a) b e f =
    let p = or_parts (clash x s) (clashes x a) e in
    or_from (clash x s) (clashes x (a ++ b)) p.0 (clashes_both x a b p.1 f)

-- what clashes with none of the one clashes with none of the other
record Within (few many : List Row) : Type 0 where
  free : (x : Row) → clashes x many ≡ false → clashes x few ≡ false

within_both : {few many : List Row} (r : Row) → Within few many → Within (few ++ r ∷ []) (many ++ r ∷ [])
within_both {few} {many} r w = record {
  free = λ x e. let p = clashes_parts x many (r ∷ []) e in clashes_both x few (r ∷ []) (w.free x p.0) p.1;
}

within_more : {few many : List Row} (r : Row) → Within few many → Within few (many ++ r ∷ [])
within_more {few} {many} r w = record { free = λ x e. w.free x (clashes_parts x many (r ∷ []) e).0 }

none_else : {A : Type 0} (a b : Option A) → or_else a b ≡ None → (a ≡ None) × (b ≡ None)
none_else None b e = (refl, e)
none_else (Some a) b e = absurd cc

missed_less : (few many : Bool) (c : Option Cause) → cond few None c ≡ None → (many ≡ false → few ≡ false) → cond many None c ≡ None
missed_less few true c e w = refl
missed_less few false c e w = ap (λ (b : Bool). cond b None c) (sym (w refl)) ∙ e

missing_less : (rs few many : List Row) → Within few many → missing few rs ≡ None → missing many rs ≡ None
missing_less [] few many w e = refl
missing_less (r ∷ rs) few many w e =
    let p = none_else (cond (clashes r few) None (missed r)) (missing few rs) e in
    ap (λ (o : Option Cause). or_else o (missing many rs)) (missed_less (clashes r few) (clashes r many) (missed r) p.0 (w.free r)) ∙ missing_less rs few many w p.1

-- ---- one key

known_row : (o : Option Row) (k : List ℕ) (next : Row → Option Cause) → known o k next ≡ None → (r : Row) × (o ≡ Some r)
known_row None k next e = absurd cc
known_row (Some r) k next e = (r, refl)

passed : (b : Bool) (c : Cause) (o : Option Cause) → cond b (Some c) o ≡ None → (b ≡ false) × (o ≡ None)
passed true c o e = absurd cc
passed false c o e = (refl, e)

abbrev judged : List Row → List Row → List (List ℕ) → Row → Option Cause
judged rs seen ks r = cond (clashes r seen) (Some (cause.DoubleKey (spelled (key_in r)))) (keyed rs (seen ++ r ∷ []) ks)

known_at : (rs seen : List Row) (k : List ℕ) (ks : List (List ℕ)) (r : Row) → row_for k rs ≡ Some r → keyed rs seen (k ∷ ks) ≡ None → (clashes r seen ≡ false) × (keyed rs (seen ++ r ∷ []) ks ≡ None)
known_at rs seen k ks r e h =
    passed (clashes r seen) (cause.DoubleKey (spelled (key_in r))) (keyed rs (seen ++ r ∷ []) ks) (ap (λ (o : Option Row). known o k (judged rs seen ks)) (sym e) ∙ h)

known_here : (rs seen : List Row) (k : List ℕ) (ks : List (List ℕ)) (r : Row) → row_for k rs ≡ Some r → clashes r seen ≡ false → keyed rs (seen ++ r ∷ []) ks ≡ None → keyed rs seen (k ∷ ks) ≡ None
known_here rs seen k ks r e c h =
    ap (λ (o : Option Row). known o k (judged rs seen ks)) e
    ∙ ap (λ (b : Bool). cond b (Some (cause.DoubleKey (spelled (key_in r)))) (keyed rs (seen ++ r ∷ []) ks)) c ∙ h

-- ---- all keys

between : (rs low seen full : List Row) (ss : List Slot) → Within low seen → Within seen full → keyed rs low (sure_keys ss) ≡ None → keyed rs full (all_keys ss) ≡ None → keyed rs seen (slot_keys ss) ≡ None
unfolding filled
between rs low seen full [] l u e f = missing_less rs low seen l e
between rs low seen full (sure k j ∷ ss) l u e f =
    let row = known_row (row_for k rs) k (judged rs full (all_keys ss)) f in
    let p = known_at rs low k (sure_keys ss) row.0 row.1 e in
    let q = known_at rs full k (all_keys ss) row.0 row.1 f in
    known_here rs seen k (slot_keys ss) row.0 row.1 (u.free row.0 q.0)
    (between rs (low ++ row.0 ∷ []) (seen ++ row.0 ∷ []) (full ++ row.0 ∷ []) ss (within_both row.0 l) (within_both row.0 u) p.1 q.1)
between rs low seen full (maybe k None ∷ ss) l u e f =
    let row = known_row (row_for k rs) k (judged rs full (all_keys ss)) f in
    let q = known_at rs full k (all_keys ss) row.0 row.1 f in
    between rs low seen (full ++ row.0 ∷ []) ss l (within_more row.0 u) e q.1
between rs low seen full (maybe k (Some j) ∷ ss) l u e f =
    let row = known_row (row_for k rs) k (judged rs full (all_keys ss)) f in
    let q = known_at rs full k (all_keys ss) row.0 row.1 f in
    known_here rs seen k (slot_keys ss) row.0 row.1 (u.free row.0 q.0)
    (between rs low (seen ++ row.0 ∷ []) (full ++ row.0 ∷ []) ss (within_more row.0 l) (within_both row.0 u) e q.1)

pub keys_fine : (rs : List Row) (ss : List Slot) → keyed rs [] (sure_keys ss) ≡ None → keyed rs [] (all_keys ss) ≡ None → keyed rs [] (slot_keys ss) ≡ None
keys_fine rs ss e f = between rs [] [] [] ss (record { free = λ x h. h }) (record { free = λ x h. h }) e f
