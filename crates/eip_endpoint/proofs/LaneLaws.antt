-- How lanes grow by calls.
use Rattle.std.proofs.Common.{ℕ, zero, suc, ◌≡◌, ◌≢◌, ◌+◌, ◌<◌, List, [], ◌∷◌, ◌++◌, refl, sym, ap, ◌∙◌, subst, arith, length, map, get_or}
use Rattle.std.proofs.Math.ListN.{set}
use Rattle.std.proofs.lemmas.Grind.{common_steps}
use Rattle.eip_text.specs.Causes.{Rises}
use Rattle.eip_endpoint.specs.declared.endpoint.Call.{Call}
use Rattle.eip_endpoint.specs.Content.{extended}
use Rattle.eip_endpoint.specs.Calls.{failures}
use Rattle.eip_endpoint.specs.Lanes.{LaneView, LaneCall, LaneGrew, LanesGrew, calls_at, at_lane}
use Rattle.eip_endpoint.proofs.Told.{extended-none, extended-append, Rises-none, Rises-trans}

pub calls_at-append : (k : ℕ) (js ks : List LaneCall) → calls_at k (js ++ ks) ≡ calls_at k js ++ calls_at k ks
calls_at-append k [] ks = refl
calls_at-append k (j ∷ js) ks = let ih = calls_at-append k js ks in grind (arith, common_steps, ih)

pub calls_at-own : (k : ℕ) (cs : List Call) → calls_at k (at_lane k cs) ≡ cs
calls_at-own k [] = refl
calls_at-own k (c ∷ cs) = let ih = calls_at-own k cs in grind (arith, common_steps, ih)

pub calls_at-other : (k i : ℕ) (cs : List Call) → i ≢ k → calls_at k (at_lane i cs) ≡ []
calls_at-other k i [] other = refl
calls_at-other k i (c ∷ cs) other = let ih = calls_at-other k i cs other in grind (arith, common_steps, ih)

pub failures-append : (cs ds : List Call) → failures (cs ++ ds) ≡ failures cs + failures ds
failures-append [] ds = omega arith
failures-append (c ∷ cs) ds = let ih = failures-append cs ds in omega (arith, ih)

-- a lane that is not called stays
pub LaneGrew-none : (k : ℕ) (js : List LaneCall) (v : LaneView) → calls_at k js ≡ [] → LaneGrew k js v v
LaneGrew-none k js v e = record {
  name = refl;
  calls = rw e (extended-none v.calls);
  faults = rw e (Rises-none v.faults);
}

pub LaneGrew-trans : (k : ℕ) (js ks : List LaneCall) (u v w : LaneView) → LaneGrew k js u v → LaneGrew k ks v w → LaneGrew k (js ++ ks) u w
LaneGrew-trans k js ks u v w a b = record {
  name = b.name ∙ a.name;
  calls = rw calls_at-append (b.calls ∙ ap (λ o. extended o (calls_at k ks)) a.calls ∙ extended-append u.calls (calls_at k js) (calls_at k ks));
  faults = rw (calls_at-append, failures-append) (Rises-trans _ _ _ _ _ a.faults b.faults);
}

-- a lane behind its own calls
pub LaneGrew-sent :
    (k : ℕ) (cs : List Call) (v w : LaneView) → w.name ≡ v.name → w.calls ≡ extended v.calls cs
    → Rises (failures cs) v.faults w.faults → LaneGrew k (at_lane k cs) v w
LaneGrew-sent k cs v w name calls faults = record {
  name = name;
  calls = rw calls_at-own calls;
  faults = rw calls_at-own faults;
}

-- without a call the lanes stay
pub LanesGrew-none : (k : ℕ) (vs : List LaneView) → LanesGrew k [] vs vs
LanesGrew-none k [] = tt
LanesGrew-none k (v ∷ vs) = (LaneGrew-none k [] v refl, LanesGrew-none (k + 1) vs)

-- calls in a row
pub LanesGrew-trans :
    (k : ℕ) (js ks : List LaneCall) (us vs ws : List LaneView) → LanesGrew k js us vs → LanesGrew k ks vs ws → LanesGrew k (js ++ ks) us ws
LanesGrew-trans k js ks [] [] [] a b = tt
LanesGrew-trans k js ks (u ∷ us) (v ∷ vs) (w ∷ ws) a b = (LaneGrew-trans k js ks u v w a.0 b.0, LanesGrew-trans (k + 1) js ks us vs ws a.1 b.1)
LanesGrew-trans k js ks [] [] (w ∷ ws) a b = b
LanesGrew-trans k js ks [] (v ∷ vs) ws a b = absurd a
LanesGrew-trans k js ks (u ∷ us) [] ws a b = absurd a
LanesGrew-trans k js ks (u ∷ us) (v ∷ vs) [] a b = b

-- calls of a lane in front stay out
pub LanesGrew-before : (k i : ℕ) (cs : List Call) (vs : List LaneView) → i < k → LanesGrew k (at_lane i cs) vs vs
LanesGrew-before k i cs [] h = tt
LanesGrew-before k i cs (v ∷ vs) h =
    (LaneGrew-none k _ v (calls_at-other k i cs (omega arith)), LanesGrew-before (k + 1) i cs vs (omega arith))

-- the calls of one lane change that one alone
pub LanesGrew-set :
    {L : Type 0} (f : L → LaneView) (k i n : ℕ) (cs : List Call) (ls : List L) (d w : L) → n ≡ k + i → i < length ls
    → LaneGrew n (at_lane n cs) (f (get_or ls i d)) (f w) → LanesGrew k (at_lane n cs) (map f ls) (map f (set ls i w))
LanesGrew-set f k i n cs [] d w e h g = absurd (omega arith)
LanesGrew-set f k zero n cs (l ∷ ls) d w e h g =
    let same : n ≡ k = omega arith in
    (subst (λ m. LaneGrew m (at_lane n cs) (f l) (f w)) same g, LanesGrew-before (k + 1) n cs (map f ls) (omega arith))
LanesGrew-set f k (suc i) n cs (l ∷ ls) d w e h g =
    (LaneGrew-none k _ (f l) (calls_at-other k n cs (omega arith)), LanesGrew-set f (k + 1) i n cs ls d w (omega arith) (omega arith) g)

-- the lanes keep their names
pub LanesGrew-names : (k : ℕ) (js : List LaneCall) (vs ws : List LaneView) → LanesGrew k js vs ws → map (λ v. v.name) vs ≡ map (λ w. w.name) ws
LanesGrew-names k js [] [] g = refl
LanesGrew-names k js (v ∷ vs) (w ∷ ws) g =
    let first : v.name ≡ w.name = sym g.0.name in
    let rest : map (λ x. x.name) vs ≡ map (λ x. x.name) ws = LanesGrew-names (k + 1) js vs ws g.1 in
    cc
LanesGrew-names k js [] (w ∷ ws) g = absurd g
LanesGrew-names k js (v ∷ vs) [] g = absurd g

-- and their number
pub LanesGrew-length : (k : ℕ) (js : List LaneCall) (vs ws : List LaneView) → LanesGrew k js vs ws → length vs ≡ length ws
LanesGrew-length k js [] [] g = refl
LanesGrew-length k js (v ∷ vs) (w ∷ ws) g = ap suc (LanesGrew-length (k + 1) js vs ws g.1)
LanesGrew-length k js [] (w ∷ ws) g = absurd g
LanesGrew-length k js (v ∷ vs) [] g = absurd g

-- the same over what is seen as lanes: g reads the name that f shows
pub LanesGrew-named :
    {L : Type 0} (f : L → LaneView) (g : L → List ℕ) (k : ℕ) (js : List LaneCall) (ls ms : List L) → ((l : L) → (f l).name ≡ g l)
    → LanesGrew k js (map f ls) (map f ms) → map g ls ≡ map g ms
LanesGrew-named f g k js [] [] reads grew = refl
LanesGrew-named f g k js (l ∷ ls) (m ∷ ms) reads grew =
    let first : g l ≡ g m = sym (reads l) ∙ sym grew.0.name ∙ reads m in
    let rest : map g ls ≡ map g ms = LanesGrew-named f g (k + 1) js ls ms reads grew.1 in
    cc
LanesGrew-named f g k js [] (m ∷ ms) reads grew = absurd grew
LanesGrew-named f g k js (l ∷ ls) [] reads grew = absurd grew
