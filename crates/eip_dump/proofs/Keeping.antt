-- What holds of each item so far, as a loop goes over a list.
use Rattle.std.proofs.Common.{◌≡◌, ℕ, zero, suc, ◌≤◌, List, [], ◌∷◌, length, take, Some, subst, arith}
use Rattle.std.specs.List.{slice_get}
use Rattle.std.specs.Str.{IsUtf8}
use Rattle.eip_exchange.specs.Pairs.{Pairs}
use Rattle.eip_exchange.specs.declared.end.Ended.{Ended}
use Rattle.eip_dump.specs.Kept.{AreTexts, IsEnd, IsMessage, AreEnded}

pub texts_more : (ps : Pairs) (k : ℕ) (p : List ℕ × List ℕ) → slice_get ps k ≡ Some p → AreTexts (take k ps) → IsUtf8 p.0 → IsUtf8 p.1 → AreTexts (take (suc k) ps)
texts_more [] k p e h n v = absurd cc
texts_more (q ∷ ps) zero p e h n v =
    let same : p ≡ q = cc in
    subst (λ (x : List ℕ × List ℕ). (IsUtf8 x.0 × IsUtf8 x.1) × Unit {0}) same ((n, v), tt)
texts_more (q ∷ ps) (suc k) p e h n v = (h.0, texts_more ps k p e h.1 n v)

pub texts_all : (ps : Pairs) (k : ℕ) → length ps ≤ k → AreTexts (take k ps) → AreTexts ps
texts_all [] k l h = tt
texts_all (p ∷ ps) zero l h = absurd (omega arith)
texts_all (p ∷ ps) (suc k) l h = (h.0, texts_all ps k (omega arith) h.1)

pub ended_more : (es : List Ended) (k : ℕ) (e : Ended) → slice_get es k ≡ Some e → AreEnded (take k es) → IsEnd e.end → IsMessage e.message → AreEnded (take (suc k) es)
ended_more [] k e s h i m = absurd cc
ended_more (f ∷ es) zero e s h i m =
    let same : e ≡ f = cc in
    subst (λ (x : Ended). (IsEnd x.end × IsMessage x.message) × Unit {0}) same ((i, m), tt)
ended_more (f ∷ es) (suc k) e s h i m = (h.0, ended_more es k e s h.1 i m)

pub ended_all : (es : List Ended) (k : ℕ) → length es ≤ k → AreEnded (take k es) → AreEnded es
ended_all [] k l h = tt
ended_all (e ∷ es) zero l h = absurd (omega arith)
ended_all (e ∷ es) (suc k) l h = (h.0, ended_all es k (omega arith) h.1)
