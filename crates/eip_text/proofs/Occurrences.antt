-- Where a text may be cut at an occurrence of another.
use Rattle.std.proofs.Common.{ℕ, ◌≡◌, ◌+◌, ◌<◌, List, ◌++◌, Option, Some, sym, ap, ◌∙◌, arith, length, take, drop, subst, length-drop, add-zero, length-take}
use Rattle.std.proofs.lemmas.List.{take-append-drop}
use Rattle.std.specs.Prelude.{slice_index}
use Rattle.std.specs.Str.{IsUtf8, IsCharBoundary}
use Rattle.std.proofs.lemmas.Str.{IsUtf8-drop, IsCharBoundary-start, IsCharBoundary-from_take, IsCharBoundary-from_rest}
use Rattle.memchr.specs.Find.{OccursAt, FindsNeedle}
use Rattle.memchr.proofs.lemmas.MatchLemmas.{OccursAt-part, OccursAt-split}
use Rattle.eip_text.specs.Pieces.{CutAt}

whole : (text by : List ℕ) (i : ℕ) → OccursAt text by i → text ≡ take i text ++ (by ++ drop (i + length by) text)
whole text by i o = sym (take-append-drop i text) ∙ ap (λ x. take i text ++ x) (OccursAt-split text by i o)

module _ (text by : List ℕ) (i : ℕ) (u : IsUtf8 text) (v : IsUtf8 by) (n : 0 < length by) (o : OccursAt text by i) where
  reads : slice_index text i ≡ slice_index by 0
  reads = ap (slice_index text) (sym (add-zero i)) ∙ o.reads 0 n

  pub starts : IsCharBoundary text i
  starts = (omega (arith, o.fits), λ h b. rw reads ((IsCharBoundary-start by v).1 n (rw reads at b)))

  pub ends : IsCharBoundary text (i + length by)
  ends =
      IsCharBoundary-from_rest text i (length by) (omega (arith, o.fits))
      (IsCharBoundary-from_take (drop i text) (length by) (IsUtf8-drop text i u starts) (omega (arith, o.fits, length-drop i text)) (rw (OccursAt-part text by i o) v))

pub moved : (a b a' b' : List ℕ) (r : Option ℕ) → a ≡ a' → b ≡ b' → FindsNeedle a b 0 r → FindsNeedle a' b' 0 r
moved a b a' b' r p q h = subst (λ x. FindsNeedle x b' 0 r) p (subst (λ y. FindsNeedle a y 0 r) q h)

-- what a search found, as a cut
pub CutAt-found : (text by front rest : List ℕ) (i : ℕ) → FindsNeedle text by 0 (Some i) → front ≡ take i text → rest ≡ drop (i + length by) text → CutAt text by front rest
CutAt-found text by front rest i f p q =
    let long : length front ≡ i = ap length p ∙ length-take i text ∙ omega (arith, f.1.fits) in
    record {
      whole = rw (p, q) (whole text by i f.1);
      first = subst (λ n. FindsNeedle text by 0 (Some n)) (sym long) f;
    }
