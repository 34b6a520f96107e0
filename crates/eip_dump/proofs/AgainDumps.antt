-- A printed first line is read again.
use Rattle.std.proofs.Common.{◌≡◌, ℕ, ◌^◌, ◌<◌, true, nat_le, ◌&&◌, List, [], ◌∷◌, ◌++◌, Option, Some, None, option_map, refl, sym, ap, ◌∙◌, append_assoc, arith}
use Rattle.std.proofs.lemmas.Bool.{le-leb, leb-true, and_parts}
use Rattle.eip_text.specs.Cuts.{behind}
use Rattle.eip_text.proofs.Cutting.{behind_again, behind_parts, mapped, guarded}
use Rattle.eip_dump.specs.declared.first_line.First.{First}
use Rattle.eip_dump.specs.Lines.{number}
use Rattle.eip_dump.specs.Reading.{◌>>=◌}
use Rattle.eip_dump.specs.Dump.{first_text, is_within, CountFits, HasLimits, IsFirst, HasNoFirst, placed, first_at, first_front}
use Rattle.eip_dump.proofs.AgainNumbers.{number_again, small_again}

abbrev first_with : ℕ → ℕ → Option ℕ → First
first_with w t n = record { workers = w; turns = t; count = n }

first_at_with : (w t : ℕ) (n : Option ℕ) (rest : List ℕ) → w < 2 ^ 32 → t < 2 ^ 32 → CountFits n → first_at (first_text (first_with w t n) ++ rest) ≡ Some (first_with w t n)
unfolding first_at first_text
first_at_with w t None rest lw lt c =
    rw (
      append_assoc (number w) (number t ++ 10 ∷ []) rest,
      append_assoc (number t) (10 ∷ []) rest,
      small_again w (number t ++ (10 ∷ rest)) lw refl,
      small_again t (10 ∷ rest) lt refl,
    )
    refl
first_at_with w t (Some n) rest lw lt c =
    rw (
      append_assoc (number w) (number t ++ (number n ++ 10 ∷ [])) rest,
      append_assoc (number t) (number n ++ 10 ∷ []) rest,
      append_assoc (number n) (10 ∷ []) rest,
      small_again w (number t ++ (number n ++ (10 ∷ rest))) lw refl,
      small_again t (number n ++ (10 ∷ rest)) lt refl,
      number_again n (10 ∷ rest) c refl,
    )
    refl

within_limits : (f : First) → HasLimits f.workers f.turns → is_within f ≡ true
within_limits f h = rw (le-leb f.workers 16 h.few, le-leb 1 f.turns h.least, le-leb f.turns 1000000 h.most) refl

pub limits_of : (f : First) → is_within f ≡ true → HasLimits f.workers f.turns
limits_of f h =
    let p = and_parts (nat_le f.workers 16) (nat_le 1 f.turns && nat_le f.turns 1000000) h in
    let q = and_parts (nat_le 1 f.turns) (nat_le f.turns 1000000) p.1 in
    record { few = leb-true f.workers 16 p.0; least = leb-true 1 f.turns q.0; most = leb-true f.turns 1000000 q.1 }

pub first_again : (f : First) (rest : List ℕ) → IsFirst f → first_front (first_text f ++ rest) ≡ Some (f, rest)
unfolding first_front
first_again f rest i =
    let small_workers : f.workers < 2 ^ 32 = omega (arith, i.limits.few) in
    let small_turns : f.turns < 2 ^ 32 = omega (arith, i.limits.most) in
    rw (first_at_with f.workers f.turns f.count rest small_workers small_turns i.count, within_limits f i.limits, behind_again (first_text f) rest) refl

first_from : (o : Option First) (f : First) (bs rest : List ℕ) → (o >>= placed bs) ≡ Some (f, rest) → (bs ≡ first_text f ++ rest) × HasLimits f.workers f.turns
first_from None f bs rest h = absurd cc
first_from (Some read) f bs rest h =
    let g = guarded (is_within read) (option_map (λ (r : List ℕ). (read, r)) (behind (first_text read) bs)) (f, rest) h in
    let m = mapped (λ (r : List ℕ). (read, r)) (behind (first_text read) bs) (f, rest) g.1 in
    let same : read ≡ f = ap (λ (p : First × List ℕ). p.0) m.2 in
    let tail : m.0 ≡ rest = ap (λ (p : First × List ℕ). p.1) m.2 in
    let whole : bs ≡ first_text f ++ rest = behind_parts (first_text read) bs m.0 m.1 ∙ ap (λ (x : First). first_text x ++ m.0) same ∙ ap (λ (r : List ℕ). first_text f ++ r) tail in
    (whole, limits_of f (ap is_within (sym same) ∙ g.0))

pub first_is : (f : First) (bs rest : List ℕ) → first_front bs ≡ Some (f, rest) → (bs ≡ first_text f ++ rest) × HasLimits f.workers f.turns
unfolding first_front
first_is f bs rest h = first_from (first_at bs) f bs rest h

pub is_no_first : (bs : List ℕ) → first_front bs ≡ None → HasNoFirst bs
is_no_first bs h f rest i line =
    let again : first_front bs ≡ Some (f, rest) = ap first_front line ∙ first_again f rest i in
    let clash : ◌≡◌ {A = Option (First × List ℕ)} None (Some (f, rest)) = sym h ∙ again in
    absurd cc
