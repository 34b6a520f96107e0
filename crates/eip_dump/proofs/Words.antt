-- What stands behind a word, as std's method on slices cuts it off.
use Rattle.std.proofs.Common.{◌≡◌, ◌≢◌, ℕ, ◌+◌, eqb, true, false, List, ◌++◌, length, take, drop, Option, Some, None, MatchOption, option_map, sym, ap, ◌∙◌}
use denote.Ref.{Bor}
use Rattle.std.specs.Cmp.Lexicographic.{pointwise}
use Rattle.std.proofs.lemmas.Bool.Decides.{Decides-eqb}
use Rattle.std.proofs.lemmas.Slice.Eq.{strip_prefix_is}
use Rattle.eip_text.specs.Cuts.{behind}
use Rattle.eip_text.proofs.Cutting.{none_since, behind_parts, behind_again}

cut_off : (w s : List ℕ) (r : Option (Bor (List ℕ))) → MatchOption r ((rest : List ℕ) → s ≢ w ++ rest) (λ x. s ≡ w ++ x.now) → option_map (λ x. x.now) r ≡ behind w s
cut_off w s None h = none_since (behind w s) (λ r e. h r (behind_parts w s r e))
cut_off w s (Some x) h = sym (ap (behind w) h ∙ behind_again w x.now)

pub stripped : (w s : List ℕ) (r : Option (Bor (List ℕ))) → MatchOption r (pointwise eqb (take (length w) s) w ≡ false) (λ x. (pointwise eqb (take (length w) s) w ≡ true) × (x.now ≡ drop (length w) s) × (length x.now + length w ≡ length s))
    → option_map (λ x. x.now) r ≡ behind w s
stripped w s r h = cut_off w s r (strip_prefix_is Decides-eqb s w r h)
