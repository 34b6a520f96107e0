-- What a match of a whole text is, whichever tree the pattern's text was read as.
use Rattle.std.proofs.Common.{◌≡◌, ℕ, ◌<◌, ◌≤◌, Bool, true, List, length, chars, get_or, Option, None, Some, IsSomeAnd, is_some, ◌∙◌}
use Rattle.std.specs.Prelude.{option_and_then}
use Rattle.regex_hir.specs.Meaning.{meaning}
use Rattle.regex_hir.specs.Find.{Match, find_str}
use Rattle.regex_syntax.specs.Grammar.{group_count, read}
use Rattle.regex_syntax.specs.Captures.{SameCaptures}
use Rattle.regex_syntax.specs.Verdict.{Reads, default_config}
use Rattle.regex.proofs.ForCallers.{is_match_alike}
use Rattle.eip_simple_read.specs.Patterns.{IsWholeMatch, enclosed}
use Rattle.eip_simple.specs.Matching.{is_whole_match}

found_so : {A : Type 0} (o : Option A) (P : A → Type 0) (find : A → Option Match) (b : Bool) → IsSomeAnd o P → ((x : A) → P x → b ≡ is_some (find x))
    → b ≡ is_some (option_and_then find o)
found_so None P find b p h = absurd p
found_so (Some x) P find b p h = h x p

pub whole_match_is : (pattern text : List ℕ) (b : Bool) → ((k : ℕ) → get_or text k 0 < 256) → IsWholeMatch pattern text b → b ≡ is_whole_match pattern text
unfolding is_whole_match Reads
whole_match_is pattern text b small w =
    found_so (read default_config (chars (enclosed pattern)))
    (λ (re, found). (re.depth ≤ default_config.nest_limit) × SameCaptures (meaning w.0) re.value × (w.1 ≡ found) × (group_count (meaning w.0) ≤ length w.1))
    (λ (re, found). find_str re.value text 0) b w.2 (λ x p. w.3 ∙ is_match_alike p.1 text small true 0)
