-- Whether a pattern matches the whole of a text.
use Rattle.std.specs.Prelude.{ℕ, Bool, List, chars, is_some, option_and_then}
use Rattle.regex_hir.specs.Find.{find_str}
use Rattle.regex_syntax.specs.Grammar.{read}
use Rattle.regex_syntax.specs.Verdict.{default_config}
use Rattle.eip_simple_read.specs.Patterns.{enclosed}

-- the pattern, enclosed between the text's beginning and its end, matches as the grammar reads it
unfoldable pub is_whole_match : List ℕ → List ℕ → Bool
is_whole_match pattern text = is_some (option_and_then (λ (re, _). find_str re.value text 0) (read default_config (chars (enclosed pattern))))
