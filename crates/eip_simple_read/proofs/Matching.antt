-- What a search says of a pattern.
use Rattle.std.proofs.Common.{◌≡◌, ℕ, Bool, List, subst}
use Rattle.std.specs.Prelude.{is_some}
use Rattle.regex_hir.specs.Find.{find_str}
use Rattle.regex_syntax.specs.Verdict.{Reads, default_config}
use Rattle.regex_syntax.specs.declared.Config.{Config}
use Rattle.regex.specs.Names.{names_of}
use Rattle.regex.specs.declared.string.regex.Regex.{Regex}
use Rattle.regex.specs.Strings.{regex_source, regex_pattern}
use Rattle.eip_simple_read.specs.Patterns.{enclosed, IsOf, IsWholeMatch}

-- a search for the enclosed text is a match of the whole
pub whole_match : (pattern text : List ℕ) (regex : Regex) (b : Bool) → IsOf (enclosed pattern) regex → b ≡ is_some (find_str (regex_pattern regex) text 0) → IsWholeMatch pattern text b
whole_match pattern text regex b of found =
    let hir = regex.pattern.program.hir in
    let names = names_of regex.pattern.names.items in
    (hir, names, subst (λ (s : List ℕ). Reads default_config s hir names) of.source (subst (λ (c : Config). Reads c (regex_source regex) hir names) of.config of.read), found)
