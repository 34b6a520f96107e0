use Rattle.std.proofs.Common.{◌∙◌, List, ℕ, ap, subst}
use Rattle.std.specs.Prelude.{is_some}
use Rattle.regex_hir.specs.Re.{Re}
use Rattle.regex_hir.specs.Find.{find_str}
use Rattle.regex.specs.Strings.{regex_pattern}
use Rattle.eip_simple_read.specs.Patterns.{IsWholeMatch}
use Rattle.eip_simple_read.proofs.Matching.{whole_match}
use Rattle.eip_simple_read.proofs.pattern.Pattern.matches.Goals as goal

pub returns : goal.returns
returns c =
    let same = c.is_match.ensures.found ∙ ap (λ (p : Re). is_some (find_str p c.as_str.result.now 0)) c.in_ok-matcher.ensures.pattern
    ∙ ap (λ (t : List ℕ). is_some (find_str (regex_pattern c.self.inside.whole) t 0)) c.as_str.ensures in
    let found = whole_match c.self.inside.text c.args.text.now c.self.inside.whole c.is_match.result c.self.invariant.whole same in
    subst (λ (p : List ℕ). IsWholeMatch p c.args.text.now c.is_match.result) c.self.view_is found
