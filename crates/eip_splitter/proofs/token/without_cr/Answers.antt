use Rattle.std.proofs.Common.{refl, sym, ap, ◌∙◌, Some, None, lit<}
use Rattle.std.proofs.lemmas.Str.Pattern.{strip_suffix_char}
use Rattle.eip_splitter.specs.Parts.{without_cr}
use Rattle.eip_splitter.proofs.Ends.{last_dropped, not_ended}
use Rattle.eip_splitter.proofs.token.without_cr.Goals as goal

pub returns-in-Some : goal.returns-in-Some
returns-in-Some c =
    let whole = strip_suffix_char 13 c.args.line.now (Some c.in-Some.front) c.in-Some.ensures.cases (lit< tt) in
    sym (ap without_cr whole ∙ last_dropped _ c.in-Some.front.now 13 refl)

pub returns-in-None : goal.returns-in-None
returns-in-None c =
    let none = strip_suffix_char 13 c.args.line.now None c.in-None.ensures.cases (lit< tt) in
    sym (not_ended 13 c.args.line.now none)
