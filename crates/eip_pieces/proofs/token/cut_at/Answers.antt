use Rattle.std.proofs.Common.{None, Some, ◌∙◌, arith}
use Rattle.std.proofs.lemmas.Grind.{common_steps}
use Rattle.eip_text.proofs.Occurrences.{starts, ends, moved}
use Rattle.eip_pieces.proofs.token.cut_at.Goals as goal

pub range-requires-clause-end_boundary : goal.range-requires-clause-end_boundary
range-requires-clause-end_boundary c =
    let found = moved _ _ c.args.text.now c.args.token.now (Some c.in-Some.at) c.as_bytes.ensures.value c.requires.same c.in-Some.ensures in
    starts c.args.text.now c.args.token.now c.in-Some.at c.utf8.text c.utf8.token c.requires.token found.1

pub range_from-requires : goal.range_from-requires
range_from-requires c =
    let found = moved _ _ c.args.text.now c.args.token.now (Some c.in-Some.at) c.as_bytes.ensures.value c.requires.same c.in-Some.ensures in
    λ h. ends c.args.text.now c.args.token.now c.in-Some.at c.utf8.text c.utf8.token c.requires.token found.1

pub returns-in-None : goal.returns-in-None
returns-in-None c = moved _ _ c.args.text.now c.args.token.now None c.as_bytes.ensures.value c.requires.same c.in-None.ensures

pub returns-in-Some : goal.returns-in-Some
returns-in-Some c = record {
  place = c.in-Some.at;
  first = moved _ _ c.args.text.now c.args.token.now (Some c.in-Some.at) c.as_bytes.ensures.value c.requires.same c.in-Some.ensures;
  before = c.range.ensures.value ∙ grind (arith, common_steps);
  behind = c.range_from.ensures.value ∙ grind (arith, common_steps);
}
