use Rattle.std.proofs.Common.{None, Some, ◌∙◌, arith}
use Rattle.std.proofs.lemmas.Grind.{common_steps}
use Rattle.eip_text.proofs.Occurrences.{starts, ends, moved, CutAt-found}
use Rattle.eip_text.proofs.split.cut_at.Goals as goal

pub range-requires-clause-end_boundary : goal.range-requires-clause-end_boundary
range-requires-clause-end_boundary c =
    let found = moved _ _ c.args.text.now c.args.by.now (Some c.in-Some.at) c.as_bytes.ensures.value c.as_bytes-2.ensures.value c.in-Some.ensures in
    starts c.args.text.now c.args.by.now c.in-Some.at c.utf8.text c.utf8.by c.requires found.1

pub range_from-requires : goal.range_from-requires
range_from-requires c =
    let found = moved _ _ c.args.text.now c.args.by.now (Some c.in-Some.at) c.as_bytes.ensures.value c.as_bytes-2.ensures.value c.in-Some.ensures in
    λ h. ends c.args.text.now c.args.by.now c.in-Some.at c.utf8.text c.utf8.by c.requires found.1

pub returns-in-None : goal.returns-in-None
returns-in-None c = moved _ _ c.args.text.now c.args.by.now None c.as_bytes.ensures.value c.as_bytes-2.ensures.value c.in-None.ensures

pub returns-in-Some : goal.returns-in-Some
returns-in-Some c =
    CutAt-found c.args.text.now c.args.by.now _ _ c.in-Some.at
    (moved _ _ c.args.text.now c.args.by.now (Some c.in-Some.at) c.as_bytes.ensures.value c.as_bytes-2.ensures.value c.in-Some.ensures)
    (c.range.ensures.value ∙ grind (arith, common_steps)) (c.range_from.ensures.value ∙ grind (arith, common_steps))
