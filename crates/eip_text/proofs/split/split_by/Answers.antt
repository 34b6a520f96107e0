use Rattle.std.proofs.Common.{[], refl, None}
use Rattle.eip_text.proofs.Occurrences.{moved}
use Rattle.eip_text.proofs.split.split_by.Goals as goal

pub returns : goal.returns
returns c =
    let last = c.in_ok-of_str-2.ensures in
    let items = c.in_ok-push-2.ensures.items in
    let kept = c.loop-front.invariant.1 c.in_ok-of_str-2.field-0 [] in
    rw items (kept (last, moved c.loop-front.rest.now _ c.loop-front.rest.now c.args.by.now None refl c.as_str.ensures c.in_default.ensures))
