use Rattle.std.proofs.Common.{◌≡◌, suc, ◌<◌, ◌++◌, length, drop, Some, string_bytes, refl, add-one, arith}
use Rattle.std.specs.List.{flat_map, slice_get}
use Rattle.std.proofs.lemmas.Option.{slice_get_read}
use Rattle.eip_dump.specs.Lines.{ended_text}
use Rattle.eip_dump.proofs.Growing.{at_place, grows}
use Rattle.eip_dump.proofs.Keeping.{ended_more}
use Rattle.eip_dump.proofs.answer_printer.push_parts.Goals as goal

pub loop-part-preserved : goal.loop-part-preserved
loop-part-preserved c =
    let es = c.args.parts.now in
    let k = c.loop-part.part-index in
    let e = c.part-item.result in
    let within : k < length es = omega (arith, c.loop-part-test.true) in
    let here : slice_get es k ≡ Some e = slice_get_read es (length es) k e refl within c.part-item.is in
    record {
      text = rw add-one (grows ended_text e (drop k es) (drop (suc k) es) (string_bytes c.loop-part.out) (string_bytes c.push_ended.new.out) (string_bytes c.args.out.now ++ flat_map ended_text es)
          (at_place es k e here) c.in_ok-push_ended.ensures.text c.loop-part.invariant.text);
      kept = rw add-one (ended_more es k e here c.loop-part.invariant.kept c.in_ok-push_ended.ensures.kept.0 c.in_ok-push_ended.ensures.kept.1);
    }
