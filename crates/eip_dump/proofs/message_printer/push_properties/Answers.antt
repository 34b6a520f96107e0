use Rattle.std.proofs.Common.{◌≡◌, suc, ◌++◌, drop, Some, string_bytes, sym, add-one, arith}
use Rattle.std.specs.List.{flat_map, slice_get}
use Rattle.eip_dump.specs.Lines.{pair_text}
use Rattle.eip_dump.proofs.Growing.{at_place, grows, all_grown}
use Rattle.eip_dump.proofs.Keeping.{texts_more, texts_all}
use Rattle.eip_dump.proofs.message_printer.push_properties.Goals as goal

pub loop-place-preserved : goal.loop-place-preserved
loop-place-preserved c =
    let hs = c.args.properties.now in
    let k = c.loop-place.place in
    let here : slice_get hs k ≡ Some (c.in-Some.name.now, c.in-Some.value.now) = sym c.in-Some.ensures in
    record {
      text = rw add-one (grows pair_text (c.in-Some.name.now, c.in-Some.value.now) (drop k hs) (drop (suc k) hs) (string_bytes c.loop-place.out) (string_bytes c.push_pair.new.out) (string_bytes c.args.out.now ++ flat_map pair_text hs)
          (at_place hs k _ here) c.in_ok-push_pair.ensures.text c.loop-place.invariant.text);
      kept = rw add-one (texts_more hs k (c.in-Some.name.now, c.in-Some.value.now) here c.loop-place.invariant.kept c.in_ok-push_pair.ensures.kept.0 c.in_ok-push_pair.ensures.kept.1);
    }

pub returns-clause-text : goal.returns-clause-text
returns-clause-text c = all_grown pair_text c.args.properties.now c.loop-place.place (string_bytes c.loop-place.out) _ (omega arith) c.loop-place.invariant.text

pub returns-clause-kept : goal.returns-clause-kept
returns-clause-kept c = texts_all c.args.properties.now c.loop-place.place (omega arith) c.loop-place.invariant.kept
