use Rattle.std.proofs.Common.{refl, ◌∙◌}
use Rattle.eip_file.proofs.ItemLaws.{takes-read, missing-read, missing-next}
use Rattle.eip_file.proofs.item.find_next.Goals as goal

pub returns-in-Ok-Some-clause-takes : goal.returns-in-Ok-Some-clause-takes
returns-in-Ok-Some-clause-takes g c =
    takes-read c.args.folder.now (g.F.Files.files c.args.files.now) (g.F.Files.files c.loop-place.files) c.args.names.now c.loop-place.place c.index-names-place.result c.in-Ok-Some.field-0 c.in-Ok-Some.pulled
    c.loop-place.invariant.same c.index-names-place.is c.loop-place-test.true c.loop-place.invariant.missing c.in-Ok-Some.ensures.read c.in-Ok-Some.field-0-is

pub loop-place-preserved : goal.loop-place-preserved
loop-place-preserved g c = record {
  missing = missing-next c.args.folder.now (g.F.Files.files c.args.files.now) c.args.names.now c.loop-place.place c.index-names-place.result c.index-names-place.is c.loop-place-test.true c.loop-place.invariant.missing
      (missing-read c.args.folder.now (g.F.Files.files c.args.files.now) (g.F.Files.files c.loop-place.files) c.index-names-place.result c.in-Ok-None.field-0 c.loop-place.invariant.same c.in-Ok-None.ensures.read c.in-Ok-None.field-0-is);
  same = c.in-Ok-None.ensures.same ∙ c.loop-place.invariant.same;
  faults = c.in-Ok-None.ensures.faults.none refl ∙ c.loop-place.invariant.faults;
}
