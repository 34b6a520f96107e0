use Rattle.std.proofs.Common.{◌≡◌, false, is_some}
use Rattle.eip_keyed.specs.Keyed.{found}
use Rattle.eip_processor.proofs.Adding.{tested, added-found}
use Rattle.eip_processor.proofs.registry.Registry.add_processor.Goals.{in-Ok, in-Err}
use Rattle.eip_processor.proofs.registry.Registry.add_processor.Goals as goal

pub returns-clause-found : goal.returns-clause-found
returns-clause-found g c =
    let free : is_some (found c.args.name c.args.self.now.processors.items) ≡ false =
    tested c.args.name c.as_slice.result.now c.args.self.now.processors.items c.has.result false c.as_slice.ensures.value c.has.ensures c.if-has.false in
    elim c.match-push.branch [
      | in-Ok w ↦ rw w.result-is (added-found c.args.name c.args.self.now.processors.items c.push.new.self.items c.args.object free w.in-Ok.ensures.items)
      | in-Err w ↦ rw w.result-is tt
    ]
