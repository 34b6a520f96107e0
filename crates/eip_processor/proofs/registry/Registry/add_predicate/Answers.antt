use Rattle.std.proofs.Common.{◌≡◌, true, false, is_some, refl}
use Rattle.eip_keyed.specs.Keyed.{found}
use Rattle.eip_processor.proofs.Adding.{tested, added-found, still-free}
use Rattle.eip_processor.proofs.registry.Registry.add_predicate.Goals.{in-Ok, in-Err}
use Rattle.eip_processor.proofs.registry.Registry.add_predicate.Goals as goal

pub returns-then-has-clause-taken : goal.returns-then-has-clause-taken
returns-then-has-clause-taken g c =
    (λ h. tested c.args.name c.as_slice.result.now c.args.self.now.predicates.items c.has.result true c.as_slice.ensures.value c.has.ensures c.if-has.true, λ h. refl)

pub returns-clause-found : goal.returns-clause-found
returns-clause-found g c =
    let free : is_some (found c.args.name c.args.self.now.predicates.items) ≡ false =
    tested c.args.name c.as_slice.result.now c.args.self.now.predicates.items c.has.result false c.as_slice.ensures.value c.has.ensures c.if-has.false in
    elim c.match-push.branch [
      | in-Ok w ↦ rw w.result-is (added-found c.args.name c.args.self.now.predicates.items c.push.new.self.items c.args.object free w.in-Ok.ensures.items)
      | in-Err w ↦ rw w.result-is tt
    ]

pub returns-clause-taken : goal.returns-clause-taken
returns-clause-taken g c =
    let free : is_some (found c.args.name c.args.self.now.predicates.items) ≡ false =
    tested c.args.name c.as_slice.result.now c.args.self.now.predicates.items c.has.result false c.as_slice.ensures.value c.has.ensures c.if-has.false in
    elim c.match-push.branch [
      | in-Ok w ↦ still-free c.match-push.result (is_some (found c.args.name c.args.self.now.predicates.items)) free (λ h. let is = w.result-is in cc)
      | in-Err w ↦ still-free c.match-push.result (is_some (found c.args.name c.args.self.now.predicates.items)) free (λ h. let is = w.result-is in cc)
    ]
