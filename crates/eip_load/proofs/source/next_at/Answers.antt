use Rattle.std.proofs.Common.{refl}
use Rattle.eip_uri.specs.Printed.{printed}
use Rattle.eip_load.proofs.SourceLaws.{given-at, given-set, given-other}
use Rattle.eip_load.proofs.source.next_at.Goals as goal

pub returns-clause-gave : goal.returns-clause-gave
returns-clause-gave c =
    rw (given-at (printed c.args.from.now) c.args.place c.args.generators.now c.index-generators-place.result c.requires.first, given-set (printed c.args.from.now) _ c.args.place c.args.generators.now c.index-generators-place.result c.next.new.self c.requires.first refl) c.next.ensures.gave

pub returns-clause-others : goal.returns-clause-others
returns-clause-others c = λ v other.
    given-other (printed c.args.from.now) v _ c.args.place c.args.generators.now c.index-generators-place.result c.next.new.self c.requires.first refl other
