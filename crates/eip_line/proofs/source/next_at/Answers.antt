use Rattle.std.proofs.Common.{refl}
use Rattle.eip_uri.specs.Printed.{printed}
use Rattle.eip_line.proofs.SourceLaws.{reader-at, reader-set, reader-other}
use Rattle.eip_line.proofs.source.next_at.Goals as goal

pub returns-clause-ready : goal.returns-clause-ready
returns-clause-ready g c =
    rw (reader-at (printed c.args.from.now) c.args.place c.args.readers.now c.index-readers-place.result c.requires.first) c.next.ensures.ready

pub returns-clause-endless : goal.returns-clause-endless
returns-clause-endless g c =
    rw (reader-set (printed c.args.from.now) _ c.args.place c.args.readers.now c.index-readers-place.result c.next.new.self c.requires.first refl) c.next.ensures.endless

pub returns-clause-took : goal.returns-clause-took
returns-clause-took g c =
    rw (reader-at (printed c.args.from.now) c.args.place c.args.readers.now c.index-readers-place.result c.requires.first, reader-set (printed c.args.from.now) _ c.args.place c.args.readers.now c.index-readers-place.result c.next.new.self c.requires.first refl) c.next.ensures.took

pub returns-clause-others : goal.returns-clause-others
returns-clause-others g c = λ v other.
    reader-other (printed c.args.from.now) v _ c.args.place c.args.readers.now c.index-readers-place.result c.next.new.self c.requires.first refl other
