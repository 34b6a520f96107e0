use Rattle.std.proofs.Common.{refl, get_or}
use Rattle.eip_keyed.proofs.KeyedLaws.{found-other}
use Rattle.eip_file.proofs.ListingLaws.{pulled-at}
use Rattle.eip_file.proofs.source.next_at.Goals as goal

pub returns-in-Ok-clause-pulled : goal.returns-in-Ok-clause-pulled
returns-in-Ok-clause-pulled g c = λ uri stands.
    pulled-at uri c.args.folder.now (g.F.Files.files c.args.files.now) c.args.place c.args.listings.now c.index-listings-place.result c.left.result.now c.pass.new.self c.in-Ok.count c.in-Ok.pulled
    c.index-listings-place.is stands (cc) (cc) c.in-Ok.ensures.takes

pub returns-in-Ok-clause-others : goal.returns-in-Ok-clause-others
returns-in-Ok-clause-others g c = λ uri v stands other.
    found-other uri v ((get_or c.args.listings.now c.args.place c.index-listings-place.result).0) c.args.place c.args.listings.now c.index-listings-place.result c.pass.new.self stands refl other
