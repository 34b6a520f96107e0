use Rattle.std.proofs.Common.{◌≡◌, ◌∙◌, ap}
use Rattle.eip_uri.specs.Printed.{printed}
use Rattle.eip_load.specs.Sources.{items_at}
use Rattle.eip_load.proofs.SourceLaws.{items-load}
use Rattle.eip_load.proofs.source.LoadSource.next.Goals as goal

pub returns-in_err-uri-clause-items : goal.returns-in_err-uri-clause-items
returns-in_err-uri-clause-items c = ap (λ u. items_at (printed u)) c.requires ∙ items-load c.args.count c.ranges.count.fits

pub returns-in_err-place-clause-items : goal.returns-in_err-place-clause-items
returns-in_err-place-clause-items c = ap (λ u. items_at (printed u)) c.requires ∙ items-load c.args.count c.ranges.count.fits

pub returns-clause-items : goal.returns-clause-items
returns-clause-items c = ap (λ u. items_at (printed u)) c.requires ∙ items-load c.args.count c.ranges.count.fits
