use Rattle.std.proofs.Common.{rules}
use Rattle.eip_uri.specs.Reading.{read, Says}
use Rattle.eip_uri.proofs.Ranged.{said_ranged, said_again}
use Rattle.eip_uri.proofs.uri.Uri.read.Goals as goal

pub returns-clause-ranged : goal.returns-clause-ranged
unfolding read
returns-clause-ranged c =
    let says : Says c.with_options.result (read c.args.text.now c.args.parameters.now) = search rules in
    said_ranged c.with_options.result c.args.text.now c.args.parameters.now says

pub returns-clause-again : goal.returns-clause-again
unfolding read
returns-clause-again c =
    let says : Says c.with_options.result (read c.args.text.now c.args.parameters.now) = search rules in
    said_again c.with_options.result c.args.text.now c.args.parameters.now says
