use Rattle.std.proofs.Common.{◌∙◌}
use Rattle.eip_endpoint.proofs.ByteOrder.{ok-then, names_in-there}
use Rattle.eip_endpoint.proofs.memory_files.listing.Goals as goal

pub returns-clause-names : goal.returns-clause-names
returns-clause-names c = ok-then c.in_byte_order.result c.in_byte_order.ensures.same
    (λ texts same name. same name ∙ rw c.in_ok-names.ensures (names_in-there c.args.folder.now name c.args.files.now))
