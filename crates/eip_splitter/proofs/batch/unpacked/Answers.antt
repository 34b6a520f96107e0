use Rattle.std.proofs.Common.{refl}
use Rattle.eip_splitter.proofs.Behind.{unpacked_none}
use Rattle.eip_splitter.proofs.batch.unpacked.Goals as goal

pub returns-in-Err-NotPacked-clause-fault : goal.returns-in-Err-NotPacked-clause-fault
returns-in-Err-NotPacked-clause-fault c =
    let w = rw c.in-Err-NotPacked.field-0-is at c.in-Err-NotPacked.ensures in
    unpacked_none c.args.body.now (w.not_packed refl)
