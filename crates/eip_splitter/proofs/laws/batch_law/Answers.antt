use Rattle.eip_splitter.proofs.Batching.{batch_is}
use Rattle.eip_splitter.proofs.laws.batch_law.Goals as goal

pub returns : goal.returns
returns c = λ k arrivals m held few packed. batch_is k arrivals m held few packed
