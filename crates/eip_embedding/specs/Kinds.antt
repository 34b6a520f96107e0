-- What the program's kinds of lanes and processors are to contracts: each is as what it holds.
use Rattle.std.specs.Prelude.{ℕ, Result}
use Rattle.eip_exchange.specs.declared.message.Message.{Message}
use Rattle.eip_processor.specs.declared.processor.ProcessFault.{ProcessFault}
use Rattle.eip_samples.specs.Samples.{Answers}
use Rattle.eip_embedding.specs.declared.kinds.OwnLane.{OwnLane}
use Rattle.eip_embedding.specs.declared.kinds.OwnLane.TheVariants as lane
use Rattle.eip_embedding.specs.declared.kinds.OwnProcessor.{OwnProcessor}
use Rattle.eip_embedding.specs.declared.kinds.OwnProcessor.TheVariants as processor
use Rattle.eip_embedding.specs.Seals.{Seals}

-- the count of faults of a lane
abbrev pub lane_faults_of : {F : Type 0} → (F → ℕ) → OwnLane F → ℕ
lane_faults_of files (lane.Files l) = files l.files
lane_faults_of files (lane.Till t) = t.faults

-- what a processor may answer to a message
abbrev pub AnswersAs : OwnProcessor → Message → Result Message ProcessFault → Type 0
AnswersAs (processor.Sample s) m r = Answers s m r
AnswersAs (processor.Seal rounds) m r = Seals rounds m r
