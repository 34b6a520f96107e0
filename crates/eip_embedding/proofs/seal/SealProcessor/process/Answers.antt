use Rattle.eip_embedding.proofs.Limits.{answer-within, answer-named}
use Rattle.eip_embedding.proofs.seal.SealProcessor.process.Goals as goal

pub returns-in-Ok-Ok-clause-limits : goal.returns-in-Ok-Ok-clause-limits
returns-in-Ok-Ok-clause-limits c = answer-within c.args.self.now c.args.message.now c.in-Ok-Ok.answer c.in-Ok-Ok.field-0 c.in-Ok-Ok.field-0-is c.in-Ok-Ok.ensures

pub returns-in-Ok-Err-clause-named : goal.returns-in-Ok-Err-clause-named
returns-in-Ok-Err-clause-named c = answer-named c.args.self.now c.args.message.now c.in-Ok-Err.fault c.in-Ok-Err.field-0 c.in-Ok-Err.field-0-is c.in-Ok-Err.ensures
