use Rattle.std.proofs.Common.{Ok, Err, sym, subst}
use Rattle.std.specs.Option.{option_map}
use Rattle.std.specs.Prelude.{string_bytes}
use Rattle.std.proofs.lemmas.Result.{err_from_is_err_and}
use Rattle.eip_exchange.specs.declared.message.Message.{Message}
use Rattle.eip_resequence.specs.Packing.{IsPacked}
use Rattle.eip_strategy.specs.Growing.{grown}
use Rattle.eip_strategy.proofs.Packed.{packed_as, batch_packed}
use Rattle.eip_strategy.proofs.batch.packed_in.Goals as goal

pub push_message-requires : goal.push_message-requires
push_message-requires c = subst (λ (m : Message). IsPacked m.body) (sym c.in_ok-batch.ensures) (batch_packed (option_map grown c.args.so_far) c.requires)

pub returns-in_err-push_message : goal.returns-in_err-push_message
returns-in_err-push_message c =
    let p = err_from_is_err_and c.from_residual-in_err-push_message.result c.from_residual-in_err-push_message.ensures.1 in
    rw (p.1, p.2) (λ h. packed_as (option_map grown c.args.so_far) (grown c.in_ok-batch.batch) c.args.new.now (Err c.in_err-push_message.field-0.0) c.in_ok-batch.ensures (c.in_err-push_message.ensures.says h))

pub returns : goal.returns
returns c = packed_as (option_map grown c.args.so_far) (grown c.in_ok-batch.batch) c.args.new.now (Ok (string_bytes c.push_message.new.batch)) c.in_ok-batch.ensures c.in_ok-push_message.ensures.says
