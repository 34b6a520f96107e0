-- A refusal that is no want of memory is the one that the rule has.
use Rattle.std.proofs.Common.{◌≡◌, ◌≢◌, refl}
use Rattle.std.specs.Prelude.{Result, Err}
use Rattle.eip_splitter.specs.declared.fault.SplitFault.{SplitFault}
use Rattle.eip_splitter.specs.declared.fault.SplitFault.TheVariants as split_fault
use Rattle.eip_splitter.specs.Faults.{IsFault as IsSplitFault}
use Rattle.eip_router.specs.declared.fault.RecipientFault.{RecipientFault}
use Rattle.eip_router.specs.declared.fault.RecipientFault.TheVariants as recipient_fault
use Rattle.eip_router.specs.Faults.{IsFault as IsRecipientFault}

pub split_refused : {A : Type 0} (e : SplitFault) (ruled : Result A SplitFault) → e ≢ split_fault.NoMemory → IsSplitFault e ruled → ruled ≡ Err e
split_refused (split_fault.TooManyParts n) ruled h i = i
split_refused split_fault.NotArray ruled h i = i
split_refused split_fault.NoMemory ruled h i = absurd (h refl)

pub recipients_refused : {A : Type 0} (e : RecipientFault) (ruled : Result A RecipientFault) → e ≢ recipient_fault.NoMemory → IsRecipientFault e ruled → ruled ≡ Err e
recipients_refused (recipient_fault.TooManyParts n) ruled h i = i
recipients_refused (recipient_fault.BadRecipient k) ruled h i = i
recipients_refused recipient_fault.NoMemory ruled h i = absurd (h refl)
