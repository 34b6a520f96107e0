-- Faults as they are handed on.
use Rattle.std.proofs.Common.{◌≡◌, Result, Err}
use Rattle.eip_router.specs.declared.fault.RecipientFault.{RecipientFault}
use Rattle.eip_router.specs.declared.fault.RecipientFault.TheVariants as fault
use Rattle.eip_router.specs.Faults.{IsFault}

-- a fault that the rule has
pub fault_is : {A : Type 0} (e : RecipientFault) (r : Result A RecipientFault) → r ≡ Err e → IsFault e r
fault_is fault.NoMemory r h = tt
fault_is (fault.TooManyParts n) r h = h
fault_is (fault.BadRecipient n) r h = h

-- a fault of one rule that is that of another too
pub fault_carried : {A B : Type 0} (e : RecipientFault) (r : Result A RecipientFault) (s : Result B RecipientFault) → ((f : RecipientFault) → r ≡ Err f → s ≡ Err f) → IsFault e r → IsFault e s
fault_carried fault.NoMemory r s h i = tt
fault_carried (fault.TooManyParts n) r s h i = h (fault.TooManyParts n) i
fault_carried (fault.BadRecipient n) r s h i = h (fault.BadRecipient n) i
