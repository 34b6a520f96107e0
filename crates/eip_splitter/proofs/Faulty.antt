-- Faults as they are handed on.
use Rattle.std.proofs.Common.{◌≡◌, ℕ, Bool, true, false, cond, List, length, nat_le, Some, Result, Ok, Err, refl, ap}
use Rattle.eip_splitter.specs.declared.fault.SplitFault.{SplitFault}
use Rattle.eip_splitter.specs.declared.fault.SplitFault.TheVariants as fault
use Rattle.eip_splitter.specs.Faults.{IsFault}
use Rattle.eip_splitter.specs.Parts.{within_limit, count_within_limit, parts_of}
use Rattle.eip_exchange.specs.declared.message.Message.{Message}

-- a fault that the rule has
pub fault_is : {A : Type 0} (e : SplitFault) (r : Result A SplitFault) → r ≡ Err e → IsFault e r
fault_is fault.NoMemory r h = tt
fault_is (fault.TooManyParts n) r h = h
fault_is fault.NotArray r h = h

-- a fault of one rule that is that of another too
pub fault_carried : {A B : Type 0} (e : SplitFault) (r : Result A SplitFault) (s : Result B SplitFault) → ((f : SplitFault) → r ≡ Err f → s ≡ Err f) → IsFault e r → IsFault e s
fault_carried fault.NoMemory r s h i = tt
fault_carried (fault.TooManyParts n) r s h i = h (fault.TooManyParts n) i
fault_carried fault.NotArray r s h i = h fault.NotArray i

pub of_parts : (m : Message) (r : Result (List (List ℕ)) SplitFault) (f : SplitFault) → r ≡ Err f → parts_of m r ≡ Err f
of_parts m r f e = ap (parts_of m) e

-- ---- the limit

limit_by : {A B : Type 0} (t : Bool) (a : A) (b : B) (x e : SplitFault) → cond t (Ok a) (Err x) ≡ Err e → cond t (Ok b) (Err x) ≡ Err e
limit_by true a b x e h = absurd (cc)
limit_by false a b x e h = cc

pub too_many : {A : Type 0} (ps : List A) (e : SplitFault) → count_within_limit (length ps) ≡ Err e → within_limit (Some ps) ≡ Err e
too_many ps e h = limit_by (nat_le (length ps) 10000) tt ps (fault.TooManyParts (length ps)) e h

few_by : {A B : Type 0} (t : Bool) (a u : A) (b : B) (x : SplitFault) → cond t (Ok a) (Err x) ≡ Ok u → cond {A = Result B SplitFault} t (Ok b) (Err x) ≡ Ok b
few_by true a u b x h = refl
few_by false a u b x h = absurd (cc)

pub few : {A : Type 0} (ps : List A) (u : Unit {0}) → count_within_limit (length ps) ≡ Ok u → within_limit (Some ps) ≡ Ok ps
few ps u h = few_by (nat_le (length ps) 10000) tt u ps (fault.TooManyParts (length ps)) h
