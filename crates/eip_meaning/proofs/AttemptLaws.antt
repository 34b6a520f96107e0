-- What a step with its attempts is, told by what its try gives.
use Rattle.std.proofs.Common.{◌≡◌, suc, Bool, true, false, List, refl, ◌∙◌}
use Rattle.eip_exchange.specs.declared.end.Fault.{Fault}
use Rattle.eip_exchange.specs.declared.birth.Care.TheVariants as care
use Rattle.eip_frames.specs.declared.answer.Answer.{Answer as Reply}
use Rattle.eip_meaning.specs.Outcomes.{Outcome, Asks, Goes, Stops, Faults, Stray, caught}
use Rattle.eip_meaning.specs.Values.{redelivered}
use Rattle.eip_meaning.specs.Attempts.{number_of_try, may_try_again}
use Rattle.eip_meaning.specs.Attempting.{is_fault, TriedOnce, TriedAgain, HandlersTryOnce}
use Rattle.eip_meaning.proofs.Unfolding.{tries_equation}

caught_same : (o : Outcome) (k : Fault → Bool → List Reply → Outcome) → is_fault o ≡ false → caught o k ≡ o
caught_same (Asks q p) k h = refl
caught_same (Goes m A) k h = refl
caught_same (Stops e m A) k h = refl
caught_same (Faults f again A) k h = cc
caught_same Stray k h = refl

pub tried_once : TriedOnce
tried_once set handle try c left m A h = tries_equation set handle try c left m A ∙ caught_same (try (redelivered m (number_of_try left)) A) _ h

pub tried_again : TriedAgain
tried_again set handle try c left m A A' f again h = tries_equation set handle try c (suc left) m A ∙ rw h refl

pub handlers_try_once : HandlersTryOnce
handlers_try_once set c n f again share = (refl, bare c.handling, refl)
  where
    bare : (h : Bool) → may_try_again set (record c { handling = h; care = care.Bare }) n f again ≡ false
    bare true = refl
    bare false = refl
