-- The laws of a plan can be met.
use Rattle.std.proofs.Common.{◌≡◌, ℕ, Bool, List, [], ◌∷◌, Some, refl, arith}
use Rattle.eip_exchange.specs.declared.message.Message.{Message}
use Rattle.eip_exchange.specs.declared.birth.Birth.{Birth}
use Rattle.eip_frames.specs.declared.request.At.{At}
use Rattle.eip_frames.specs.declared.answer.Answer.{Answer as Reply}
use Rattle.eip_frames.specs.declared.answer.Answer.TheVariants.{Born}
use Rattle.eip_frames.specs.declared.request.Request.TheVariants.{Offer, Join}
use Rattle.eip_frames.specs.Fate.{AsksNext}
use Rattle.eip_history.specs.Laws.{PlanLaws, IsQueue, last_of}
use Rattle.eip_history.specs.Example.{tiny}

offers : (b : Birth) (given : List Reply) (q : ℕ) (discard : Bool) (m : Message) (p : At) → tiny.mean b given ≡ AsksNext (Offer q discard m) p → IsQueue tiny q
offers b [] q discard m p h = absurd (cc h)
offers b (a ∷ []) q discard m p h = absurd (cc h)
offers b (a ∷ (c ∷ given)) q discard m p h = absurd (cc h)

joins : (b : Birth) (given : List Reply) (first count : ℕ) (p : At) → tiny.mean b given ≡ AsksNext (Join first count) p
    → last_of given ≡ Some (Born first count)
joins b [] first count p h = absurd (cc h)
joins b (a ∷ []) first count p h = absurd (cc h)
joins b (a ∷ (c ∷ given)) first count p h = absurd (cc h)

pub tiny_laws : PlanLaws tiny
tiny_laws = record { starts = λ b. refl; offers = offers; joins = joins; consumers = λ q. omega arith }
