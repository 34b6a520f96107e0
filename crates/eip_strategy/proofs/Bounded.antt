-- A body that is answered within a limit, and the message with it.
use Rattle.std.proofs.Common.{◌≡◌, ℕ, Bool, true, false, List, length, Ok, Err, refl, ap, ◌∙◌, cond}
use Rattle.std.specs.Prelude.{nat_le, Result}
use Rattle.eip_exchange.specs.declared.message.Message.{Message}
use Rattle.eip_strategy.specs.declared.fault.StrategyFault.{StrategyFault}
use Rattle.eip_strategy.specs.declared.fault.StrategyFault.TheVariants.{TooLong}
use Rattle.eip_strategy.specs.Adding.{with_body}
use Rattle.eip_strategy.specs.Answers.{Answer, Says, bounded, fitting}

-- a message with the body that is answered
abbrev pub bodied : Message → Answer (List ℕ) → Answer Message
bodied m (Ok body) = Ok (record m { body = body })
bodied m (Err f) = Err f

pub bounded_by : (b : Bool) (m : Message) (body : List ℕ) → cond {A = Answer Message} b (Ok (record m { body = body })) (Err TooLong) ≡ bodied m (cond {A = Answer (List ℕ)} b (Ok body) (Err TooLong))
bounded_by true m body = refl
bounded_by false m body = refl

pub with_bounded : (m : Message) (r : Answer (List ℕ)) → with_body m r ≡ bodied m (bounded 65536 r)
with_bounded m (Ok body) = bounded_by (nat_le (length body) 65536) m body
with_bounded m (Err f) = refl

pub grown_as : (m : Message) (r a : Answer (List ℕ)) → bounded 65536 r ≡ a → with_body m r ≡ bodied m a
grown_as m r a h = with_bounded m r ∙ ap (bodied m) h

-- a body of so many bytes, where they are few enough
abbrev pub filled : List ℕ → Answer ℕ → Answer (List ℕ)
filled body (Ok n) = Ok body
filled body (Err f) = Err f

filled_by : (b : Bool) (n : ℕ) (body : List ℕ) → cond {A = Answer (List ℕ)} b (Ok body) (Err TooLong) ≡ filled body (cond {A = Answer ℕ} b (Ok n) (Err TooLong))
filled_by true n body = refl
filled_by false n body = refl

pub bounded_as : (limit : ℕ) (body : List ℕ) (n : ℕ) (r : Answer ℕ) → length body ≡ n → fitting limit n ≡ r → bounded limit (Ok body) ≡ filled body r
bounded_as limit body n r e h = filled_by (nat_le (length body) limit) (length body) body ∙ ap (λ (k : ℕ). filled body (fitting limit k)) e ∙ ap (filled body) h

-- what is said of a body is said of the message with that body
pub says_bodied : {X : Type 0} (m : Message) (r : Answer (List ℕ)) (res : Result X StrategyFault) (body : List ℕ) → Says (λ (_ : X). body) res (bounded 65536 r) → Says (λ (_ : X). record m { body = body }) res (with_body m r)
says_bodied m r (Ok x) body h = grown_as m r (Ok body) h
says_bodied m r (Err f) body h = λ apart. grown_as m r (Err f) (h apart)

within_by : (b : Bool) (text body : List ℕ) → cond {A = Answer (List ℕ)} b (Ok text) (Err TooLong) ≡ Ok body → text ≡ body
within_by true text body h = cc
within_by false text body h = absurd (cc)

-- a body that is within a limit is the one that was asked for
pub within : (limit : ℕ) (text body : List ℕ) → bounded limit (Ok text) ≡ Ok body → text ≡ body
within limit text body h = within_by (nat_le (length text) limit) text body h
