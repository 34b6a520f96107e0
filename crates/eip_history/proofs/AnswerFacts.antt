-- What an allowed answer says of the request that the exchange asks.
use Rattle.std.proofs.Common.{◌≡◌, ℕ, true, Some, sym, subst, ◌∙◌}
use Rattle.eip_frames.specs.Fits.{fits, is_outside}
use Rattle.eip_frames.specs.declared.answer.Answer.{Answer as Reply}
use Rattle.eip_history.specs.Plan.{Plan}
use Rattle.eip_history.specs.Own.{Past}
use Rattle.eip_history.specs.Births.{Asked, asked}
use Rattle.eip_history.specs.Rules.{MayAct, MayAnswer, Content}

-- the facts of an answer to the request k
pub record AnswersTo (s : Plan) (limit : ℕ) (past : Past) (w x : ℕ) (a : Reply) (k : Asked) : Type 0 where
  pub fitting : fits k.request a ≡ true
  pub act : MayAct s limit past w x (is_outside k.request)
  pub content : Content s past k k.request a

pub answers-to : (s : Plan) (limit : ℕ) (past : Past) (w x : ℕ) (a : Reply) (k : Asked) → MayAnswer s limit past w x a → asked s past x ≡ Some k
    → AnswersTo s limit past w x a k
answers-to s limit past w x a k may at =
    let both : Some may.asks ≡ Some k = sym may.asked_is ∙ at in
    let same : may.asks ≡ k = cc in
    subst (λ (q : Asked). AnswersTo s limit past w x a q) same (record { fitting = may.fitting; act = may.act; content = may.content })
