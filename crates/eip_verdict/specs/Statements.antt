-- What is always true of verdicts and of the answers that may come.
use Rattle.std.specs.Prelude.{ℕ, ◌≡◌, ◌↔◌, false, Some, length}
use Rattle.eip_frames.specs.declared.answer.Answer.{Answer as Reply}
use Rattle.eip_frames.specs.Fits.{is_outside}
use Rattle.eip_history.specs.Plan.{Plan}
use Rattle.eip_history.specs.Own.{Past}
use Rattle.eip_history.specs.Births.{Asked, asked}
use Rattle.eip_history.specs.Rules.{MayAnswer, IsLegal}
use Rattle.eip_verdict.specs.declared.verdict.Verdict.{Verdict}
use Rattle.eip_verdict.specs.declared.verdict.Verdict.TheVariants.{Legal}
use Rattle.eip_verdict.specs.Verdicts.{Says}

-- a request that is none of the outside has at most one answer that may come behind a past, whoever gives it
abbrev pub OneAnswer : Type 0
OneAnswer = (s : Plan) (limit v w : ℕ) (past : Past) (x : ℕ) (k : Asked) (a b : Reply) → asked s past x ≡ Some k → is_outside k.request ≡ false
    → MayAnswer s limit past v x a → MayAnswer s limit past w x b → a ≡ b

-- of one journal an audit can say but one thing
abbrev pub OneVerdict : Type 0
OneVerdict = (s : Plan) (workers limit : ℕ) (past : Past) (u v : Verdict) → Says s workers limit past u → Says s workers limit past v → u ≡ v

-- the verdict is Legal, with the number of entries, exactly where the journal is legal
abbrev pub LegalExactly : Type 0
LegalExactly = (s : Plan) (workers limit : ℕ) (past : Past) (v : Verdict) → Says s workers limit past v → (v ≡ Legal (length past) ↔ IsLegal s workers limit past)
