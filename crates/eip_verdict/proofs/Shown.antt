-- The verdicts of the small journals.
use Rattle.std.proofs.Common.{◌++◌, [], ◌∷◌, refl, arith}
use Rattle.eip_frames.specs.declared.answer.Answer.TheVariants as reply
use Rattle.eip_ledger.specs.declared.entry.Kind.TheVariants as kind
use Rattle.eip_history.specs.Own.{own, source_state, turns}
use Rattle.eip_history.specs.Births.{story, fate}
use Rattle.eip_history.specs.Place.{takes_out, pulls_out}
use Rattle.eip_history.specs.Rules.{KeepsRules}
use Rattle.eip_history.specs.Example.{small, early, middle, past_of, by_zero}
use Rattle.eip_history.proofs.HistoriesLegal.{middle_legal}
use Rattle.eip_history.proofs.Steps.{legal-none}
use Rattle.eip_history.proofs.WrongEntries.{no_tick_too_far, no_second_pull}
use Rattle.eip_verdict.specs.declared.verdict.Verdict.TheVariants.{Wrong}
use Rattle.eip_verdict.specs.Verdicts.{Says}
use Rattle.eip_verdict.specs.Example.{too_far, pulled_twice}
use Rattle.eip_verdict.proofs.Keeping.{keep-more}

pub far_is_wrong : Says small 0 100 too_far (Wrong 14 9)
far_is_wrong = record {
  later = by_zero (kind.Answer 1 reply.Fresh) ∷ [];
  wrong = by_zero (kind.Tick 8);
  before = past_of (early ++ middle);
  split = refl;
  number = refl;
  rule_is = refl;
  kept = middle_legal;
  breaks = λ k. no_tick_too_far k.1;
}

first_kept : KeepsRules small 0 100 (past_of (kind.Pull 0 ∷ []))
unfolding source_state turns pulls_out takes_out own story fate
first_kept = keep-more small 0 100 (by_zero (kind.Pull 0)) [] (legal-none small 0 100) (omega arith, ((omega arith, refl), refl, omega arith))

pub twice_is_wrong : Says small 0 100 pulled_twice (Wrong 2 1)
twice_is_wrong = record {
  later = by_zero (kind.SourceEnd 0) ∷ [];
  wrong = by_zero (kind.Pull 0);
  before = past_of (kind.Pull 0 ∷ []);
  split = refl;
  number = refl;
  rule_is = refl;
  kept = first_kept;
  breaks = λ k. no_second_pull k.1;
}
