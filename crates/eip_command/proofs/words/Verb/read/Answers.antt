use Rattle.std.proofs.Common.{refl, sym, ap, ◌∙◌, arith}
use Rattle.std.specs.Str.{bytes_eq}
use Rattle.eip_command.specs.Forms.{CommandForm}
use Rattle.eip_command.specs.Words.{verbs}
use Rattle.eip_command.proofs.Verbs.{among-next}
use Rattle.eip_command.proofs.words.Verb.read.Goals as goal

pub loop-verb-preserved : goal.loop-verb-preserved
loop-verb-preserved c = (
  c.loop-verb.invariant.0
      ∙ among-next verbs c.loop-verb.verb-index _ _ c.args.word.now (omega (arith, c.loop-verb-test.true)) refl
      (ap (λ (f : CommandForm). bytes_eq f.word c.args.word.now) (sym c.form.ensures) ∙ sym c.eq.ensures ∙ c.if-eq.false),
  refl,
)
