use Rattle.std.proofs.Common.{◌≡◌, ◌∙◌, ◌++◌, ◌∷◌, [], List, Ok, sym, ap, rules, arith, append_assoc}
use Rattle.std.proofs.lemmas.Result.{err_from_is_err_and}
use Rattle.eip_simple_read.specs.declared.tree.Part.{Part}
use Rattle.eip_simple_read.specs.declared.tree.Part.TheVariants as part
use Rattle.eip_simple_read.specs.Reading.{template, plain_part}
use Rattle.eip_simple_read.proofs.TemplateSteps.{with_front, with_front_twice, found_begins, goes_on, ends, all_plain}
use Rattle.eip_simple_read.proofs.templates.template.Goals as goal

pub loop-front-preserved : goal.loop-front-preserved
loop-front-preserved c =
    let found = c.in-Some.ensures.cases in
    let rest = c.loop-front.rest.now in
    let front = c.in-Some.front.now in
    let inner = c.in-Some.inner.now in
    let function = c.in_ok-function.function in
    let more = c.in_ok-function.more.now in
    let read = goes_on c.args.after rest front inner function more (found_begins rest front inner found) c.in_ok-function.ensures.reads in
    let pushed : c.push.new.self.items ≡ c.loop-front.parts.items ++ (plain_part front ++ part.Call function ∷ []) =
    c.in_ok-push.ensures.items ∙ ap (λ (ps : List Part). ps ++ part.Call function ∷ []) c.in_ok-push_plain.ensures ∙ append_assoc c.loop-front.parts.items (plain_part front) (part.Call function ∷ []) in
    record {
      is_text = search rules;
      shorter = omega (arith, found.7, c.in_ok-function.ensures.shorter);
      so_far = ap (λ (ps : List Part). with_front ps (template c.args.after 0 more)) pushed
          ∙ sym (with_front_twice c.loop-front.parts.items (plain_part front ++ part.Call function ∷ []) (template c.args.after 0 more))
          ∙ ap (with_front c.loop-front.parts.items) (sym read) ∙ c.loop-front.invariant.so_far;
    }

pub returns-in_err-function : goal.returns-in_err-function
returns-in_err-function c =
    let p = err_from_is_err_and c.from_residual-in_err-function.result c.from_residual-in_err-function.ensures.1 in
    let rest = c.loop-front.rest.now in
    rw (p.1, p.2) (ends c.in_err-function.field-0.0 c.args.after rest c.in-Some.front.now c.in-Some.inner.now c.loop-front.parts.items (template c.args.after 0 c.args.text.now)
    (found_begins rest c.in-Some.front.now c.in-Some.inner.now c.in-Some.ensures.cases) c.in_err-function.ensures.reads c.loop-front.invariant.so_far)

pub returns : goal.returns
returns c =
    let rest = c.loop-front.rest.now in
    sym c.loop-front.invariant.so_far ∙ ap (with_front c.loop-front.parts.items) (all_plain c.args.after rest c.in_default.ensures.cases)
    ∙ ap (λ (ps : List Part). Ok ps) (sym c.in_ok-push_plain-2.ensures)
