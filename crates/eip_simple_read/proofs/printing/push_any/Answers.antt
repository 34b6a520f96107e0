use Rattle.std.proofs.Common.{◌∙◌, ◌++◌, List, ap}
use Rattle.std.specs.Prelude.{string_bytes}
use Rattle.eip_simple_read.specs.declared.tree.Test.{Test}
use Rattle.eip_simple_read.specs.Spelling.{all_text}
use Rattle.eip_simple_read.proofs.Spelled.{wrote_any}
use Rattle.eip_simple_read.proofs.printing.push_any.Goals as goal

pub returns : goal.returns
returns c =
    let pushed = c.in_ok-push_all.ensures ∙ ap (λ (ts : List Test). string_bytes c.args.out.now ++ all_text ts) c.items.ensures in
    wrote_any c.args.any.now c.in-Some.others.now c.in-Some.first.now c.loop-all.all-index (string_bytes c.loop-all.out) (string_bytes c.push_all.new.out) (string_bytes c.args.out.now)
    c.in-Some.ensures.cases.0 c.loop-all-test.false pushed c.loop-all.invariant
