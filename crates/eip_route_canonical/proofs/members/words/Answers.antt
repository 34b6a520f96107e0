use Rattle.std.proofs.Common.{arith, refl, ap, ◌∙◌}
use Rattle.std.proofs.lemmas.Grind.{common_steps}
use Rattle.eip_text.specs.Json.{word}
use Rattle.eip_route_canonical.proofs.Loops.{pushed, all_pushed}
use Rattle.eip_route_canonical.proofs.Objects.{list_tree}
use Rattle.eip_route_canonical.specs.Canonical.{list_of, words}
use Rattle.eip_route_canonical.specs.Trees.{values_of}
use Rattle.eip_route_canonical.proofs.members.words.Goals as goal

pub loop-text-preserved : goal.loop-text-preserved
loop-text-preserved c =
    pushed words word c.args.texts.now c.loop-text.text-index _ _ _ c.text-item.result _
    (λ y ys. refl) c.loop-text.invariant (grind (arith, common_steps)) c.in_ok-push.ensures.items c.in_ok-tree.ensures

pub returns : goal.returns
returns c =
    list_tree c.of.result ∙ ap (λ ts. list_of (values_of ts)) c.of.ensures
    ∙ ap list_of (all_pushed words c.args.texts.now c.loop-text.text-index c.loop-text.items.items _ refl c.loop-text.invariant c.loop-text-test.false)
