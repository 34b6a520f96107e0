use Rattle.std.proofs.Common.{◌≡◌, ◌+◌, ap, ap₂, ◌∙◌, rules, vec_len, List, ℕ}
use Rattle.std.specs.Prelude.{slice_get}
use Rattle.eip_strategy.proofs.Pairs.{taken_more, taken_all}
use Rattle.eip_strategy.proofs.batch.headers_of.Goals as goal

pub loop-name-preserved : goal.loop-name-preserved
loop-name-preserved c =
    let all = c.args.headers.now in
    let longer : vec_len c.push.new.self ≡ vec_len c.loop-name.pairs + 1 = search rules in
    taken_more c.loop-name.pairs.items c.push.new.self.items all (vec_len c.loop-name.pairs) (vec_len c.push.new.self) _ (c.in-Some.name.now, c.in-Some.value.now)
    c.loop-name.invariant (c.in-Some.ensures ∙ ap (slice_get all) c.len.ensures) c.in_ok-push.ensures.items
    (ap₂ (λ (a b : List ℕ). (a, b)) c.in_ok-copy.ensures c.in_ok-copy-2.ensures) longer

pub returns : goal.returns
returns c = taken_all c.loop-name.pairs.items c.args.headers.now (vec_len c.loop-name.pairs) c.loop-name.invariant (c.in_default.ensures ∙ ap (slice_get c.args.headers.now) c.len.ensures)
