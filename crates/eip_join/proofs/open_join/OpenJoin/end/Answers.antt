use Rattle.std.proofs.Common.{◌≡◌, ◌+◌, ◌≤◌, length, set, slice_get, Some, vec_capacity, ap, ◌∙◌, arith, length-set}
use Rattle.eip_join.specs.Parts.{Open, left_of}
use Rattle.eip_join.proofs.Ends.{one_less}
use Rattle.eip_join.proofs.open_join.OpenJoin.end.Goals as goal

pub overflow_sub-self : goal.overflow_sub-self
overflow_sub-self c =
    let items = c.self.inside.ends.items in
    let less : left_of (set items c.args.index (Some c.args.ended)) + 1 ≡ left_of items = one_less items c.args.index c.args.ended (ap (λ (j : Open). slice_get j.ends c.args.index) c.self.view_is ∙ c.requires) in
    let left : c.self.inside.left ≡ left_of items = c.self.invariant.0 in
    omega arith

pub invariant_of-self : goal.invariant_of-self
invariant_of-self c =
    let items = c.self.inside.ends.items in
    let less : left_of (set items c.args.index (Some c.args.ended)) + 1 ≡ left_of items = one_less items c.args.index c.args.ended (ap (λ (j : Open). slice_get j.ends c.args.index) c.self.view_is ∙ c.requires) in
    let left : c.self.inside.left ≡ left_of items = c.self.invariant.0 in
    let room : length items ≤ vec_capacity c.self.inside.room = c.self.invariant.2 in
    let same : length (set items c.args.index (Some c.args.ended)) ≡ length items = length-set items c.args.index (Some c.args.ended) in
    rw c.replace.ensures.after (omega arith, c.self.invariant.1, omega arith)
