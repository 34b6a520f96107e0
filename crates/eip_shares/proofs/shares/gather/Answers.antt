use Rattle.std.proofs.Common.{◌≡◌, ℕ, ◌+◌, ◌-◌, ◌<◌, ◌%◌, [], ◌∷◌, ◌++◌, length, slice_index_or, sym, ap, ◌∙◌, arith, length-append}
use Rattle.std.specs.Prelude.{reverse}
use Rattle.eip_shares.specs.Shares.{share}
use Rattle.eip_shares.proofs.Dealt.{has_last, lost}
use Rattle.eip_shares.proofs.shares.gather.Goals as goal

pub loop-left-preserved : goal.loop-left-preserved
loop-left-preserved g c =
    let lists = c.loop-left.lists in
    let n = length c.args.lists.now in
    let long = c.loop-left.auto.lists in
    let some = c.requires.some in
    let e : ℕ = c.args.count - 1 - c.loop-left.left in
    let t : ℕ = e % length lists in
    let r = c.index-lists-turn.result in
    let w = slice_index_or lists t r in
    let within : t < length c.args.lists.now = omega arith in
    let turn : t ≡ e % n = ap (λ m. e % m) long in
    let at : w ≡ slice_index_or lists t w = ap (λ z. slice_index_or lists t z) c.index-lists-turn.is in
    let test = c.loop-left-test.true in
    let filled = c.loop-left.invariant.filled in
    record {
      whole = λ xs size shares.
          let h = c.loop-left.invariant.whole xs size shares in
          let rest = h.2 in
          let next : length h.0 ≡ e + 1 = omega (arith, rest, test) in
          let l = lost (λ v. v.items) n t e lists h.0 c.loop-left.items.items xs w c.pop.new.self c.in-Some.item long turn within next at c.in-Some.ensures.items h.3 h.1 in
          let lasts = l.long in (
            l.front,
            l.whole ∙ ap (λ ys. l.front ++ reverse ys) (sym c.push_reserved.ensures.items),
            omega (arith, lasts, test),
            l.shares,
          );
      filled = omega arith;
      kept = c.push_reserved.ensures.capacity ∙ c.loop-left.invariant.kept;
    }

pub unreachable-requires : goal.unreachable-requires
unreachable-requires g c =
    let lists = c.loop-left.lists in
    let n = length c.args.lists.now in
    let long = c.loop-left.auto.lists in
    let some = c.requires.some in
    let e : ℕ = c.args.count - 1 - c.loop-left.left in
    let t : ℕ = e % length lists in
    let r = c.index-lists-turn.result in
    let w = slice_index_or lists t r in
    let within : t < length c.args.lists.now = omega arith in
    let turn : t ≡ e % n = ap (λ m. e % m) long in
    let at : w ≡ slice_index_or lists t w = ap (λ z. slice_index_or lists t z) c.index-lists-turn.is in
    let test = c.loop-left-test.true in
    let h = c.loop-left.invariant.whole c.requires.shares.0 c.requires.shares.1 c.requires.shares.2 in
    let rest = h.2 in
    let next : length h.0 ≡ e + 1 = omega (arith, rest, test) in
    let last = has_last (λ v. v.items) n t e lists h.0 w turn within next at h.3 in
    let size = w.ok in
    let some_there = ap length last.4 in
    let more = length-append (share n t 0 last.0) (last.1 ∷ []) in
    let none = c.in_default.ensures.cases.0 in
    omega (arith, size, some_there, more, none)
