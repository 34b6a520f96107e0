use Rattle.std.proofs.Common.{◌≡◌, ℕ, ◌<◌, ◌%◌, [], ◌∷◌, ◌++◌, length, slice_index_or, vec_capacity, refl, sym, ap, ◌∙◌, arith, length-append}
use Rattle.std.specs.Prelude.{reverse}
use Rattle.std.proofs.lemmas.List.{reverse-reverse, nil_from_length}
use Rattle.eip_shares.proofs.Dealt.{given, same_field, popped, share-length}
use Rattle.eip_shares.proofs.shares.deal.Goals as goal

pub loop-index-init : goal.loop-index-init
loop-index-init g c = record {
  cut = (
    [],
    sym (reverse-reverse c.args.items.now.items) ∙ ap reverse (sym c.reverse.ensures.items),
    refl,
    λ k d h. nil_from_length (slice_index_or c.args.lists.now k d).items (sym (slice_index_or c.args.lists.now k d).ok.0 ∙ c.requires.empty k d h),
  );
  left = omega arith;
  room = λ k d h. refl;
  kept = c.reverse.ensures.capacity;
}

pub push_reserved-requires : goal.push_reserved-requires
push_reserved-requires g c =
    let lists = c.loop-index.lists in
    let long = c.loop-index.auto.lists in
    let some = c.requires.some in
    let t : ℕ = c.loop-index.index % length lists in
    let r = c.index-lists-turn.result in
    let within : t < length c.args.lists.now = omega arith in
    let cut = c.loop-index.invariant.cut in
    let items = ap length (cut.3 t r within) in
    let size = (slice_index_or lists t r).ok in
    let short = share-length (length c.args.lists.now) t 0 cut.0 in
    let kept = c.loop-index.invariant.room t r within in
    let room = c.requires.room t r within in
    let was = c.loop-index.invariant.left in
    let took = c.in-Some.ensures.cases in
    let done = cut.2 in
    omega arith

pub loop-index-preserved : goal.loop-index-preserved
loop-index-preserved g c =
    let lists = c.loop-index.lists in
    let n = length c.args.lists.now in
    let long = c.loop-index.auto.lists in
    let some = c.requires.some in
    let t : ℕ = c.loop-index.index % length lists in
    let r = c.index-lists-turn.result in
    let w = slice_index_or lists t r in
    let within : t < length c.args.lists.now = omega arith in
    let cut = c.loop-index.invariant.cut in
    let turn : t ≡ length cut.0 % n = ap (λ m. c.loop-index.index % m) long ∙ ap (λ e. e % n) (sym cut.2) in
    let at : w ≡ slice_index_or lists t w = ap (λ z. slice_index_or lists t z) c.index-lists-turn.is in
    let was = c.loop-index.invariant.left in
    let took = c.in-Some.ensures.cases in
    let done = cut.2 in
    let more = length-append cut.0 (c.in-Some.item ∷ []) in
    record {
      cut = (
        cut.0 ++ c.in-Some.item ∷ [],
        popped c.args.items.now.items cut.0 c.loop-index.items.items c.pop.new.self.items c.in-Some.item cut.1 c.in-Some.ensures.items,
        omega (arith, more, done),
        given (λ v. v.items) n t lists cut.0 c.in-Some.item w c.push_reserved.new.self long turn within at c.push_reserved.ensures.items cut.3,
      );
      left = omega arith;
      room = same_field (λ v. vec_capacity v) n t lists c.args.lists.now w c.push_reserved.new.self long within at c.push_reserved.ensures.capacity c.loop-index.invariant.room;
      kept = c.pop.ensures.capacity ∙ c.loop-index.invariant.kept;
    }
