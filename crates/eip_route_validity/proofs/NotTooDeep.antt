-- No block of a set that fits stands more than 16 deep.
use Rattle.std.proofs.Common.{ℕ, ◌+◌, ◌-◌, ◌<◌, List, [], ◌∷◌, ◌++◌, None, length, slice_index_or, ◌≡◌, refl, sym, ap, ◌∙◌, arith, append_assoc, append-nil, length-append}
use Rattle.std.proofs.Math.Seq.{get_or-append_seam}
use Rattle.eip_route.proofs.Firsts.{first_some_one, nested_in}
use Rattle.eip_route.specs.Faults.{first_some, steps_numbers, too_nested, nested_too_deep}
use Rattle.eip_route.specs.Nest.{NestedSet, flat_set}
use Rattle.eip_route.specs.declared.route.Block.{Block}
use Rattle.eip_route.specs.declared.route.Names.{Names}
use Rattle.eip_route.specs.declared.step.Step.{Step}
use Rattle.eip_route_validity.proofs.NothingFound.{none_behind}
use Rattle.eip_route_validity.proofs.NumbersInOrder.{Closed, in_set}
use Rattle.eip_route_validity.specs.Fit.{SetFits}

-- the blocks bs stand among all from number k on
pub record At (all : List Block) (k : ℕ) (bs : List Block) : Type 0 where
  pub front : List Block
  pub back : List Block
  pub cut : all ≡ front ++ (bs ++ back)
  pub place : k ≡ length front

pub left : {all : List Block} {k : ℕ} (xs ys : List Block) → At all k (xs ++ ys) → At all k xs
left xs ys a = record { front = a.front; back = ys ++ a.back; cut = a.cut ∙ ap (λ bs. a.front ++ bs) (append_assoc xs ys a.back); place = a.place }

pub right : {all : List Block} {k : ℕ} (xs ys : List Block) → At all k (xs ++ ys) → At all (k + length xs) ys
right xs ys a = record {
  front = a.front ++ xs;
  back = a.back;
  cut = a.cut ∙ (ap (λ bs. a.front ++ bs) (append_assoc xs ys a.back) ∙ sym (append_assoc a.front xs (ys ++ a.back)));
  place = omega (arith, a.place, length-append a.front xs);
}

-- the first of them, and that there is such a block
pub got : (all : List Block) (k : ℕ) (b : Block) (bs : List Block) → At all k (b ∷ bs) → slice_index_or all k b ≡ b
got all k b bs a =
    ap (λ x. slice_index_or x k b) a.cut ∙ (ap (λ x. slice_index_or (a.front ++ b ∷ (bs ++ a.back)) x b) a.place ∙ get_or-append_seam a.front b (bs ++ a.back) b)

pub within : (all : List Block) (k : ℕ) (b : Block) (bs : List Block) → At all k (b ∷ bs) → k < length all
within all k b bs a = omega (arith, a.place, ap length a.cut, length-append a.front (b ∷ (bs ++ a.back)))

-- where so many blocks may still stand in one another, none stands too deep
abbrev Shallow : List Block → ℕ → ℕ → List ℕ → List Block → Type 0
Shallow all d k ns bs = (most : ℕ) → d + most ≡ 16 → At all k bs → first_some (too_nested all most) ns ≡ None

shallow_behind : (all : List Block) (d k : ℕ) (ms ns : List ℕ) (xs ys : List Block) → Shallow all d k ms xs → Shallow all d (k + length xs) ns ys → Shallow all d k (ms ++ ns) (xs ++ ys)
shallow_behind all d k ms ns xs ys h t most e a = none_behind (too_nested all most) ms ns (h most e (left xs ys a)) (t most e (right xs ys a))

shallow_block : (all : List Block) (d k : ℕ) (ss : List Step) (bs : List Block) → d < 16 → Shallow all (d + 1) (k + 1) (steps_numbers ss) bs → Shallow all d k (k ∷ []) (record { steps = ss } ∷ bs)
shallow_block all d k ss bs l h most e a =
    let b : Block = record { steps = ss } in
    first_some_one (too_nested all most) k ∙ (nested_in all most k b (omega arith) (within all k b bs a) ∙
    (ap (λ (x : Block). first_some (too_nested all (most - 1)) (steps_numbers x.steps)) (got all k b bs a) ∙ h (most - 1) (omega arith) (right (b ∷ []) bs a)))

shallow_closed : (all : List Block) → Closed (Shallow all)
shallow_closed all = record {
  nothing = λ d k most e a. refl;
  behind = shallow_behind all;
  block = shallow_block all;
}

pub none_too_deep : (n : Names) (x : NestedSet) → SetFits n x → nested_too_deep (flat_set n x) ≡ None
none_too_deep n x h =
    let s = flat_set n x in
    let whole : At s.blocks 0 s.blocks = record { front = []; back = []; cut = sym (append-nil s.blocks); place = refl } in
    in_set (Shallow s.blocks) (shallow_closed s.blocks) n x h 16 refl whole
