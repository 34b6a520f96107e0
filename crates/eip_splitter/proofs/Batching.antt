-- A batch of messages that were packed one behind another.
use Rattle.std.proofs.Common.{◌≡◌, ℕ, suc, ◌+◌, ◌≤◌, Bool, true, false, cond, List, [], ◌∷◌, length, map, Option, Some, Ok, refl, sym, ap, ◌∙◌, arith, fold}
use Rattle.std.specs.Option.{option_and_then}
use Rattle.std.specs.Cmp.{IsStrictWeakOrder}
use Rattle.std.proofs.lemmas.Bool.{le-leb}
use Rattle.eip_exchange.specs.declared.message.Message.{Message}
use Rattle.eip_exchange.specs.declared.setting.Key.{Key}
use Rattle.eip_resequence.specs.Order.{Arrival, placed, in_order, ordered_messages, goes_before}
use Rattle.eip_resequence.proofs.Ranks.{goes_before-order}
use Rattle.eip_resequence.proofs.Sorting.{in_order-moves, in_order-rises, in_order-ties}
use Rattle.eip_strategy.specs.Batches.{packed_of, IsPackedOf}
use Rattle.eip_resequence.specs.Unpacking.{unpacked}
use Rattle.eip_resequence.specs.declared.packed.Packed.{Packed}
use Rattle.eip_resequence.proofs.Again.{unpacked_again}
use Rattle.eip_splitter.proofs.Distinct.{headers_held, properties_held}
use Rattle.eip_splitter.specs.Parts.{within_limit}
use Rattle.eip_splitter.specs.Batches.{with_key, message_of, messages_of, in_key_order, placed_from, placed_all, batch_parts, IsHeld, AreHeld, goes_first, IsBatchOf}

-- ---- order

module _ {X Y : Type 0} (f : X → Y) (lt : X → X → Bool) (mt : Y → Y → Bool) (same : (a b : X) → mt (f a) (f b) ≡ lt a b) where
  placed_by : (t : Bool) (x y : X) (ys : List X) → map f (placed lt x ys) ≡ placed mt (f x) (map f ys)
      → map f (cond t (x ∷ y ∷ ys) (y ∷ placed lt x ys)) ≡ cond t (f x ∷ f y ∷ map f ys) (f y ∷ placed mt (f x) (map f ys))
  placed_by true x y ys ih = refl
  placed_by false x y ys ih = ap (λ (zs : List Y). f y ∷ zs) ih

  placed_mapped : (x : X) (ys : List X) → map f (placed lt x ys) ≡ placed mt (f x) (map f ys)
  placed_mapped x [] = refl
  placed_mapped x (y ∷ ys) =
      placed_by (lt x y) x y ys (placed_mapped x ys)
      ∙ ap (λ (t : Bool). cond t (f x ∷ f y ∷ map f ys) (f y ∷ placed mt (f x) (map f ys))) (sym (same x y))

  folded_mapped : (so_far : List X) (xs : List X) → map f (fold (λ zs x. placed lt x zs) so_far xs) ≡ fold (λ zs x. placed mt x zs) (map f so_far) (map f xs)
  folded_mapped so_far [] = refl
  folded_mapped so_far (x ∷ xs) =
      folded_mapped (placed lt x so_far) xs
      ∙ ap (λ (zs : List Y). fold (λ us u. placed mt u us) zs (map f xs)) (placed_mapped x so_far)

  -- the order of what is made of elements that compare alike
  in_order_mapped : (xs : List X) → map f (in_order lt xs) ≡ in_order mt (map f xs)
  in_order_mapped xs = folded_mapped [] xs

mapped_twice : {X Y Z : Type 0} (f : X → Y) (g : Y → Z) (xs : List X) → map g (map f xs) ≡ map (λ x. g (f x)) xs
mapped_twice f g [] = refl
mapped_twice f g (x ∷ xs) = ap (λ zs. g (f x) ∷ zs) (mapped_twice f g xs)

module _ {X : Type 0} (lt : X → X → Bool) where
  long_by : (t : Bool) (x y : X) (ys : List X) → length (placed lt x ys) ≡ suc (length ys) → length (cond t (x ∷ y ∷ ys) (y ∷ placed lt x ys)) ≡ suc (length (y ∷ ys))
  long_by true x y ys ih = refl
  long_by false x y ys ih = ap suc ih

  placed_long : (x : X) (ys : List X) → length (placed lt x ys) ≡ suc (length ys)
  placed_long x [] = refl
  placed_long x (y ∷ ys) = long_by (lt x y) x y ys (placed_long x ys)

  folded_long : (so_far xs : List X) → length (fold (λ zs x. placed lt x zs) so_far xs) ≡ length so_far + length xs
  folded_long so_far [] = omega arith
  folded_long so_far (x ∷ xs) = folded_long (placed lt x so_far) xs ∙ omega (arith, placed_long x so_far)

  in_order_long : (xs : List X) → length (in_order lt xs) ≡ length xs
  in_order_long xs = folded_long [] xs ∙ omega arith

-- ---- messages

module _ (k : Key) where
  held_by : (t : Bool) (m n : Message) (ms : List Message) → AreHeld (m ∷ []) → AreHeld (n ∷ ms) → AreHeld (placed (goes_first k) m ms) → AreHeld (cond t (m ∷ n ∷ ms) (n ∷ placed (goes_first k) m ms))
  held_by true m n ms h g ih = (h.0, g)
  held_by false m n ms h g ih = (g.0, ih)

  held_placed : (m : Message) (ms : List Message) → AreHeld (m ∷ []) → AreHeld ms → AreHeld (placed (goes_first k) m ms)
  held_placed m [] h g = h
  held_placed m (n ∷ ms) h g = held_by (goes_first k m n) m n ms h g (held_placed m ms h g.1)

  held_folded : (so_far ms : List Message) → AreHeld so_far → AreHeld ms → AreHeld (fold (λ zs x. placed (goes_first k) x zs) so_far ms)
  held_folded so_far [] h g = h
  held_folded so_far (m ∷ ms) h g = held_folded (placed (goes_first k) m so_far) ms (held_placed m so_far (g.0, tt) h) g.1

  held_in_order : (ms : List Message) → AreHeld ms → AreHeld (in_order (goes_first k) ms)
  held_in_order ms h = held_folded [] ms tt h

again_one : (m : Message) → IsHeld m → message_of (packed_of m) ≡ Some m
again_one m h = rw (headers_held m.headers h.headers h.few, properties_held m.properties h.properties) refl

-- messages that can be held are told again
again_all : (ms : List Message) → AreHeld ms → messages_of (map packed_of ms) ≡ Some ms
again_all [] h = refl
again_all (m ∷ ms) h = rw (again_one m h.0, again_all ms h.1) refl

module _ (k : Key) (ms : List Message) where
  -- the packed messages in the order of their keys are the messages in that order
  ordered_again : in_key_order k (map packed_of ms) ≡ map packed_of (in_order (goes_first k) ms)
  unfolding ordered_messages
  ordered_again =
      ap (λ (all : List Arrival). map (λ a. a.1) (in_order goes_before all)) (mapped_twice packed_of (with_key k) ms)
      ∙ ap (map (λ a. a.1)) (sym (in_order_mapped (λ m. with_key k (packed_of m)) (goes_first k) goes_before (λ a b. refl) ms))
      ∙ mapped_twice (λ m. with_key k (packed_of m)) (λ a. a.1) (in_order (goes_first k) ms)

  few_enough : (xs : List Message) → length xs ≤ 10000 → within_limit (Some xs) ≡ Ok xs
  few_enough xs le = rw (le-leb (length xs) 10000 le) refl

  parts_is : (m : Message) → AreHeld ms → length ms ≤ 10000 → IsPackedOf m.body ms → batch_parts k m ≡ Ok (placed_from (length ms) 0 (in_order (goes_first k) ms))
  unfolding batch_parts
  parts_is m held le e =
      let list : unpacked m.body ≡ Some (map packed_of ms) = ap unpacked e ∙ unpacked_again (map packed_of ms) in
      let all : messages_of (in_key_order k (map packed_of ms)) ≡ Some (in_order (goes_first k) ms) = ap messages_of ordered_again ∙ again_all (in_order (goes_first k) ms) (held_in_order k ms held) in
      let long : length (in_order (goes_first k) ms) ≡ length ms = in_order_long (goes_first k) ms in
      let few : within_limit (Some (in_order (goes_first k) ms)) ≡ Ok (in_order (goes_first k) ms) = few_enough (in_order (goes_first k) ms) (omega arith) in
      ap (λ (o : Option (List Packed)). placed_all (within_limit (option_and_then (λ ps. messages_of (in_key_order k ps)) o))) list
      ∙ ap (λ (o : Option (List Message)). placed_all (within_limit o)) all
      ∙ ap placed_all few
      ∙ ap (λ (n : ℕ). Ok (placed_from n 0 (in_order (goes_first k) ms))) long

  goes_first-order : IsStrictWeakOrder (goes_first k)
  goes_first-order =
      let arrival : Message → Arrival = λ m. with_key k (packed_of m) in
      record {
        one_way = λ a b. goes_before-order.one_way (arrival a) (arrival b);
        chain = λ a b c. goes_before-order.chain (arrival a) (arrival b) (arrival c);
      }

  pub batch_is : (m : Message) → AreHeld ms → length ms ≤ 10000 → IsPackedOf m.body ms → IsBatchOf k ms (batch_parts k m)
  batch_is m held le e = record {
    ordered = in_order (goes_first k) ms;
    same = in_order-moves (goes_first k) goes_first-order ms;
    rising = in_order-rises (goes_first k) goes_first-order ms;
    ties = in_order-ties (goes_first k) goes_first-order ms;
    parts_are = parts_is m held le e;
  }
