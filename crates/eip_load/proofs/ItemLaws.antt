-- Laws of the items of a load test.
use Rattle.std.proofs.Common.{ℕ, zero, suc, ◌≡◌, ◌+◌, ◌<◌, ◌≤◌, ◌^◌, ◌/◌, ◌%◌, List, [], ◌∷◌, ◌++◌, codes, decimal, drop, length, Some, refl, sym, ap, ◌∙◌, subst, arith}
use Rattle.std.proofs.Math.Seq.{drop-nil}
use Rattle.std.proofs.lemmas.Fmt.{length-decimal-le}
use Rattle.eip_exchange.specs.Headers.{is_redelivery, counted}
use Rattle.eip_exchange.specs.Limits.{IsGivable}
use Rattle.eip_endpoint.specs.declared.source.Pulled.{Pulled}
use Rattle.eip_endpoint.specs.declared.source.Pulled.TheVariants.{Item, Refused, End}
use Rattle.eip_endpoint.specs.Pulls.{all_taken, EndsAtEnd}
use Rattle.eip_load.specs.Items.{message_of, item, items_from, items_of, GaveItem}

short : (n : ℕ) → n < 2 ^ 32 → length (decimal n) ≤ 65536
short n h = let few = length-decimal-le 10 n (omega arith) (omega arith) (omega arith) in omega (arith, few)

-- a message of a load test is within the limits
pub givable : (order x : ℕ) → order < 2 ^ 32 → IsGivable (message_of order x)
unfolding is_redelivery
givable order x h =
    let two : counted (message_of order x).headers ≡ 2 = refl in
    record {
      within = record {
        body = short (x % 100) (omega arith);
        headers = (short order h, (short (x / 65536 % 4) (omega arith), tt));
        properties = tt;
        few = omega (arith, two);
      };
      no_properties = refl;
    }

-- behind the first g items comes the next one
pub next-item : (i n g : ℕ) → g < n → drop g (items_from i n) ≡ item (i + g) ∷ drop (g + 1) (items_from i n)
next-item i zero g h = absurd (omega (arith, h))
next-item i (suc n) zero h = let e : i + 0 ≡ i = omega arith in rw e refl
next-item i (suc n) (suc g) h =
    let one : suc g + 1 ≡ suc (g + 1) = omega arith in
    let at : suc i + g ≡ i + suc g = omega arith in
    rw (one, sym at) (next-item (suc i) n g (omega (arith, h)))

-- behind the last one nothing is left
pub no-item : (i n g : ℕ) → n ≤ g → drop g (items_from i n) ≡ []
no-item i zero g h = drop-nil g
no-item i (suc n) zero h = absurd (omega (arith, h))
no-item i (suc n) (suc g) h = no-item (suc i) n g (omega (arith, h))

-- what is given is the first of what is left
pub gave-left : (n g g' : ℕ) (p : Pulled) → GaveItem n g g' p → drop g (items_of n) ≡ all_taken (p ∷ []) ++ drop g' (items_of n)
gave-left n g g' (Item i m) h =
    let at : 1 + g ≡ g + 1 = omega arith in
    next-item 1 n g h.0 ∙ ap (λ k. item k ∷ drop (g + 1) (items_of n)) at ∙ ap (λ (p : Pulled). p ∷ drop (g + 1) (items_of n)) (sym h.2)
    ∙ ap (λ k. Item i m ∷ drop k (items_of n)) (sym h.1)
gave-left n g g' (Refused i c) h = absurd h
gave-left n g g' End h = ap (λ k. drop k (items_of n)) (sym h.1)

-- and the end comes where nothing is
pub gave-end : (n g g' : ℕ) (p : Pulled) → GaveItem n g g' p → (left : List Pulled) → left ≡ drop g (items_of n) → EndsAtEnd (Some left) p
gave-end n g g' (Item i m) h left e = tt
gave-end n g g' (Refused i c) h left e = absurd h
gave-end n g g' End h left e = e ∙ no-item 1 n g h.0
