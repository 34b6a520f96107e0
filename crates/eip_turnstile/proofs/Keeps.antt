-- Each step keeps the rule.
use Rattle.std.proofs.Common.{◌≡◌, ◌≢◌, ℕ, zero, suc, ◌+◌, ◌%◌, ◌^◌, ◌<◌, ◌≤◌, List, [], ◌∷◌, ◌++◌, length, get_or, set, Bool, true, false, true≢false, cond, eqb, ltb, eqb-true, ◌&&◌, sym, refl, ap, ◌∙◌, subst, ⊎_elim, arith, append-nil, length-append, length-set, get_or-set_other, get_or-set_same, mod-eq_of_lt, Option, Some, None}
use mathlib.Core.Logic.{dite}
use native.Mathlib.Decide.{ℕ_discrete, dec_le}
use mathlib.Core.Option.{some, some-injective, some-ne-none}
use lib.ListN.{get_elem?}
use lib.Seq.{set-get_or}
use prog.Atomic.{either}
use Rattle.atomic_table.specs.Table.{State, Me, Step, Act, Valid, carried_after, rest, keeps, takes, gives, stepped, Allows, Splits, Joins, opening, Final, Seen}
use Rattle.atomic_table.proofs.Lists.{at_snoc, set_again, set_here, set_else, exchanged}
use Rattle.eip_turnstile.specs.declared.view.View.{View}
use Rattle.eip_turnstile.specs.Rule.{entries_by, StartsWith, AllBy, AllBelow, Told, times, total, busy, one_if, is_empty, is_lent, all_of, known, knows_of, known_count, has_turn, Fits, Once, Kept, first_view}
use Rattle.eip_turnstile.specs.Steps.{claimed, counted, released, split_left, split_right, longer, joined, spent_view, Claims, Counts, Releases, held_list}
use Rattle.eip_turnstile.proofs.Lists.{all_set, total-append, total-set, term_le, terms_le, total-one, times-append, times-same, times-other, by-below, below-append, below-by, below-more, told-append, told-longer, starts-append}

some_is : {B : Type 0} → (b c : B) → Some b ≡ Some c → b ≡ c
some_is b c e = cc

pub lent_is : {T : Type 0} → (l : List (ℕ × Option T)) → is_lent l ≡ true → l ≡ (0, None) ∷ []
lent_is [] e = absurd (true≢false (sym e))
lent_is (x ∷ y ∷ xs) e = absurd (true≢false (sym e))
lent_is (x ∷ []) e = one x.0 x.1 (eqb x.0 0) (λ q. eqb-true x.0 0 q) e
  where
    two : {T : Type 0} (n : ℕ) (o : Option T) → n ≡ 0 → is_empty o ≡ true → ◌≡◌ {A = List (ℕ × Option T)} ((n, o) ∷ []) ((0, None) ∷ [])
    two {T} n None e f = ap {B = List (ℕ × Option T)} (λ (k : ℕ). (k, None) ∷ []) e
    two n (Some y) e f = absurd (true≢false (sym f))

    one : {T : Type 0} (n : ℕ) (o : Option T) (b : Bool) → (b ≡ true → n ≡ 0) → (b && is_empty o) ≡ true → ◌≡◌ {A = List (ℕ × Option T)} ((n, o) ∷ []) ((0, None) ∷ [])
    one n o true z e = two n o (z refl) e
    one n o false z e = absurd (true≢false (sym e))

-- what a seat holds after it took slot 0
pub took : {S V : Type 0} (m : Me S V) (v : V) (x : S) (more : List (ℕ × S)) → m ≡ (v, (0, x) ∷ more) → m.1 ≡ (0, x) ∷ rest m.1
took m v x more e = let held : m.1 ≡ (0, x) ∷ more = ap (λ n. n.1) e in held ∙ ap (λ l. (0, x) ∷ rest l) (sym held)

busy_le : (n : ℕ) → busy n ≤ 1
busy_le zero = omega arith
busy_le (suc n) = omega arith

busy_suc : (n m : ℕ) → n ≡ m + 1 → busy n ≡ 1
busy_suc zero m e = absurd (omega arith)
busy_suc (suc n) m e = refl

module _ {E B : Type 0} where
  -- a number is known by no other seat
  live_known : (v : View E B) → v.spent ≡ false → known v ≡ (v.number, v.mine) ∷ v.olds
  live_known v live = ap (λ (b : Bool). cond b [] ((v.number, v.mine) ∷ v.olds)) live

  live_told : (log : List (ℕ × E)) (v : View E B) → v.spent ≡ false → Told log (known v) → Told log ((v.number, v.mine) ∷ v.olds)
  live_told log v live told = subst (λ (l : List (ℕ × List E)). Told log l) (live_known v live) told

  live_times : (n : ℕ) (v : View E B) → v.spent ≡ false → knows_of n v ≡ times n ((v.number, v.mine) ∷ v.olds)
  live_times n v live = ap (λ (l : List (ℕ × List E)). times n l) (live_known v live)

  knows_own : (v : View E B) → v.spent ≡ false → knows_of v.number v ≡ 1 + times v.number v.olds
  knows_own v live = live_times v.number v live ∙ times-same v.number v.mine v.olds

  at_most_one : (made : ℕ) (views : List (View E B)) → Once made views → (n : ℕ) → total (knows_of n) views ≤ 1
  at_most_one made views once n = dite (dec_le made n) (λ le. let z = (once n).1 le in omega arith) (λ lt. let o = (once n).0 (omega arith) in omega arith)

  own_below : (made : ℕ) (views : List (View E B)) → Once made views → (j : ℕ) (v : View E B) → get_elem? views j ≡ some v → v.spent ≡ false → v.number < made
  own_below made views once j v at live = dite (dec_le made v.number) (λ le. let z = (once v.number).1 le in let t = term_le (knows_of v.number) views j v at in let k = knows_own v live in absurd (omega arith)) (λ lt. omega arith)

  -- the own number is not among the olds
  not_old : (made : ℕ) (views : List (View E B)) → Once made views → (j : ℕ) (v : View E B) → get_elem? views j ≡ some v → v.spent ≡ false → times v.number v.olds ≡ 0
  not_old made views once j v at live = let t = term_le (knows_of v.number) views j v at in let k = knows_own v live in let m = at_most_one made views once v.number in omega arith

  not_others : (made : ℕ) (views : List (View E B)) → Once made views → (j i : ℕ) (v u : View E B) → i ≢ j → get_elem? views j ≡ some v → get_elem? views i ≡ some u → v.spent ≡ false → knows_of v.number u ≡ 0
  not_others made views once j i v u apart at there live = let t = terms_le (knows_of v.number) views j i v u apart at there in let k = knows_own v live in let m = at_most_one made views once v.number in omega arith

  no_turn : (u : View E B) → has_turn u ≡ 0 → u.turn ≡ false
  no_turn u e = off u.turn e
    where
      off : (b : Bool) → one_if b ≡ 0 → b ≡ false
      off true e = absurd (omega arith)
      off false e = refl

  turn_one : (u : View E B) → u.turn ≡ true → has_turn u ≡ 1
  turn_one u e = ap one_if e

  turn_none : (u : View E B) → u.turn ≡ false → has_turn u ≡ 0
  turn_none u e = ap one_if e

  others_rest : (views : List (View E B)) (word : ℕ) → total has_turn views ≡ busy word → (j i : ℕ) (v u : View E B) → i ≢ j → get_elem? views j ≡ some v → get_elem? views i ≡ some u → v.turn ≡ true → u.turn ≡ false
  others_rest views word turns j i v u apart at there on = let t = terms_le has_turn views j i v u apart at there in let o = turn_one v on in let b = busy_le word in no_turn u (omega arith)

  -- a seat without the turn minds no change of word 1
  other_word : (log : List (ℕ × E)) (made : ℕ) (start : B) (word word' : ℕ) (u : View E B) → u.turn ≡ false → Fits log made start word u → Fits log made start word' u
  other_word log made start word word' u off f = (f.0, λ live. let s = f.1 live in record { begins = s.begins; own = s.own; based = s.based; first = s.first; turned = λ on. absurd (true≢false (sym on ∙ off)) })

  module _ {T : Type 0} (entries : T → List (ℕ × E)) (base : T → B) (start : B) where
    abbrev Law : State (Option T) (View E B) → Type 0
    Law = Kept entries base start

    -- a step that the seat can take, where word i becomes n
    abbrev Can : State (Option T) (View E B) → ℕ → ℕ → ℕ → Me (Option T) (View E B) → (Me (Option T) (View E B) → Type 0) → Type 0
    Can s i n id m then = (w : View E B) × (a : Act (Option T)) × Valid s.homes m.1 a × Law (stepped s i n id m.1 w a) × then (w, carried_after m.1 a)

    claim_won : (s : State (Option T) (View E B)) (k : Law s) (id new : ℕ) (m : Me (Option T) (View E B)) (st : Step (Option T)) → m.0.spent ≡ false → m.0.turn ≡ false → new ≡ m.0.number + 1 → get_elem? s.views id ≡ some m.0
        → get_or s.words 1 0 ≡ 0 → Can s 1 new id m (Claims entries base st m (get_or s.words 1 0))
    claim_won s k id new m st live off is at free =
        let v : View E B = m.0 in
        let h = k.home free in
        let y = h.0 in
        let sits = (k.each id v at).1 live in
        let w : View E B = claimed v (entries y) in
        let wide = k.wide in
        let long : 1 < length s.words = omega arith in
        let turned : get_or (set s.words 1 new) 1 0 ≡ new = get_or-set_same s.words 1 new 0 long in
        let same : (f : View E B → ℕ) → f w ≡ f v → total f (set s.views id w) ≡ total f s.views = (λ (f : View E B → ℕ). λ (e : f w ≡ f v). let t = total-set f s.views id v w at in omega arith) in (
          w,
          takes 0 (Some y),
          h.1,
          record {
            log = k.log;
            made = k.made;
            wide = length-set s.words 1 new ∙ k.wide;
            counted = get_or-set_other s.words 1 0 new 0 (λ e. omega arith) ∙ k.counted;
            home = λ e. absurd (omega (arith, turned, e));
            each = all_set (λ j u. Fits k.log k.made start (get_or (set s.words 1 new) 1 0) u) s.views id w
                ((λ dead. absurd (true≢false (sym dead ∙ live))), (λ _. record { begins = ([], sym h.2 ∙ sym (append-nil (entries y))); own = sits.own; based = sits.based; first = sits.first; turned = λ _. (turned ∙ is, h.2) }))
                (λ j u apart there. let t = terms_le has_turn s.views id j v u apart at there in let b : busy (get_or s.words 1 0) ≡ 0 = ap busy free in let before = k.turns in
                other_word k.log k.made start (get_or s.words 1 0) (get_or (set s.words 1 new) 1 0) u (no_turn u (omega arith)) (k.each j u there));
            once = λ n. let e = same (knows_of n) refl in ((λ lt. e ∙ (k.once n).0 lt), (λ le. e ∙ (k.once n).1 le));
            whole = same known_count refl ∙ k.whole;
            turns = (let t = total-set has_turn s.views id v w at in let b : busy (get_or s.words 1 0) ≡ 0 = ap busy free in let o = turn_none v off in let n = busy_suc new v.number is in let before = k.turns in let goal : total has_turn (set s.views id w) ≡ busy new = omega arith in goal ∙ ap busy (sym turned));
            below = k.below;
          },
          ((λ _. (y, refl, ap Some h.3 ∙ sym sits.based, subst (λ l. StartsWith l v.seen) (sym h.2) sits.begins, ap (λ (l : List (ℕ × E)). entries_by v.number l) h.2 ∙ (live_told k.log v live sits.own).0)), (λ held. absurd (held free))),
        )

    claim_lost : (s : State (Option T) (View E B)) (k : Law s) (id : ℕ) (m : Me (Option T) (View E B)) (st : Step (Option T)) → get_elem? s.views id ≡ some m.0
        → get_or s.words 1 0 ≢ 0 → Can s 1 (get_or s.words 1 0) id m (Claims entries base st m (get_or s.words 1 0))
    claim_lost s k id m st at held = (m.0, keeps, tt, subst (λ (x : List ℕ × List (View E B)). Law record { words = x.0; homes = s.homes; views = x.1 }) (λ i. (sym (set-get_or s.words 1 0) i, sym (set_again s.views id m.0 at) i)) k, ((λ free. absurd (held free)), (λ _. refl)))

    pub claims : (slots id new : ℕ) (m : Me (Option T) (View E B)) (st : Step (Option T)) → m.0.spent ≡ false → m.0.turn ≡ false → new ≡ m.0.number + 1
        → Allows Law slots id m 1 (λ n. either (eqb n 0) new n) (Claims entries base st m)
    claims slots id new m st live off is s k one at small = exchanged (get_or s.words 1 0) 0 new (λ n. Can s 1 n id m (Claims entries base st m (get_or s.words 1 0))) (claim_won s k id new m st live off is at) (λ held. claim_lost s k id m st at held)

    -- the value comes with entries of this seat alone
    count_done : (s : State (Option T) (View E B)) (k : Law s) (id count new : ℕ) (m : Me (Option T) (View E B)) (st : Step (Option T)) (more : List (ℕ × E)) → m.0.spent ≡ false → m.0.turn ≡ true
        → held_list entries base m.1 ≡ m.0.seen ++ more → AllBy m.0.number more → new ≡ length (m.0.seen ++ more) → get_elem? s.views id ≡ some m.0
        → Can s 0 new id m (Counts entries base st m (get_or s.words 0 0))
    count_done s k id count new m st more live on is all sum at =
        let v : View E B = m.0 in
        let sits = (k.each id v at).1 live in
        let turn = sits.turned on in
        let grown : List (ℕ × E) = k.log ++ more in
        let is' : held_list entries base m.1 ≡ grown = is ∙ ap (λ (l : List (ℕ × E)). l ++ more) turn.1 in
        let w : View E B = counted v (held_list entries base m.1) in
        let wide = k.wide in
        let long : 0 < length s.words = omega arith in
        let there' : get_or (set s.words 0 new) 1 0 ≡ get_or s.words 1 0 = get_or-set_other s.words 0 1 new 0 (λ e. omega arith) in
        let one_more = own_below k.made s.views k.once id v at live in
        let olds_none = not_old k.made s.views k.once id v at live in
        let told = live_told k.log v live sits.own in
        let own_after : Told grown ((w.number, w.mine) ∷ w.olds) = (ap (λ (l : List (ℕ × E)). entries_by v.number l) (sym is'), told-longer v.number k.log more v.olds all olds_none told.1) in
        let same : (f : View E B → ℕ) → f w ≡ f v → total f (set s.views id w) ≡ total f s.views = (λ (f : View E B → ℕ). λ (e : f w ≡ f v). let t = total-set f s.views id v w at in omega arith) in (
          w,
          keeps,
          tt,
          record {
            log = grown;
            made = k.made;
            wide = length-set s.words 0 new ∙ k.wide;
            counted = get_or-set_same s.words 0 new 0 long ∙ (sum ∙ ap (λ (l : List (ℕ × E)). length (l ++ more)) turn.1);
            home = λ e. let busy_word = turn.0 in absurd (omega (arith, there', e));
            each = all_set (λ j u. Fits grown k.made start (get_or (set s.words 0 new) 1 0) u) s.views id w
                ((λ dead. absurd (true≢false (sym dead ∙ live))), (λ _. record { begins = ([], sym is' ∙ sym (append-nil (held_list entries base m.1))); own = subst (λ (l : List (ℕ × List E)). Told grown l) (sym (live_known w live)) own_after; based = sits.based; first = sits.first; turned = λ _. (there' ∙ turn.0, is') }))
                (λ j u apart there. let rests = others_rest s.views (get_or s.words 1 0) k.turns id j v u apart at there on in let f = k.each j u there in
                other_word grown k.made start (get_or s.words 1 0) (get_or (set s.words 0 new) 1 0) u rests
                (f.0, λ alive. let t = f.1 alive in record { begins = starts-append k.log more u.seen t.begins; own = told-longer v.number k.log more (known u) all (not_others k.made s.views k.once id j v u apart at there live) t.own; based = t.based; first = t.first; turned = λ spins. absurd (true≢false (sym spins ∙ rests)) }));
            once = λ n. let e = same (knows_of n) (live_times n w live ∙ sym (live_times n v live)) in ((λ lt. e ∙ (k.once n).0 lt), (λ le. e ∙ (k.once n).1 le));
            whole = same known_count (ap length (live_known w live) ∙ sym (ap length (live_known v live))) ∙ k.whole;
            turns = same has_turn refl ∙ k.turns ∙ ap busy (sym there');
            below = below-append k.made k.log more k.below (below-by k.made v.number more one_more all);
          },
          refl,
        )

    pub counts : (slots id count : ℕ) (m : Me (Option T) (View E B)) (v : View E B) (y : T) (st : Step (Option T)) (more : List (ℕ × E)) → m ≡ (v, (0, Some y) ∷ []) → v.spent ≡ false → v.turn ≡ true
        → entries y ≡ v.seen ++ more → AllBy v.number more → count ≡ length more → length (v.seen ++ more) < 2 ^ 64
        → Allows Law slots id m 0 (λ n. (n + count) % 2 ^ 64) (Counts entries base st m)
    counts slots id count m v y st more held live on is all sum room =
        subst (λ (x : Me (Option T) (View E B)). Allows Law slots id x 0 (λ n. (n + count) % 2 ^ 64) (Counts entries base st x)) (sym held)
        (λ s k one at small.
        let turn = ((k.each id v at).1 live).turned on in
        let now : get_or s.words 0 0 ≡ length v.seen = k.counted ∙ ap length (sym turn.1) in
        let long = length-append v.seen more in
        let fits : get_or s.words 0 0 + count < 2 ^ 64 = omega arith in
        count_done s k id count ((get_or s.words 0 0 + count) % 2 ^ 64) (v, (0, Some y) ∷ []) st more live on is all (mod-eq_of_lt fits ∙ omega arith) at)

    release_done : (s : State (Option T) (View E B)) (k : Law s) (id : ℕ) (v : View E B) (y : T) (st : Step (Option T)) → v.spent ≡ false → v.turn ≡ true
        → entries y ≡ v.seen → Some (base y) ≡ v.base → 0 < length s.homes → get_elem? s.views id ≡ some v
        → Can s 1 0 id (v, (0, Some y) ∷ []) (Releases entries base st (v, (0, Some y) ∷ []) 0)
    release_done s k id v y st live on is based some_slot at =
        let sits = (k.each id v at).1 live in
        let turn = sits.turned on in
        let w : View E B = released v in
        let wide = k.wide in
        let long : 1 < length s.words = omega arith in
        let free : get_or (set s.words 1 0) 1 0 ≡ 0 = get_or-set_same s.words 1 0 0 long in
        let same : (f : View E B → ℕ) → f w ≡ f v → total f (set s.views id w) ≡ total f s.views = (λ (f : View E B → ℕ). λ (e : f w ≡ f v). let t = total-set f s.views id v w at in omega arith) in (
          w,
          gives,
          tt,
          record {
            log = k.log;
            made = k.made;
            wide = length-set s.words 1 0 ∙ k.wide;
            counted = get_or-set_other s.words 1 0 0 0 (λ e. omega arith) ∙ k.counted;
            home = λ _. (y, set_here s.homes 0 (some (Some y)) (omega arith), is ∙ turn.1, some_is (base y) start (based ∙ sits.based));
            each = all_set (λ j u. Fits k.log k.made start (get_or (set s.words 1 0) 1 0) u) s.views id w
                ((λ dead. absurd (true≢false (sym dead ∙ live))), (λ _. record { begins = sits.begins; own = sits.own; based = sits.based; first = sits.first; turned = λ spins. absurd (true≢false (sym spins)) }))
                (λ j u apart there. other_word k.log k.made start (get_or s.words 1 0) (get_or (set s.words 1 0) 1 0) u (others_rest s.views (get_or s.words 1 0) k.turns id j v u apart at there on) (k.each j u there));
            once = λ n. let e = same (knows_of n) refl in ((λ lt. e ∙ (k.once n).0 lt), (λ le. e ∙ (k.once n).1 le));
            whole = same known_count refl ∙ k.whole;
            turns = (let t = total-set has_turn s.views id v w at in let b = busy_suc (get_or s.words 1 0) v.number turn.0 in let o = turn_one v on in let before = k.turns in let goal : total has_turn (set s.views id w) ≡ 0 = omega arith in goal ∙ ap busy (sym free));
            below = k.below;
          },
          refl,
        )

    pub releases : (slots id : ℕ) (m : Me (Option T) (View E B)) (v : View E B) (y : T) (st : Step (Option T)) → m ≡ (v, (0, Some y) ∷ []) → 0 < slots → v.spent ≡ false → v.turn ≡ true
        → entries y ≡ v.seen → Some (base y) ≡ v.base → Allows Law slots id m 1 (λ _. 0) (λ _. Releases entries base st m 0)
    releases slots id m v y st held some_slot live on is based =
        subst (λ (x : Me (Option T) (View E B)). Allows Law slots id x 1 (λ _. 0) (λ _. Releases entries base st x 0)) (sym held)
        (λ s k one at small. release_done s k id v y st live on is based (omega arith) at)

    splits_kept : (s : State (Option T) (View E B)) (k : Law s) (id : ℕ) (v : View E B) → v.spent ≡ false → v.number ≡ 0 → get_elem? s.views id ≡ some v
        → Law record { words = s.words; homes = s.homes; views = set s.views id (split_left v) ++ split_right v ∷ [] }
    splits_kept s k id v live zero_is at =
        let sits = (k.each id v at).1 live in
        let w : View E B = split_left v in
        let u' : View E B = split_right v in
        let made_is : v.made ≡ k.made = sits.first zero_is in
        let below_made = own_below k.made s.views k.once id v at live in
        let same : (f : View E B → ℕ) → f w ≡ f v → total f (set s.views id w ++ u' ∷ []) ≡ total f s.views + f u' = (λ (f : View E B → ℕ). λ (e : f w ≡ f v). let t = total-set f s.views id v w at in let a = total-append f (set s.views id w) (u' ∷ []) in omega arith) in
        record {
          log = k.log;
          made = k.made + 1;
          wide = k.wide;
          counted = k.counted;
          home = k.home;
          each = λ j u there. ⊎_elim
              (λ (old : get_elem? (set s.views id w) j ≡ some u). all_set (λ i x. Fits k.log (k.made + 1) start (get_or s.words 1 0) x) s.views id w
              ((λ dead. absurd (true≢false (sym dead ∙ live))), (λ _. record { begins = sits.begins; own = sits.own; based = sits.based; first = λ _. ap (λ (n : ℕ). n + 1) made_is; turned = sits.turned }))
              (λ i x apart place. let f = k.each i x place in (f.0, λ alive. let t = f.1 alive in record { begins = t.begins; own = t.own; based = t.based; first = λ z. (let n = not_others k.made s.views k.once id i v x apart at place live in let o = knows_own x alive in let e : knows_of v.number x ≡ knows_of x.number x = ap (λ (m : ℕ). knows_of m x) (zero_is ∙ sym z) in absurd (omega arith)); turned = t.turned }))
              j u old)
              (λ (new : u' ≡ u). subst (λ (x : View E B). Fits k.log (k.made + 1) start (get_or s.words 1 0) x) new
              ((λ dead. absurd (true≢false (sym dead))), (λ _. record { begins = sits.begins; own = (ap (λ (n : ℕ). entries_by n k.log) made_is ∙ by-below k.made k.made k.log (omega arith) k.below, tt); based = sits.based; first = λ z. absurd (omega arith); turned = λ spins. absurd (true≢false (sym spins)) })))
              (at_snoc (set s.views id w) u' u j there);
          once = λ n. let e = same (knows_of n) refl in dite (ℕ_discrete v.made n)
              (λ (here : v.made ≡ n). let one : knows_of n u' ≡ 1 = ap (λ (m : ℕ). times n ((m, v.mine) ∷ [])) here ∙ times-same n v.mine [] in let after = (k.once n).1 in let z = after (omega arith) in ((λ lt. omega arith), (λ le. absurd (omega arith))))
              (λ (else : v.made ≢ n). let nothing : knows_of n u' ≡ 0 = times-other {A = List E} n v.made [] [] else in ((λ lt. let o = (k.once n).0 (omega arith) in omega arith), (λ le. let o = (k.once n).1 (omega arith) in omega arith)));
          whole = (let e = same known_count refl in let b = k.whole in omega arith);
          turns = (let e = same has_turn refl in let b = k.turns in omega arith);
          below = below-more k.made (k.made + 1) k.log (omega arith) k.below;
        }

    pub splits : (id : ℕ) (v : View E B) → v.spent ≡ false → v.number ≡ 0 → Splits Law id v (split_left v) (split_right v)
    splits id v live first s k at = splits_kept s k id v live first at

    longer_kept : (log xs ys : List (ℕ × E)) → StartsWith log xs → StartsWith log ys → StartsWith log (longer xs ys)
    longer_kept log xs ys a b = one (ltb (length xs) (length ys))
      where
        one : (b' : Bool) → StartsWith log (cond b' ys xs)
        one true = b
        one false = a

    joins_kept : (s : State (Option T) (View E B)) (k : Law s) (id other : ℕ) (v u : View E B) → v.spent ≡ false → v.turn ≡ false → u.spent ≡ false → u.turn ≡ false → other ≢ id → get_elem? s.views id ≡ some v
        → get_elem? (set s.views id (joined v u)) other ≡ some u → Law record { words = s.words; homes = s.homes; views = set (set s.views id (joined v u)) other spent_view }
    joins_kept s k id other v u live off ulive uoff apart at there =
        let sits = (k.each id v at).1 live in
        let w : View E B = joined v u in
        let there' : get_elem? s.views other ≡ some u = sym (set_else s.views id other w apart) ∙ there in
        let usits = (k.each other u there').1 ulive in
        let same : (f : View E B → ℕ) → f w ≡ f v + f u → f spent_view ≡ 0 → total f (set (set s.views id w) other spent_view) ≡ total f s.views =
        (λ (f : View E B → ℕ). λ (e : f w ≡ f v + f u). λ (z : f spent_view ≡ 0). let t = total-set f s.views id v w at in let t' = total-set f (set s.views id w) other u spent_view there in omega arith) in
        let known_w : known w ≡ (v.number, v.mine) ∷ (known u ++ v.olds) = live_known w live ∙ ap (λ (l : List (ℕ × List E)). (v.number, v.mine) ∷ (l ++ v.olds)) (sym (live_known u ulive)) in
        record {
          log = k.log;
          made = k.made;
          wide = k.wide;
          counted = k.counted;
          home = k.home;
          each = all_set (λ j x. Fits k.log k.made start (get_or s.words 1 0) x) (set s.views id w) other spent_view
              ((λ _. refl), (λ alive. absurd (true≢false alive)))
              (λ j x _ place. all_set (λ i y. Fits k.log k.made start (get_or s.words 1 0) y) s.views id w (
                (λ dead. absurd (true≢false (sym dead ∙ live))),
                (λ _. record {
                  begins = longer_kept k.log v.seen u.seen sits.begins usits.begins;
                  own = (let mine = live_told k.log v live sits.own in let all : Told k.log ((v.number, v.mine) ∷ (known u ++ v.olds)) = (mine.0, told-append k.log (known u) v.olds usits.own mine.1) in subst (λ (l : List (ℕ × List E)). Told k.log l) (sym known_w) all);
                  based = sits.based;
                  first = sits.first;
                  turned = λ spins. absurd (true≢false (sym spins ∙ off));
                }),
              )
              (λ i y _ p. k.each i y p) j x place);
          once = λ n. let sum : knows_of n w ≡ knows_of n v + knows_of n u = (let a = ap (λ (l : List (ℕ × List E)). times n l) known_w in let b = live_times n v live in let c = times-append n (known u) v.olds in
              let head : times n ((v.number, v.mine) ∷ (known u ++ v.olds)) + times n v.olds ≡ times n ((v.number, v.mine) ∷ v.olds) + times n (known u ++ v.olds) = omega arith in omega arith) in
              let e = same (knows_of n) sum refl in ((λ lt. e ∙ (k.once n).0 lt), (λ le. e ∙ (k.once n).1 le));
          whole = (let sum : known_count w ≡ known_count v + known_count u = (let a = ap (λ (l : List (ℕ × List E)). length l) known_w in let b = ap (λ (l : List (ℕ × List E)). length l) (live_known v live) in let c = length-append (known u) v.olds in omega arith) in same known_count sum refl ∙ k.whole);
          turns = (let o = turn_none u uoff in let sum : has_turn w ≡ has_turn v + has_turn u = omega arith in same has_turn sum refl ∙ k.turns);
          below = k.below;
        }

    pub joins : (id other : ℕ) (v u : View E B) → v.spent ≡ false → v.turn ≡ false → u.spent ≡ false → u.turn ≡ false → Joins Law id v other u (joined v u) spent_view
    joins id other v u live off ulive uoff s k at apart there = joins_kept s k id other v u live off ulive uoff apart at there

    pub begins : (y : T) → entries y ≡ [] → base y ≡ start → Law (opening (0 ∷ 0 ∷ []) (Some y ∷ []) (first_view start))
    begins y empty is = record {
      log = [];
      made = 1;
      wide = refl;
      counted = refl;
      home = λ _. (y, refl, empty, is);
      each = one;
      once = λ n. dite (ℕ_discrete 0 n)
          (λ (here : 0 ≡ n). ((λ _. once_here n here), (λ le. absurd (omega arith))))
          (λ (else : 0 ≢ n). ((λ lt. absurd (else (omega arith))), (λ _. once_else n else)));
      whole = refl;
      turns = refl;
      below = tt;
    }
      where
        once_here : (n : ℕ) → 0 ≡ n → total (knows_of n) (first_view {E = E} start ∷ []) ≡ 1
        once_here n here = subst (λ (m : ℕ). total (knows_of m) (first_view {E = E} start ∷ []) ≡ 1) here refl

        once_else : (n : ℕ) → 0 ≢ n → total (knows_of n) (first_view {E = E} start ∷ []) ≡ 0
        once_else n else = let e = times-other {A = List E} n 0 [] [] else in omega arith

        one : (j : ℕ) (v : View E B) → get_elem? (first_view start ∷ []) j ≡ some v → Fits [] 1 start 0 v
        one zero v e = subst (λ (x : View E B). Fits [] 1 start 0 x) (some-injective _ _ e) ((λ dead. absurd (true≢false (sym dead))), (λ _. record { begins = ([], refl); own = (refl, tt); based = refl; first = λ _. refl; turned = λ spins. absurd (true≢false (sym spins)) }))
        one (suc j) v e = absurd (some-ne-none v (sym e))

    -- at the end: the first seat took all others in
    abbrev pub Closes : View E B → List (Option T) → Type 0
    Closes v xs = (y : T) × (get_elem? xs 0 ≡ some (Some y)) × (Some (base y) ≡ v.base) × StartsWith (entries y) v.seen × Told (entries y) (all_of v) × AllBelow v.made (entries y) × ((n : ℕ) → n < v.made → times n (all_of v) ≡ 1)

    gone : (u : View E B) → known_count u ≡ 0 → u.spent ≡ true
    gone u nil = one u.spent nil
      where
        one : (b : Bool) → length (cond b [] ((u.number, u.mine) ∷ u.olds)) ≡ 0 → b ≡ true
        one true e = refl
        one false e = absurd (omega arith)

    gone_times : (n : ℕ) (u : View E B) → u.spent ≡ true → knows_of n u ≡ 0
    gone_times n u dead = ap (λ (b : Bool). times n (cond b [] ((u.number, u.mine) ∷ u.olds))) dead

    pub closes : (id : ℕ) (v : View E B) (ws : List ℕ) (xs : List (Option T)) → v.spent ≡ false → v.turn ≡ false → v.number ≡ 0 → length (all_of v) ≡ v.made → Final (Seen Law id v) ws xs → Closes v xs
    closes id v ws xs live off zero_is all last =
        let s = last.0 in
        let k = last.1.0 in
        let at = last.1.1 in
        let sits = (k.each id v at).1 live in
        let made_is : v.made ≡ k.made = sits.first zero_is in
        let others : (j : ℕ) (u : View E B) → j ≢ id → get_elem? s.views j ≡ some u → u.spent ≡ true =
        (λ (j : ℕ). λ (u : View E B). λ (apart : j ≢ id). λ (there : get_elem? s.views j ≡ some u). let t = terms_le known_count s.views id j v u apart at there in let w = k.whole in let c = ap (λ (l : List (ℕ × List E)). length l) (live_known v live) in gone u (omega arith)) in
        let still : total has_turn s.views ≡ has_turn v = total-one has_turn s.views id v at (λ j u apart there. turn_none u ((k.each j u there).0 (others j u apart there))) in
        let free : get_or s.words 1 0 ≡ 0 = idle (get_or s.words 1 0) (let o = turn_none v off in let b = k.turns in omega arith) in
        let h = k.home free in
        let is : k.log ≡ entries h.0 = sym h.2 in (
          h.0,
          last.4 0 (Some h.0) h.1,
          ap Some h.3 ∙ sym sits.based,
          subst (λ (l : List (ℕ × E)). StartsWith l v.seen) is sits.begins,
          live_told (entries h.0) v live (subst (λ (l : List (ℕ × E)). Told l (known v)) is sits.own),
          subst (λ (x : ℕ × List (ℕ × E)). AllBelow x.0 x.1) (λ i. (sym made_is i, is i)) k.below,
          (λ n lt. let t = total-one (knows_of n) s.views id v at (λ j u apart there. gone_times n u (others j u apart there)) in let o = (k.once n).0 (omega arith) in let a = live_times n v live in omega arith),
        )
      where
        idle : (n : ℕ) → busy n ≡ 0 → n ≡ 0
        idle zero e = refl
        idle (suc n) e = absurd (omega arith)

    -- what `close` says of the value
    pub record Ends (v : View E B) (made : ℕ) (y : T) : Type 0 where
      pub based : Some (base y) ≡ v.base
      pub starts : StartsWith (entries y) v.seen
      pub told : Told (entries y) (all_of v)
      pub no_others : AllBelow made (entries y)
      pub each : (n : ℕ) → n < made → times n (all_of v) ≡ 1

    pub ends : (id made : ℕ) (v : View E B) (ws : List ℕ) (xs : List (Option T)) (x : Option T) → v.spent ≡ false → v.turn ≡ false → v.number ≡ 0 → v.made ≡ made → length (all_of v) ≡ made → Final (Seen Law id v) ws xs
        → get_elem? xs 0 ≡ some x → (y : T) × (x ≡ Some y) × Ends v made y
    ends id made v ws xs x live off zero_is made_is all last at =
        let t = closes id v ws xs live off zero_is (all ∙ sym made_is) last in (
          t.0,
          some-injective x (Some t.0) (sym at ∙ t.1),
          record { based = t.2; starts = t.3; told = t.4; no_others = subst (λ (n : ℕ). AllBelow n (entries t.0)) made_is t.5; each = λ n lt. t.6 n (omega arith) },
        )

    pub ends_as : (made : ℕ) (v : View E B) (x : Option T) (r : T) → (y : T) × (x ≡ Some y) × Ends v made y → x ≡ Some r → Ends v made r
    ends_as made v x r t is = subst (λ (z : T). Ends v made z) (some_is t.0 r (sym t.1 ∙ is)) t.2
