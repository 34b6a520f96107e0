-- What a call does to a table of joins that stands for the calls so far.
use Rattle.std.proofs.Common.{◌≡◌, ℕ, zero, suc, ◌+◌, ◌-◌, ◌<◌, ◌≤◌, Bool, true, false, cond, ◌==◌, nat_le, nat_lt, List, ◌∷◌, length, set, slice_get, Option, Some, None, option_map, refl, sym, ap, subst, ◌∙◌, arith, eqb-true, eq-eqb, ne_eqb, le-leb, lt-ltb, leb-true, ltb-true}
use Rattle.std.proofs.lemmas.Bool.{and_from, and_parts, false_from_ne_true, eqb-false}
use Rattle.std.proofs.lemmas.Option.{none-some, same_Some}
use Rattle.eip_exchange.specs.declared.end.Ended.{Ended}
use Rattle.eip_ordered.specs.Numbered.{Puts}
use Rattle.eip_join.specs.Parts.{Call, Began, PartEnded, Took, parts_of, is_between, end_of, ends_from, Open, join_over, join_of, Stands, IsPart, AreNew, IsOpenPart, no_ends, new_join, with_end, AreIndexed}

abbrev made : ℕ → List (Option Ended) → Open
made first ends = record { first = first; ends = ends }

-- ---- numbers between

between : (first count x : ℕ) → first ≤ x → x < first + count → is_between first count x ≡ true
between first count x low high = and_from (nat_le first x) (nat_lt x (first + count)) (le-leb first x low) (lt-ltb x (first + count) high)

outside : (first count x : ℕ) → (first ≤ x → x < first + count → ⊥) → is_between first count x ≡ false
outside first count x h = false_from_ne_true (is_between first count x) (λ e.
    let p = and_parts (nat_le first x) (nat_lt x (first + count)) e in
    h (leb-true first x p.0) (ltb-true x (first + count) p.1))

-- ---- the ends of parts

pub length-ends : (calls : List Call) (first count : ℕ) → length (ends_from calls first count) ≡ count
length-ends calls first zero = refl
length-ends calls first (suc count) = ap suc (length-ends calls (first + 1) count)

ends_alike : (a b : List Call) (first count : ℕ) → ((x : ℕ) → first ≤ x → x < first + count → end_of a x ≡ end_of b x) → ends_from a first count ≡ ends_from b first count
ends_alike a b first zero h = refl
ends_alike a b first (suc count) h =
    ap (λ (e : Option Ended). e ∷ ends_from a (first + 1) count) (h first (omega arith) (omega arith))
    ∙ ap (λ (es : List (Option Ended)). end_of b first ∷ es) (ends_alike a b (first + 1) count (λ x low high. h x (omega arith) (omega arith)))

new_ends : (calls : List Call) (parent first count at n : ℕ) → first ≤ at → at + n ≤ first + count → ends_from (Began parent first count ∷ calls) at n ≡ no_ends n
new_ends calls parent first count at zero low high = refl
new_ends calls parent first count at (suc n) low high =
    ap (λ (b : Bool). cond b None (end_of calls at) ∷ ends_from (Began parent first count ∷ calls) (at + 1) n) (between first count at low (omega arith))
    ∙ ap (λ (es : List (Option Ended)). None ∷ es) (new_ends calls parent first count (at + 1) n (omega arith) (omega arith))

-- the end of another part
other_end : (calls : List Call) (number x : ℕ) (ended : Ended) → (number ≡ x → ⊥) → end_of calls x ≡ end_of (PartEnded number ended ∷ calls) x
other_end calls number x ended h = ap (λ (b : Bool). cond b (Some ended) (end_of calls x)) (sym (ne_eqb number x h))

set_end : (calls : List Call) (number : ℕ) (ended : Ended) (first count i : ℕ) → number ≡ first + i → i < count → set (ends_from calls first count) i (Some ended) ≡ ends_from (PartEnded number ended ∷ calls) first count
set_end calls number ended first zero i e h = absurd (omega arith)
set_end calls number ended first (suc count) zero e h =
    let same : number ≡ first = omega arith in
    ap (λ (es : List (Option Ended)). Some ended ∷ es) (ends_alike calls (PartEnded number ended ∷ calls) (first + 1) count (λ x low high. other_end calls number x ended (λ s. omega arith)))
    ∙ ap (λ (b : Bool). cond b (Some ended) (end_of calls first) ∷ ends_from (PartEnded number ended ∷ calls) (first + 1) count) (sym (eq-eqb number first same))
set_end calls number ended first (suc count) (suc i) e h =
    let later : number ≡ (first + 1) + i = omega arith in
    ap (λ (es : List (Option Ended)). end_of calls first ∷ es) (set_end calls number ended (first + 1) count i later (omega arith))
    ∙ ap (λ (o : Option Ended). o ∷ ends_from (PartEnded number ended ∷ calls) (first + 1) count) (other_end calls number first ended (λ s. omega arith))

-- ---- a join opens

begun_by : (t : Bool) (o : Option (ℕ × ℕ)) (calls : List Call) (parent first count : ℕ)
    → ((parts : ℕ × ℕ) → t ≡ false → o ≡ Some parts → (x : ℕ) → parts.0 ≤ x → x < parts.0 + parts.1 → is_between first count x ≡ false)
    → cond t (Some (new_join first count)) (option_map (join_over calls) o) ≡ option_map (join_over (Began parent first count ∷ calls)) (cond t (Some (first, count)) o)
begun_by true o calls parent first count h =
    ap (λ (es : List (Option Ended)). Some (made first es)) (sym (new_ends calls parent first count first count (omega arith) (omega arith)))
begun_by false None calls parent first count h = refl
begun_by false (Some parts) calls parent first count h =
    ap (λ (es : List (Option Ended)). Some (made parts.0 es))
    (ends_alike calls (Began parent first count ∷ calls) parts.0 parts.1 (λ x low high. ap (λ (b : Bool). cond b None (end_of calls x)) (sym (h parts refl refl x low high))))

-- the parts of a join that stands for the calls
is_part : (calls : List Call) (parts : ℕ × ℕ) (x : ℕ) → parts.0 ≤ x → x < parts.0 + parts.1 → IsPart x (join_over calls parts)
is_part calls parts x low high = let n : length (ends_from calls parts.0 parts.1) ≡ parts.1 = length-ends calls parts.0 parts.1 in (low, omega arith)

pub stands_began : (calls : List Call) (old new : List (ℕ × Open)) (parent first count : ℕ) → Puts old new parent (Some (new_join first count)) → AreNew first count old
    → Stands calls old → Stands (Began parent first count ∷ calls) new
stands_began calls old new parent first count puts fresh stands = λ p.
    puts p
    ∙ ap (λ (o : Option Open). cond (parent == p) (Some (new_join first count)) o) (stands p)
    ∙ begun_by (parent == p) (parts_of calls p) calls parent first count
    (λ parts t e x low high. outside first count x (fresh p x (join_over calls parts) (stands p ∙ ap (option_map (join_over calls)) e) (is_part calls parts x low high)))

-- ---- a part ends

ended_by : (t : Bool) (o : Option (ℕ × ℕ)) (calls : List Call) (number : ℕ) (ended : Ended) (join : Open)
    → (t ≡ true → option_map (join_over calls) o ≡ Some join) → IsPart number join
    → ((parts : ℕ × ℕ) → t ≡ false → o ≡ Some parts → parts.0 ≤ number → number < parts.0 + parts.1 → ⊥)
    → cond t (Some (with_end (number - join.first) ended join)) (option_map (join_over calls) o) ≡ option_map (join_over (PartEnded number ended ∷ calls)) o
ended_by true None calls number ended join own part other = absurd (none-some join (own refl))
ended_by true (Some parts) calls number ended join own part other =
    let same : join ≡ join_over calls parts = sym (same_Some (join_over calls parts) join (own refl)) in
    let moved : IsPart number (join_over calls parts) = subst (IsPart number) same part in
    let low : parts.0 ≤ number = moved.0 in
    let n : length (ends_from calls parts.0 parts.1) ≡ parts.1 = length-ends calls parts.0 parts.1 in
    let high : number < parts.0 + length (ends_from calls parts.0 parts.1) = moved.1 in
    let at : number ≡ parts.0 + (number - parts.0) = omega arith in
    let within : number - parts.0 < parts.1 = omega arith in
    ap (λ (j : Open). Some (with_end (number - j.first) ended j)) same
    ∙ ap (λ (es : List (Option Ended)). Some (made parts.0 es)) (set_end calls number ended parts.0 parts.1 (number - parts.0) at within)
ended_by false None calls number ended join own part other = refl
ended_by false (Some parts) calls number ended join own part other =
    ap (λ (es : List (Option Ended)). Some (made parts.0 es))
    (ends_alike calls (PartEnded number ended ∷ calls) parts.0 parts.1
    (λ x low high. other_end calls number x ended (λ s. other parts refl refl (subst (λ (y : ℕ). parts.0 ≤ y) (sym s) low) (subst (λ (y : ℕ). y < parts.0 + parts.1) (sym s) high))))

pub stands_ended : (calls : List Call) (old new : List (ℕ × Open)) (parents : List (ℕ × ℕ)) (number : ℕ) (ended : Ended) → (part : IsOpenPart number old) → AreIndexed old parents
    → Puts old new part.parent (Some (with_end (number - part.join.first) ended part.join)) → Stands calls old → Stands (PartEnded number ended ∷ calls) new
stands_ended calls old new parents number ended part indexed puts stands = λ p.
    puts p
    ∙ ap (λ (o : Option Open). cond (part.parent == p) (Some (with_end (number - part.join.first) ended part.join)) o) (stands p)
    ∙ ended_by (part.parent == p) (parts_of calls p) calls number ended part.join
    (λ t. subst (λ (q : ℕ). join_of calls q ≡ Some part.join) (eqb-true part.parent p t) (sym (stands part.parent) ∙ part.opened))
    part.part
    (λ parts t e low high. eqb-false part.parent p t
    (indexed.apart part.parent p number part.join (join_over calls parts) part.opened (stands p ∙ ap (option_map (join_over calls)) e) part.part (is_part calls parts number low high)))

-- ---- a join is closed

taken_by : (t : Bool) (o : Option (ℕ × ℕ)) (calls : List Call) (parent : ℕ) → cond t None (option_map (join_over calls) o) ≡ option_map (join_over (Took parent ∷ calls)) (cond t None o)
taken_by true o calls parent = refl
taken_by false None calls parent = refl
taken_by false (Some parts) calls parent =
    ap (λ (es : List (Option Ended)). Some (made parts.0 es)) (ends_alike calls (Took parent ∷ calls) parts.0 parts.1 (λ x low high. refl))

pub stands_taken : (calls : List Call) (old new : List (ℕ × Open)) (parent : ℕ) → Puts old new parent None → Stands calls old → Stands (Took parent ∷ calls) new
stands_taken calls old new parent puts stands = λ p.
    puts p ∙ ap (λ (o : Option Open). cond (parent == p) None o) (stands p) ∙ taken_by (parent == p) (parts_of calls p) calls parent

-- ---- for callers

-- how the part of an index ended
pub end_at_index : (calls : List Call) (first count i : ℕ) → i < count → slice_get (ends_from calls first count) i ≡ Some (end_of calls (first + i))
end_at_index calls first zero i h = absurd (omega arith)
end_at_index calls first (suc count) zero h = ap (λ (x : ℕ). Some (end_of calls x)) (let e : first ≡ first + 0 = omega arith in e)
end_at_index calls first (suc count) (suc i) h =
    end_at_index calls (first + 1) count i (omega arith)
    ∙ ap (λ (x : ℕ). Some (end_of calls x)) (let e : (first + 1) + i ≡ first + suc i = omega arith in e)
