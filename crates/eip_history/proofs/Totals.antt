-- The counts of a journal, step by step, and that they add up.
use Rattle.std.proofs.Common.{◌≡◌, ℕ, ◌+◌, Bool, true, false, List, [], ◌∷◌, Some, length, take, filter, cond, refl, ap, ◌∙◌, arith}
use Rattle.std.proofs.lemmas.List.{take_all, length-append}
use Rattle.std.proofs.lemmas.List.Elements.{filter-append}
use Rattle.eip_exchange.specs.declared.end.End.{End}
use Rattle.eip_exchange.specs.declared.end.End.TheVariants as end
use Rattle.eip_exchange.specs.declared.birth.Birth.{Birth}
use Rattle.eip_ledger.specs.declared.entry.Entry.{Entry}
use Rattle.eip_ledger.specs.declared.place.Place.{Place}
use Rattle.eip_ledger.specs.declared.place.Place.TheVariants as place_is
use Rattle.eip_history.specs.Plan.{Plan}
use Rattle.eip_history.specs.Own.{Past}
use Rattle.eip_history.specs.Births.{births}
use Rattle.eip_history.specs.Place.{place, place_of, count_at}
use Rattle.eip_history.specs.Tables.{bit}
use Rattle.eip_history.specs.Texts.{is_completed, is_handled}
use Rattle.eip_history.specs.Counts.{is_failed, is_waiting, total_count, completed_count, handled_count, failed_count, waiting_count, count_of_first, accepted_in, accepted_count, refused_in, refused_count}
use Rattle.eip_history.proofs.Walk.{take-next, placed-at}

pub filter-cons : {A : Type 0} (p : A → Bool) (x : A) (xs : List A) → length (filter p (x ∷ xs)) ≡ bit (p x) + length (filter p xs)
filter-cons p x xs = elim (p x) as (λ v. length (cond v (x ∷ filter p xs) (filter p xs)) ≡ bit v + length (filter p xs)) [ true ↦ omega arith | false ↦ omega arith ]

-- a place is of exactly one of the four kinds
one-of-ends : (e : End)
    → bit (is_completed (place_is.Ended e)) + bit (is_handled (place_is.Ended e)) + bit (is_failed (place_is.Ended e)) + bit (is_waiting (place_is.Ended e)) ≡ 1
one-of-ends end.Completed = refl
one-of-ends end.Handled = refl
one-of-ends (end.Failed f) = refl

one-of : (p : Place) → bit (is_completed p) + bit (is_handled p) + bit (is_failed p) + bit (is_waiting p) ≡ 1
one-of (place_is.Ended e) = one-of-ends e
one-of (place_is.Queue q) = refl
one-of (place_is.InHand w) = refl
one-of (place_is.Retry d) = refl
one-of place_is.Joining = refl
one-of place_is.Ready = refl

four-counts : (f : Birth → Place) (bs : List Birth)
    → length (filter (λ (b : Birth). is_completed (f b)) bs) + length (filter (λ (b : Birth). is_handled (f b)) bs)
    + length (filter (λ (b : Birth). is_failed (f b)) bs) + length (filter (λ (b : Birth). is_waiting (f b)) bs)
    ≡ length bs
four-counts f [] = refl
four-counts f (b ∷ bs) =
    let c = filter-cons (λ (d : Birth). is_completed (f d)) b bs in
    let h = filter-cons (λ (d : Birth). is_handled (f d)) b bs in
    let g = filter-cons (λ (d : Birth). is_failed (f d)) b bs in
    let w = filter-cons (λ (d : Birth). is_waiting (f d)) b bs in
    let ih = four-counts f bs in
    let one = one-of (f b) in
    omega (arith, c, h, g, w, ih, one)

-- completed, handled, failed and waiting add up to all births
pub totals-add-up : (s : Plan) (past : Past) → completed_count s past + handled_count s past + failed_count s past + waiting_count s past ≡ total_count s past
unfolding count_at
totals-add-up s past = four-counts (λ b. place_of s past b) (births s past)

pub count-first-none : (s : Plan) (past : Past) (p : Place → Bool) → count_of_first s past p 0 ≡ 0
unfolding count_of_first
count-first-none s past p = refl

-- one more exchange counts by its place
pub count-first-more : (s : Plan) (past : Past) (p : Place → Bool) (k : ℕ) (q : Place) → place s past (k + 1) ≡ Some q
    → count_of_first s past p (k + 1) ≡ count_of_first s past p k + bit (p q)
unfolding count_of_first
count-first-more s past p k q at =
    let r = placed-at s past k q at in
    let t = take-next (births s past) k r.0 r.2 in
    let test : Birth → Bool = λ b. p (place_of s past b) in
    let split = ap length (ap (filter test) t ∙ filter-append test (take k (births s past)) (r.0 ∷ []))
    ∙ length-append (filter test (take k (births s past))) (filter test (r.0 ∷ [])) in
    let last = filter-cons test r.0 [] in
    let same = ap (λ x. bit (p x)) r.4 in
    omega (arith, split, last, same)

pub count-first-all : (s : Plan) (past : Past) (p : Place → Bool) → count_of_first s past p (total_count s past) ≡ count_at s past p
unfolding count_of_first count_at
count-first-all s past p = ap (λ bs. length (filter (λ (b : Birth). p (place_of s past b)) bs)) (take_all (length (births s past)) (births s past) (omega arith))

pub accepted-none : accepted_count [] ≡ 0
unfolding accepted_count
accepted-none = refl

pub accepted-more : (e : Entry) (past : Past) → accepted_count (e ∷ past) ≡ accepted_count past + accepted_in e.kind
unfolding accepted_count
accepted-more e past = refl

pub refused-none : refused_count [] ≡ 0
unfolding refused_count
refused-none = refl

pub refused-more : (e : Entry) (past : Past) → refused_count (e ∷ past) ≡ refused_count past + refused_in e.kind
unfolding refused_count
refused-more e past = refl
