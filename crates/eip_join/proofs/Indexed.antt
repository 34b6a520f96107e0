-- Whose parts begin where, as joins open, parts end, and joins are closed.
use Rattle.std.proofs.Common.{◌≡◌, ℕ, ◌+◌, ◌-◌, ◌<◌, ◌≤◌, ◌⊎◌, Bool, true, false, cond, ◌==◌, nat_lt, List, [], ◌∷◌, length, Option, Some, None, option_map, refl, sym, ap, subst, ◌∙◌, inl, inr, arith, eqb-true, eq-eqb, lt-ltb, ltb-true, length-set}
use Rattle.std.proofs.lemmas.Bool.{and_from, and_parts, false_from_ne_true, eqb-false, both_ways, cases_Bool}
use Rattle.std.proofs.lemmas.List.{length-replicate}
use Rattle.std.proofs.lemmas.Option.{none-some, same_Some}
use Rattle.eip_text.proofs.Cutting.{none_since}
use Rattle.eip_exchange.specs.declared.end.Ended.{Ended}
use Rattle.eip_join.proofs.Standing.{stands_ended}
use Rattle.eip_ordered.specs.Numbered.{value_at, Puts}
use Rattle.eip_join.specs.Parts.{Call, PartEnded, Stands, IsUnended, Open, IsFree, IsPart, AreNew, IsOpenPart, no_ends, new_join, with_end, is_beginning, Indexes, Unindexes, IsLastUpTo, BeginsAt, AreIndexed}

-- ---- cases

put_cases : {X : Type 0} (t : Bool) (w o : Option X) (x : X) → cond t w o ≡ Some x → ((t ≡ true) × (w ≡ Some x)) ⊎ ((t ≡ false) × (o ≡ Some x))
put_cases true w o x e = inl (refl, e)
put_cases false w o x e = inr (refl, e)

beginning : (count first x : ℕ) → 0 < count → first ≡ x → is_beginning count first x ≡ true
beginning count first x some same = and_from (nat_lt 0 count) (first == x) (lt-ltb 0 count some) (eq-eqb first x same)

beginning_parts : (count first x : ℕ) → is_beginning count first x ≡ true → (0 < count) × (first ≡ x)
beginning_parts count first x e = let p = and_parts (nat_lt 0 count) (first == x) e in (ltb-true 0 count p.0, eqb-true first x p.1)

not_beginning : (count first x : ℕ) → (0 < count → first ≡ x → ⊥) → is_beginning count first x ≡ false
not_beginning count first x h = false_from_ne_true (is_beginning count first x) (λ e. let p = beginning_parts count first x e in h p.0 p.1)

begins_some : (x : ℕ) (o : Option Open) → BeginsAt x o → (join : Open) × (o ≡ Some join) × (join.first ≡ x) × (0 < length join.ends)
begins_some x None h = absurd h
begins_some x (Some join) h = (join, refl, h.0, h.1)

-- a join that has parts has its first one
first_part : (join : Open) (x : ℕ) → join.first ≡ x → 0 < length join.ends → IsPart x join
first_part join x same some = (omega arith, omega arith)

-- what stays where another number is put in
kept : {X : Type 0} (old new : List (ℕ × X)) (k p : ℕ) (w : Option X) → Puts old new k w → (k == p) ≡ false → value_at new p ≡ value_at old p
kept old new k p w puts ne = puts p ∙ ap (λ (b : Bool). cond b w (value_at old p)) ne

put_here : {X : Type 0} (old new : List (ℕ × X)) (k : ℕ) (w : Option X) → Puts old new k w → value_at new k ≡ w
put_here old new k w puts = puts k ∙ ap (λ (b : Bool). cond b w (value_at old k)) (eq-eqb k k refl)

-- ---- a join opens

module _ (joins after : List (ℕ × Open)) (parents more : List (ℕ × ℕ)) (parent first count : ℕ) (puts : Puts joins after parent (Some (new_join first count)))
    (indexes : Indexes parents more first parent count) (free : IsFree parent joins) (fresh : AreNew first count joins) (indexed : AreIndexed joins parents) where
  all_new : length (no_ends count) ≡ count
  all_new = length-replicate count None

  here : 0 < count → value_at more first ≡ Some parent
  here some = indexes first ∙ ap (λ (b : Bool). cond b (Some parent) (value_at parents first)) (beginning count first first some refl)

  told_by : (p : ℕ) (join : Open) → ((((parent == p) ≡ true) × (Some (new_join first count) ≡ Some join)) ⊎ (((parent == p) ≡ false) × (value_at joins p ≡ Some join))) → 0 < length join.ends → value_at more join.first ≡ Some p
  told_by p join (inl h) some =
      subst (λ (j : Open). 0 < length j.ends → value_at more j.first ≡ Some p) (same_Some (new_join first count) join h.1)
      (λ lt. here (subst (λ (n : ℕ). 0 < n) all_new lt) ∙ ap (λ (q : ℕ). Some q) (eqb-true parent p h.0)) some
  told_by p join (inr h) some =
      indexes join.first
      ∙ ap (λ (b : Bool). cond b (Some parent) (value_at parents join.first))
      (not_beginning count first join.first (λ lt same. fresh p join.first join h.1 (first_part join join.first refl some) (omega arith) (omega arith)))
      ∙ indexed.told p join h.1 some

  told_began : (p : ℕ) (join : Open) → value_at after p ≡ Some join → 0 < length join.ends → value_at more join.first ≡ Some p
  told_began p join at some = told_by p join (put_cases (parent == p) (Some (new_join first count)) (value_at joins p) join (sym (puts p) ∙ at)) some

  -- another parent's join stays
  begins_old : (x p : ℕ) → BeginsAt x (value_at joins p) → BeginsAt x (value_at after p)
  begins_old x p old =
      elim (cases_Bool (parent == p)) [
        | inl t ↦ absurd (subst (BeginsAt x) (ap (value_at joins) (sym (eqb-true parent p t)) ∙ free) old)
        | inr f ↦ subst (BeginsAt x) (sym (kept joins after parent p (Some (new_join first count)) puts f)) old
      ]

  begins_by : (x p : ℕ) → (((is_beginning count first x ≡ true) × (Some parent ≡ Some p)) ⊎ ((is_beginning count first x ≡ false) × (value_at parents x ≡ Some p))) → BeginsAt x (value_at after p)
  begins_by x p (inl h) =
      let b = beginning_parts count first x h.0 in
      subst (λ (q : ℕ). BeginsAt x (value_at after q)) (same_Some parent p h.1)
      (subst (BeginsAt x) (sym (put_here joins after parent (Some (new_join first count)) puts)) (b.1, subst (λ (n : ℕ). 0 < n) (sym all_new) b.0))
  begins_by x p (inr h) = begins_old x p (indexed.begins x p h.1)

  begins_began : (x p : ℕ) → value_at more x ≡ Some p → BeginsAt x (value_at after p)
  begins_began x p e = begins_by x p (put_cases (is_beginning count first x) (Some parent) (value_at parents x) p (sym (indexes x) ∙ e))

  -- a part of the new join is a part of no other
  new_part : (q x : ℕ) (join other : Open) → new_join first count ≡ join → value_at joins q ≡ Some other → IsPart x join → IsPart x other → ⊥
  new_part q x join other same at part its =
      let mine : IsPart x (new_join first count) = subst (IsPart x) (sym same) part in
      fresh q x other at its mine.0 (subst (λ (n : ℕ). x < first + n) all_new mine.1)

  abbrev Opened : ℕ → Open → Type 0
  Opened p join = (((parent == p) ≡ true) × (Some (new_join first count) ≡ Some join)) ⊎ (((parent == p) ≡ false) × (value_at joins p ≡ Some join))

  apart_by : (p q x : ℕ) (join other : Open) → Opened p join → Opened q other → IsPart x join → IsPart x other → p ≡ q
  apart_by p q x join other (inl h) (inl k) part its = sym (eqb-true parent p h.0) ∙ eqb-true parent q k.0
  apart_by p q x join other (inl h) (inr k) part its = absurd (new_part q x join other (same_Some (new_join first count) join h.1) k.1 part its)
  apart_by p q x join other (inr h) (inl k) part its = absurd (new_part p x other join (same_Some (new_join first count) other k.1) h.1 its part)
  apart_by p q x join other (inr h) (inr k) part its = indexed.apart p q x join other h.1 k.1 part its

  apart_began : (p q x : ℕ) (join other : Open) → value_at after p ≡ Some join → value_at after q ≡ Some other → IsPart x join → IsPart x other → p ≡ q
  apart_began p q x join other a b part its =
      apart_by p q x join other
      (put_cases (parent == p) (Some (new_join first count)) (value_at joins p) join (sym (puts p) ∙ a))
      (put_cases (parent == q) (Some (new_join first count)) (value_at joins q) other (sym (puts q) ∙ b))
      part its

  pub indexed_began : AreIndexed after more
  indexed_began = record { told = told_began; begins = begins_began; apart = apart_began }

-- ---- a join that didn't open

undone_by : (t : Bool) (o : Option ℕ) (parent : ℕ) → (t ≡ true → o ≡ None) → cond t None (cond t (Some parent) o) ≡ o
undone_by true o parent h = sym (h refl)
undone_by false o parent h = refl

pub indexed_undone : (joins : List (ℕ × Open)) (parents more again : List (ℕ × ℕ)) (parent first count : ℕ) → Indexes parents more first parent count → Unindexes more again first count
    → AreNew first count joins → AreIndexed joins parents → AreIndexed joins again
indexed_undone joins parents more again parent first count indexes unindexes fresh indexed =
    let same : (x : ℕ) → value_at again x ≡ value_at parents x = λ x.
    unindexes x
    ∙ ap (λ (o : Option ℕ). cond (is_beginning count first x) None o) (indexes x)
    ∙ undone_by (is_beginning count first x) (value_at parents x) parent (λ e. sym (none_since (value_at parents x) (λ p at.
    let b = beginning_parts count first x e in
    let some : 0 < count = b.0 in
    let its : first ≡ x = b.1 in
    let o = begins_some x (value_at joins p) (indexed.begins x p at) in
    fresh p x o.0 o.1 (first_part o.0 x o.2 o.3) (omega arith) (omega arith)))) in
    record {
      told = λ p join at some. same join.first ∙ indexed.told p join at some;
      begins = λ x p e. indexed.begins x p (sym (same x) ∙ e);
      apart = indexed.apart;
    }

-- ---- a part ends

abbrev shape : Open → ℕ × ℕ
shape join = (join.first, length join.ends)

shaped : (o new : Option Open) (j : Open) → option_map shape new ≡ option_map shape o → new ≡ Some j → (k : Open) × (o ≡ Some k) × (k.first ≡ j.first) × (length k.ends ≡ length j.ends)
shaped None new j h e = absurd (none-some (shape j) (sym h ∙ ap (option_map shape) e))
shaped (Some k) new j h e =
    let s : shape k ≡ shape j = same_Some (shape k) (shape j) (sym h ∙ ap (option_map shape) e) in
    (k, refl, ap (λ (p : ℕ × ℕ). p.0) s, ap (λ (p : ℕ × ℕ). p.1) s)

begins_shaped : (x : ℕ) (o new : Option Open) → option_map shape new ≡ option_map shape o → BeginsAt x o → BeginsAt x new
begins_shaped x None new h b = absurd b
begins_shaped x (Some k) None h b = absurd (none-some (shape k) h)
begins_shaped x (Some k) (Some j) h b =
    let s : shape j ≡ shape k = same_Some (shape j) (shape k) h in
    (ap (λ (p : ℕ × ℕ). p.0) s ∙ b.0, subst (λ (n : ℕ). 0 < n) (sym (ap (λ (p : ℕ × ℕ). p.1) s)) b.1)

part_shaped : (x : ℕ) (j k : Open) → k.first ≡ j.first → length k.ends ≡ length j.ends → IsPart x j → IsPart x k
part_shaped x j k f n part =
    let low : j.first ≤ x = part.0 in
    let high : x < j.first + length j.ends = part.1 in
    (omega arith, omega arith)

indexed_shaped : (joins after : List (ℕ × Open)) (parents : List (ℕ × ℕ)) → ((p : ℕ) → option_map shape (value_at after p) ≡ option_map shape (value_at joins p)) → AreIndexed joins parents → AreIndexed after parents
indexed_shaped joins after parents h indexed = record {
  told = λ p j at some.
      let s = shaped (value_at joins p) (value_at after p) j (h p) at in
      ap (value_at parents) (sym s.2) ∙ indexed.told p s.0 s.1 (subst (λ (n : ℕ). 0 < n) (sym s.3) some);
  begins = λ x p e. begins_shaped x (value_at joins p) (value_at after p) (h p) (indexed.begins x p e);
  apart = λ p q x i j a b part its.
      let s = shaped (value_at joins p) (value_at after p) i (h p) a in
      let t = shaped (value_at joins q) (value_at after q) j (h q) b in
      indexed.apart p q x s.0 t.0 s.1 t.1 (part_shaped x i s.0 s.2 s.3 part) (part_shaped x j t.0 t.2 t.3 its);
}

set_shape : (o : Option Open) (i : ℕ) (ended : Ended) → option_map shape (option_map (with_end i ended) o) ≡ option_map shape o
set_shape None i ended = refl
set_shape (Some j) i ended = ap (λ (n : ℕ). Some (j.first, n)) (length-set j.ends i (Some ended))

ended_shape : (t : Bool) (o own : Option Open) (i : ℕ) (ended : Ended) → (t ≡ true → own ≡ o) → option_map shape (cond t (option_map (with_end i ended) own) o) ≡ option_map shape o
ended_shape true o own i ended h = ap (λ (w : Option Open). option_map shape (option_map (with_end i ended) w)) (h refl) ∙ set_shape o i ended
ended_shape false o own i ended h = refl

pub indexed_ended : (joins after : List (ℕ × Open)) (parents : List (ℕ × ℕ)) (parent i : ℕ) (ended : Ended) → Puts joins after parent (option_map (with_end i ended) (value_at joins parent)) → AreIndexed joins parents → AreIndexed after parents
indexed_ended joins after parents parent i ended puts indexed = indexed_shaped joins after parents
    (λ p. ap (option_map shape) (puts p) ∙ ended_shape (parent == p) (value_at joins p) (value_at joins parent) i ended (λ t. ap (value_at joins) (eqb-true parent p t)))
    indexed

last_by : (joins : List (ℕ × Open)) (parents : List (ℕ × ℕ)) (number : ℕ) (part : IsOpenPart number joins) → AreIndexed joins parents → (last : Option (ℕ × ℕ)) → IsLastUpTo number parents last
    → part.join.first ≤ number → number < part.join.first + length part.join.ends → value_at parents part.join.first ≡ Some part.parent → last ≡ Some (part.join.first, part.parent)
last_by joins parents number part indexed None found low high told = absurd (none-some part.parent (sym (found part.join.first low) ∙ told))
last_by joins parents number part indexed (Some e) found low high told =
    let reach : part.join.first ≤ e.0 = found.2 part.join.first part.parent told low in
    let up : e.0 ≤ number = found.1 in
    let within : e.0 < part.join.first + length part.join.ends = omega arith in
    let o = begins_some e.0 (value_at joins e.1) (indexed.begins e.0 e.1 found.0) in
    let same : part.parent ≡ e.1 = indexed.apart part.parent e.1 e.0 part.join o.0 part.opened o.1 (reach, within) (first_part o.0 e.0 o.2 o.3) in
    let join : part.join ≡ o.0 = same_Some part.join o.0 (sym part.opened ∙ ap (value_at joins) same ∙ o.1) in
    let begin : e.0 ≡ part.join.first = sym o.2 ∙ ap (λ (j : Open). j.first) (sym join) in
    ap (λ (f : ℕ). Some (f, e.1)) begin ∙ ap (λ (q : ℕ). Some (part.join.first, q)) (sym same)

-- the last number at which parts begin, not above that of an open part, is where its join's parts begin
pub last_found : (joins : List (ℕ × Open)) (parents : List (ℕ × ℕ)) (number : ℕ) (part : IsOpenPart number joins) → AreIndexed joins parents → (last : Option (ℕ × ℕ)) → IsLastUpTo number parents last
    → last ≡ Some (part.join.first, part.parent)
last_found joins parents number part indexed last found =
    let low : part.join.first ≤ number = part.part.0 in
    let high : number < part.join.first + length part.join.ends = part.part.1 in
    let some : 0 < length part.join.ends = omega arith in
    last_by joins parents number part indexed last found low high (indexed.told part.parent part.join part.opened some)

-- where the parts of an open part's join begin, and whose they are
whose : (joins : List (ℕ × Open)) (parents : List (ℕ × ℕ)) (number : ℕ) (part : IsOpenPart number joins) → AreIndexed joins parents → (e : ℕ × ℕ) → IsLastUpTo number parents (Some e) → e ≡ (part.join.first, part.parent)
whose joins parents number part indexed e found = same_Some e (part.join.first, part.parent) (last_found joins parents number part indexed (Some e) found)

pub part_unended : (joins : List (ℕ × Open)) (parents : List (ℕ × ℕ)) (number : ℕ) (part : IsOpenPart number joins) → AreIndexed joins parents → (e : ℕ × ℕ) → IsLastUpTo number parents (Some e)
    → IsUnended (number - e.0) (value_at joins e.1)
part_unended joins parents number part indexed e found =
    subst (λ (f : ℕ × ℕ). IsUnended (number - f.0) (value_at joins f.1)) (sym (whose joins parents number part indexed e found))
    (subst (IsUnended (number - part.join.first)) (sym part.opened) part.unended)

pub stands_part : (calls : List Call) (joins after : List (ℕ × Open)) (parents : List (ℕ × ℕ)) (number : ℕ) (ended : Ended) (part : IsOpenPart number joins) → AreIndexed joins parents → (e : ℕ × ℕ) → IsLastUpTo number parents (Some e)
    → Puts joins after e.1 (option_map (with_end (number - e.0) ended) (value_at joins e.1)) → Stands calls joins → Stands (PartEnded number ended ∷ calls) after
stands_part calls joins after parents number ended part indexed e found puts stands =
    stands_ended calls joins after parents number ended part indexed
    (subst (λ (o : Option Open). Puts joins after part.parent (option_map (with_end (number - part.join.first) ended) o)) part.opened
    (subst (λ (f : ℕ × ℕ). Puts joins after f.1 (option_map (with_end (number - f.0) ended) (value_at joins f.1))) (whose joins parents number part indexed e found) puts))
    stands

-- ---- a join is closed

module _ (joins after : List (ℕ × Open)) (parents less : List (ℕ × ℕ)) (parent : ℕ) (join : Open) (opened : value_at joins parent ≡ Some join) (puts : Puts joins after parent None)
    (unindexes : Unindexes parents less join.first (length join.ends)) (indexed : AreIndexed joins parents) where
  old_by : (p : ℕ) (j : Open) → ((((parent == p) ≡ true) × (None ≡ Some j)) ⊎ (((parent == p) ≡ false) × (value_at joins p ≡ Some j))) → ((parent == p) ≡ false) × (value_at joins p ≡ Some j)
  old_by p j (inl h) = absurd (none-some j h.1)
  old_by p j (inr h) = h

  -- who has a join has had it, and is another
  old : (p : ℕ) (j : Open) → value_at after p ≡ Some j → ((parent == p) ≡ false) × (value_at joins p ≡ Some j)
  old p j at = old_by p j (put_cases (parent == p) None (value_at joins p) j (sym (puts p) ∙ at))

  told_taken : (p : ℕ) (j : Open) → value_at after p ≡ Some j → 0 < length j.ends → value_at less j.first ≡ Some p
  told_taken p j at some =
      let h = old p j at in
      unindexes j.first
      ∙ ap (λ (b : Bool). cond b None (value_at parents j.first)) (not_beginning (length join.ends) join.first j.first (λ has same.
      eqb-false parent p h.0 (indexed.apart parent p j.first join j opened h.1 (first_part join j.first same has) (first_part j j.first refl some))))
      ∙ indexed.told p j h.1 some

  -- it isn't the join that was closed whose parts begin there
  begins_other : (x p : ℕ) → is_beginning (length join.ends) join.first x ≡ false → BeginsAt x (value_at joins p) → BeginsAt x (value_at after p)
  begins_other x p ne begins =
      elim (cases_Bool (parent == p)) [
        | inl t ↦ let b : BeginsAt x (Some join) = subst (BeginsAt x) (ap (value_at joins) (sym (eqb-true parent p t)) ∙ opened) begins in
            absurd (both_ways (is_beginning (length join.ends) join.first x) ne (beginning (length join.ends) join.first x b.1 b.0))
        | inr f ↦ subst (BeginsAt x) (sym (kept joins after parent p None puts f)) begins
      ]

  begins_by_taken : (x p : ℕ) → (((is_beginning (length join.ends) join.first x ≡ true) × (None ≡ Some p)) ⊎ ((is_beginning (length join.ends) join.first x ≡ false) × (value_at parents x ≡ Some p))) → BeginsAt x (value_at after p)
  begins_by_taken x p (inl h) = absurd (none-some p h.1)
  begins_by_taken x p (inr h) = begins_other x p h.0 (indexed.begins x p h.1)

  begins_taken : (x p : ℕ) → value_at less x ≡ Some p → BeginsAt x (value_at after p)
  begins_taken x p e = begins_by_taken x p (put_cases (is_beginning (length join.ends) join.first x) None (value_at parents x) p (sym (unindexes x) ∙ e))

  pub indexed_taken : AreIndexed after less
  indexed_taken = record {
    told = told_taken;
    begins = begins_taken;
    apart = λ p q x i j a b part its. indexed.apart p q x i j (old p i a).1 (old q j b).1 part its;
  }

-- ---- no join is open

pub indexed_new : (joins : List (ℕ × Open)) (parents : List (ℕ × ℕ)) → joins ≡ [] → parents ≡ [] → AreIndexed joins parents
indexed_new joins parents j p = record {
  told = λ q join at some. absurd (none-some join (ap (λ (es : List (ℕ × Open)). value_at es q) (sym j) ∙ at));
  begins = λ x q e. absurd (none-some q (ap (λ (es : List (ℕ × ℕ)). value_at es x) (sym p) ∙ e));
  apart = λ a b x join other at other_at part its. absurd (none-some join (ap (λ (es : List (ℕ × Open)). value_at es a) (sym j) ∙ at));
}
