-- Groups that are found by their keys and by the moments at which they are due.
use Rattle.std.proofs.Common.{◌≡◌, ℕ, ◌≤◌, inl, inr, Bool, true, false, cond, ◌==◌, ◌&&◌, not, List, [], Option, Some, None, option_map, refl, sym, ap, subst, ◌∙◌, eqb-true, eq-eqb, true≢false}
use Rattle.std.proofs.lemmas.Bool.{cases_Bool, and_parts}
use Rattle.std.proofs.lemmas.Option.{none-some, same_Some}
use Rattle.eip_aggregator.specs.Arrivals.{Key, same_key, Group}
use Rattle.eip_ordered.specs.Numbered.{value_at, Puts}
use Rattle.eip_aggregator.specs.Tables.{number_at, has_due, is_until, is_due_at, AreFound, IsFree, IsOf, IsLeastDue, Indexes, Times, Forgets}
use Rattle.eip_aggregator.proofs.Keys.{key_same, same_of, other_key}

-- ---- by key

is_of_by : (groups : List (ℕ × Group)) (numbers : List (Key × ℕ)) (dues : List (ℕ × ℕ)) (k : Key) (n : ℕ) → AreFound groups numbers dues → number_at numbers k ≡ Some n → IsOf groups k n
is_of_by groups numbers dues k n found e =
    let its = found.numbered k n e in
    record {
      group = its.0;
      open_group = its.1;
      keyed = its.2;
      alone = λ m g at same. same_Some m n (sym (found.keyed m g at) ∙ ap (number_at numbers) same ∙ e);
    }

pub is_of : (groups : List (ℕ × Group)) (numbers : List (Key × ℕ)) (dues : List (ℕ × ℕ)) (k : Key) (n : ℕ) → AreFound groups numbers dues → number_at numbers k ≡ Some n → IsOf groups k n
is_of groups numbers dues k n found e = is_of_by groups numbers dues k n found e

pub is_free : (groups : List (ℕ × Group)) (numbers : List (Key × ℕ)) (dues : List (ℕ × ℕ)) (k : Key) → AreFound groups numbers dues → number_at numbers k ≡ None → IsFree groups k
is_free groups numbers dues k found e = λ n g at same. none-some n (sym e ∙ ap (number_at numbers) (sym same) ∙ found.keyed n g at)

-- ---- by moment

pub until_some : (o : Option ℕ) (d : ℕ) → is_until d o ≡ true → o ≡ Some d
until_some None d h = absurd (true≢false (sym h))
until_some (Some m) d h = ap (λ (n : ℕ). Some n) (eqb-true m d h)

some_until : (o : Option ℕ) (d : ℕ) → o ≡ Some d → is_until d o ≡ true
some_until o d e = subst (λ (p : Option ℕ). is_until d p ≡ true) (sym e) (eq-eqb d d refl)

pub due_some : (o : Option Group) (d : ℕ) → is_due_at d o ≡ true → (g : Group) × (o ≡ Some g) × (g.due ≡ Some d)
due_some None d h = absurd (true≢false (sym h))
due_some (Some g) d h = (g, refl, until_some g.due d h)

pub some_due : (o : Option Group) (g : Group) (d : ℕ) → o ≡ Some g → g.due ≡ Some d → is_due_at d o ≡ true
some_due o g d e due = subst (λ (p : Option Group). is_due_at d p ≡ true) (sym e) (some_until g.due d due)

pub least_due : (groups : List (ℕ × Group)) (numbers : List (Key × ℕ)) (dues : List (ℕ × ℕ)) (k : ℕ × ℕ) → AreFound groups numbers dues → has_due dues k.0 k.1 ≡ true
    → ((d n : ℕ) → has_due dues d n ≡ true → k.0 ≤ d) → IsLeastDue groups (Some k.0)
least_due groups numbers dues k found had least =
    let its = due_some (value_at groups k.1) k.0 (sym (found.timed k.0 k.1) ∙ had) in
    ((k.1, its.0, its.1, its.2), λ n d g at due. least d n (found.timed d n ∙ some_due (value_at groups n) g d at due))

none_by : (o : Option ℕ) → ((d : ℕ) → o ≡ Some d → ⊥) → o ≡ None
none_by None h = refl
none_by (Some d) h = absurd (h d refl)

pub none_due : (groups : List (ℕ × Group)) (numbers : List (Key × ℕ)) (dues : List (ℕ × ℕ)) → AreFound groups numbers dues → dues ≡ [] → IsLeastDue groups None
none_due groups numbers dues found e = λ n g at. none_by g.due (λ d due.
    true≢false (sym (some_due (value_at groups n) g d at due) ∙ sym (found.timed d n) ∙ ap (λ (ds : List (ℕ × ℕ)). has_due ds d n) e))

-- ---- one group changed

module _ (groups after : List (ℕ × Group)) (numbers names : List (Key × ℕ)) (dues later : List (ℕ × ℕ)) (k : Key) (n : ℕ) (w : Option Group)
    (puts : Puts groups after n w)
    (indexes : (l : Key) → number_at names l ≡ cond (same_key k l) (option_map (λ (g : Group). n) w) (number_at numbers l))
    (times : (d m : ℕ) → has_due later d m ≡ cond (n == m) (is_due_at d w) (has_due dues d m))
    (keyed : (g : Group) → w ≡ Some g → g.key ≡ k)
    (own : (m : ℕ) → number_at numbers k ≡ Some m → m ≡ n)
    (its : (g : Group) → value_at groups n ≡ Some g → g.key ≡ k)
    (found : AreFound groups numbers dues) where
  puts_own : (m : ℕ) → (n == m) ≡ true → value_at after m ≡ w
  puts_own m t = puts m ∙ ap (λ (b : Bool). cond b w (value_at groups m)) t

  puts_other : (m : ℕ) → (n == m) ≡ false → value_at after m ≡ value_at groups m
  puts_other m f = puts m ∙ ap (λ (b : Bool). cond b w (value_at groups m)) f

  names_own : (l : Key) → same_key k l ≡ true → number_at names l ≡ option_map (λ (g : Group). n) w
  names_own l t = indexes l ∙ ap (λ (b : Bool). cond b (option_map (λ (g : Group). n) w) (number_at numbers l)) t

  names_other : (l : Key) → same_key k l ≡ false → number_at names l ≡ number_at numbers l
  names_other l f = indexes l ∙ ap (λ (b : Bool). cond b (option_map (λ (g : Group). n) w) (number_at numbers l)) f

  numbered_own : (o : Option Group) (l : Key) (m : ℕ) → w ≡ o → k ≡ l → option_map (λ (g : Group). n) o ≡ Some m → (g : Group) × (value_at after m ≡ Some g) × (g.key ≡ l)
  numbered_own None l m e same h = absurd (none-some m h)
  numbered_own (Some g) l m e same h = (g, puts_own m (eq-eqb n m (same_Some n m h)) ∙ e, keyed g e ∙ same)

  numbered_other : (l : Key) (m : ℕ) → same_key k l ≡ false → number_at numbers l ≡ Some m → (g : Group) × (value_at after m ≡ Some g) × (g.key ≡ l)
  numbered_other l m d h =
      let at = found.numbered l m h in
      elim (cases_Bool (n == m)) [
        | inl t ↦ absurd (other_key k l d (sym (its at.0 (ap (value_at groups) (eqb-true n m t) ∙ at.1)) ∙ at.2))
        | inr f ↦ (at.0, puts_other m f ∙ at.1, at.2)
      ]

  numbered_after : (l : Key) (m : ℕ) → number_at names l ≡ Some m → (g : Group) × (value_at after m ≡ Some g) × (g.key ≡ l)
  numbered_after l m h =
      elim (cases_Bool (same_key k l)) [
        | inl t ↦ numbered_own w l m refl (key_same k l t) (sym (names_own l t) ∙ h)
        | inr d ↦ numbered_other l m d (sym (names_other l d) ∙ h)
      ]

  keyed_own : (m : ℕ) (g : Group) → (n == m) ≡ true → w ≡ Some g → number_at names g.key ≡ Some m
  keyed_own m g t e =
      names_own g.key (same_of k g.key (sym (keyed g e)))
      ∙ ap (option_map (λ (h : Group). n)) e
      ∙ ap (λ (x : ℕ). Some x) (eqb-true n m t)

  keyed_other : (m : ℕ) (g : Group) → (n == m) ≡ false → value_at groups m ≡ Some g → number_at names g.key ≡ Some m
  keyed_other m g f e =
      elim (cases_Bool (same_key k g.key)) [
        | inl t ↦ absurd (true≢false (sym (eq-eqb n m (sym (own m (ap (number_at numbers) (key_same k g.key t) ∙ found.keyed m g e)))) ∙ f))
        | inr d ↦ names_other g.key d ∙ found.keyed m g e
      ]

  keyed_after : (m : ℕ) (g : Group) → value_at after m ≡ Some g → number_at names g.key ≡ Some m
  keyed_after m g h =
      elim (cases_Bool (n == m)) [
        | inl t ↦ keyed_own m g t (sym (puts_own m t) ∙ h)
        | inr f ↦ keyed_other m g f (sym (puts_other m f) ∙ h)
      ]

  timed_by : (t : Bool) (d m : ℕ) → has_due dues d m ≡ is_due_at d (value_at groups m) → cond t (is_due_at d w) (has_due dues d m) ≡ is_due_at d (cond t w (value_at groups m))
  timed_by true d m h = refl
  timed_by false d m h = h

  pub found_after : AreFound after names later
  found_after = record {
    numbered = numbered_after;
    keyed = keyed_after;
    timed = λ d m. times d m ∙ timed_by (n == m) d m (found.timed d m) ∙ ap (is_due_at d) (sym (puts m));
  }

-- ---- the moments of one group

-- it has been added, and then the old one taken out, unless it is the same
moved_by : (same new old had : Bool) → (same ≡ true → had ≡ old) → cond ((old && not new) && same) false (cond (new && same) true had) ≡ cond same new had
moved_by true true true had h = refl
moved_by true true false had h = refl
moved_by true false true had h = refl
moved_by true false false had h = h refl
moved_by false true true had h = refl
moved_by false true false had h = refl
moved_by false false true had h = refl
moved_by false false false had h = refl

added_by : (same new had : Bool) → (same ≡ true → had ≡ true → new ≡ true) → cond (new && same) true had ≡ cond same new had
added_by true true had h = refl
added_by true false true h = absurd (true≢false (sym (h refl refl)))
added_by true false false h = refl
added_by false true had h = refl
added_by false false had h = refl

removed_by : (same old had : Bool) → (same ≡ true → had ≡ old) → cond (old && same) false had ≡ cond same false had
removed_by true true had h = refl
removed_by true false had h = h refl
removed_by false true had h = refl
removed_by false false had h = refl

both_until : (o p : Option ℕ) (d : ℕ) → (o ≡ p → ⊥) → is_until d o ≡ true → is_until d p ≡ true → ⊥
both_until o p d h a b = h (until_some o d a ∙ sym (until_some p d b))

until_by : (a b : Bool) → (a ≡ true → b ≡ true → ⊥) → (a && not b) ≡ a
until_by true true h = absurd (h refl refl)
until_by true false h = refl
until_by false b h = refl

-- the moment of the group at n
had_by : (groups : List (ℕ × Group)) (numbers : List (Key × ℕ)) (dues : List (ℕ × ℕ)) (n d m : ℕ) (o : Option Group) → AreFound groups numbers dues → value_at groups n ≡ o → (n == m) ≡ true → has_due dues d m ≡ is_due_at d o
had_by groups numbers dues n d m o found e t =
    found.timed d m ∙ ap (λ (x : ℕ). is_due_at d (value_at groups x)) (sym (eqb-true n m t)) ∙ ap (is_due_at d) e

-- a group whose moment may have changed
pub moved : (groups : List (ℕ × Group)) (numbers : List (Key × ℕ)) (dues more later : List (ℕ × ℕ)) (n : ℕ) (old new : Group) → AreFound groups numbers dues → value_at groups n ≡ Some old
    → Times dues more new.due n true → Forgets more later old.due new.due n → (d m : ℕ) → has_due later d m ≡ cond (n == m) (is_due_at d (Some new)) (has_due dues d m)
moved groups numbers dues more later n old new found e add forget d m =
    forget d m
    ∙ ap (λ (b : Bool). cond ((is_until d old.due && not (is_until d new.due)) && (n == m)) false b) (add d m)
    ∙ moved_by (n == m) (is_until d new.due) (is_until d old.due) (has_due dues d m) (had_by groups numbers dues n d m (Some old) found e)

until_both : (o p : Option ℕ) (d : ℕ) → (o ≡ p → ⊥) → (is_until d o && not (is_until d p)) ≡ is_until d o
until_both o p d h = until_by (is_until d o) (is_until d p) (both_until o p d h)

pub forgets : (old new : List (ℕ × ℕ)) (was is : Option ℕ) (n : ℕ) → (was ≡ is → ⊥) → Times old new was n false → Forgets old new was is n
forgets old new was is n apart times d m =
    times d m ∙ ap (λ (b : Bool). cond (b && (n == m)) false (has_due old d m)) (sym (until_both was is d apart))

not_both : (a c had : Bool) → had ≡ cond ((a && not a) && c) false had
not_both true c had = refl
not_both false c had = refl

pub forgets_none : (dues : List (ℕ × ℕ)) (was is : Option ℕ) (n : ℕ) → was ≡ is → Forgets dues dues was is n
forgets_none dues was is n same d m =
    not_both (is_until d was) (n == m) (has_due dues d m)
    ∙ ap (λ (o : Option ℕ). cond ((is_until d was && not (is_until d o)) && (n == m)) false (has_due dues d m)) same

-- a new group's moment
pub timed_new : (groups : List (ℕ × Group)) (numbers : List (Key × ℕ)) (dues more : List (ℕ × ℕ)) (n : ℕ) (new : Group) → AreFound groups numbers dues → value_at groups n ≡ None
    → Times dues more new.due n true → (d m : ℕ) → has_due more d m ≡ cond (n == m) (is_due_at d (Some new)) (has_due dues d m)
timed_new groups numbers dues more n new found e add d m =
    add d m
    ∙ added_by (n == m) (is_until d new.due) (has_due dues d m) (λ t had. absurd (true≢false (sym had ∙ had_by groups numbers dues n d m None found e t)))

-- a group that is open no more
pub timed_none : (groups : List (ℕ × Group)) (numbers : List (Key × ℕ)) (dues later : List (ℕ × ℕ)) (n : ℕ) (old : Group) → AreFound groups numbers dues → value_at groups n ≡ Some old
    → Times dues later old.due n false → (d m : ℕ) → has_due later d m ≡ cond (n == m) (is_due_at d None) (has_due dues d m)
timed_none groups numbers dues later n old found e remove d m =
    remove d m
    ∙ removed_by (n == m) (is_until d old.due) (has_due dues d m) (had_by groups numbers dues n d m (Some old) found e)

-- a moment that was added and taken out again
undone_by : (at had : Bool) → (at ≡ true → had ≡ false) → cond at false (cond at true had) ≡ had
undone_by true had h = sym (h refl)
undone_by false had h = refl

pub undone : (groups : List (ℕ × Group)) (numbers : List (Key × ℕ)) (dues more later : List (ℕ × ℕ)) (n : ℕ) (due : Option ℕ) → AreFound groups numbers dues → value_at groups n ≡ None
    → Times dues more due n true → Times more later due n false → AreFound groups numbers later
undone groups numbers dues more later n due found e add remove = record {
  numbered = found.numbered;
  keyed = found.keyed;
  timed = λ d m.
      remove d m
      ∙ ap (λ (b : Bool). cond (is_until d due && (n == m)) false b) (add d m)
      ∙ undone_by (is_until d due && (n == m)) (has_due dues d m) (λ t. had_by groups numbers dues n d m None found e (and_parts (is_until d due) (n == m) t).1)
      ∙ found.timed d m;
}

-- it was to be changed and stays: the new moment is taken out again, unless it is the old one
back_by : (same new old had : Bool) → (same ≡ true → had ≡ old) → cond ((new && not old) && same) false (cond (new && same) true had) ≡ had
back_by true true true had h = sym (h refl)
back_by true true false had h = sym (h refl)
back_by true false old had h = refl
back_by false true true had h = refl
back_by false true false had h = refl
back_by false false old had h = refl

pub moved_back : (groups : List (ℕ × Group)) (numbers : List (Key × ℕ)) (dues more later : List (ℕ × ℕ)) (n : ℕ) (old : Group) (due : Option ℕ) → AreFound groups numbers dues → value_at groups n ≡ Some old
    → Times dues more due n true → Forgets more later due old.due n → AreFound groups numbers later
moved_back groups numbers dues more later n old due found e add forget = record {
  numbered = found.numbered;
  keyed = found.keyed;
  timed = λ d m.
      forget d m
      ∙ ap (λ (b : Bool). cond ((is_until d due && not (is_until d old.due)) && (n == m)) false b) (add d m)
      ∙ back_by (n == m) (is_until d due) (is_until d old.due) (has_due dues d m) (had_by groups numbers dues n d m (Some old) found e)
      ∙ found.timed d m;
}

-- the same names, where the key's group stays at its number
pub renamed : (numbers : List (Key × ℕ)) (k : Key) (n : ℕ) (g : Group) → number_at numbers k ≡ Some n → (l : Key) → number_at numbers l ≡ cond (same_key k l) (option_map (λ (h : Group). n) (Some g)) (number_at numbers l)
renamed numbers k n g e l = elim (cases_Bool (same_key k l)) [
  | inl t ↦ ap (number_at numbers) (sym (key_same k l t)) ∙ e ∙ sym (ap (λ (b : Bool). cond b (Some n) (number_at numbers l)) t)
  | inr f ↦ sym (ap (λ (b : Bool). cond b (Some n) (number_at numbers l)) f)
]

pub found_none : (groups : List (ℕ × Group)) (numbers : List (Key × ℕ)) (dues : List (ℕ × ℕ)) → groups ≡ [] → numbers ≡ [] → dues ≡ [] → AreFound groups numbers dues
found_none groups numbers dues g k d = record {
  numbered = λ l n e. absurd (none-some n (ap (λ (es : List (Key × ℕ)). number_at es l) (sym k) ∙ e));
  keyed = λ n h e. absurd (none-some h (ap (λ (es : List (ℕ × Group)). value_at es n) (sym g) ∙ e));
  timed = λ m n. ap (λ (es : List (ℕ × ℕ)). has_due es m n) d ∙ ap (λ (es : List (ℕ × Group)). is_due_at m (value_at es n)) (sym g);
}

-- a new group is open
pub opened_new : (groups after : List (ℕ × Group)) (numbers roomy names : List (Key × ℕ)) (dues later : List (ℕ × ℕ)) (k : Key) (n : ℕ) (g : Group) (due : Option ℕ)
    → Puts groups after n (Some g) → roomy ≡ numbers → Indexes roomy names k (Some n) → Times dues later due n true
    → g.key ≡ k → due ≡ g.due → value_at groups n ≡ None → IsFree groups g.key → AreFound groups numbers dues → AreFound after names later
opened_new groups after numbers roomy names dues later k n g due puts same indexes times key is none free found =
    found_after groups after numbers names dues later k n (Some g) puts
    (λ l. indexes l ∙ ap (λ (es : List (Key × ℕ)). cond (same_key k l) (Some n) (number_at es l)) same)
    (timed_new groups numbers dues later n g found none (subst (λ (o : Option ℕ). Times dues later o n true) is times))
    (λ h e. ap (λ (x : Group). x.key) (sym (same_Some g h e)) ∙ key)
    (λ m e. let at = found.numbered k m e in absurd (free m at.0 at.1 (at.2 ∙ sym key)))
    (λ h e. absurd (none-some h (sym none ∙ e)))
    found

-- a group is another of its key
pub replaced_one : (groups after : List (ℕ × Group)) (numbers : List (Key × ℕ)) (dues more later : List (ℕ × ℕ)) (n : ℕ) (old g : Group) → IsOf groups g.key n → value_at groups n ≡ Some old → Puts groups after n (Some g)
    → Times dues more g.due n true → Forgets more later old.due g.due n → AreFound groups numbers dues → AreFound after numbers later
replaced_one groups after numbers dues more later n old g own at puts add forget found =
    let its_key : own.group.key ≡ g.key = own.keyed in
    let number : number_at numbers g.key ≡ Some n = ap (number_at numbers) (sym its_key) ∙ found.keyed n own.group own.open_group in
    found_after groups after numbers numbers dues later g.key n (Some g) puts
    (renamed numbers g.key n g number)
    (moved groups numbers dues more later n old g found at add forget)
    (λ h e. ap (λ (x : Group). x.key) (sym (same_Some g h e)))
    (λ m e. same_Some m n (sym e ∙ number))
    (λ h e. ap (λ (x : Group). x.key) (same_Some h own.group (sym e ∙ own.open_group)) ∙ its_key)
    found

-- a group is closed
pub closed_one : (groups after : List (ℕ × Group)) (numbers names : List (Key × ℕ)) (dues later : List (ℕ × ℕ)) (n : ℕ) (g : Group) → value_at groups n ≡ Some g → Puts groups after n None
    → Indexes numbers names g.key None → Times dues later g.due n false → AreFound groups numbers dues → AreFound after names later
closed_one groups after numbers names dues later n g at puts indexes times found =
    found_after groups after numbers names dues later g.key n None puts indexes
    (timed_none groups numbers dues later n g found at times)
    (λ h e. absurd (none-some h e))
    (λ m e. same_Some m n (sym e ∙ found.keyed n g at))
    (λ h e. ap (λ (x : Group). x.key) (same_Some h g (sym e ∙ at)))
    found

pub own_of : (groups : List (ℕ × Group)) (numbers : List (Key × ℕ)) (dues : List (ℕ × ℕ)) (n : ℕ) (old : Group) (k : Key) → AreFound groups numbers dues → value_at groups n ≡ Some old → old.key ≡ k → IsOf groups k n
own_of groups numbers dues n old k found at e = record {
  group = old;
  open_group = at;
  keyed = e;
  alone = λ m h there same. same_Some m n (sym (found.keyed m h there) ∙ ap (number_at numbers) (same ∙ sym e) ∙ found.keyed n old at);
}
