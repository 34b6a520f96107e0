-- A text is that of one journal at most, and then no line of it is bad.
use Rattle.std.proofs.Common.{◌≡◌, ℕ, suc, ◌+◌, ◌^◌, ◌<◌, List, [], ◌∷◌, ◌++◌, length, reverse, Option, Some, None, refl, sym, ap, subst, ◌∙◌, append_assoc, length-append, inl, inr, arith}
use Rattle.std.specs.Prelude.{◌⊎◌}
use Rattle.std.proofs.lemmas.List.{append-nil, length-reverse, reverse-reverse}
use Rattle.std.proofs.lemmas.List.Concat.{flat_map-cons}
use Rattle.std.proofs.lemmas.Option.{some_pair_parts}
use Rattle.eip_ledger.specs.View.{JournalView}
use Rattle.eip_ledger.specs.declared.entry.Entry.{Entry}
use Rattle.eip_dump.specs.declared.first_line.First.{First}
use Rattle.eip_dump.specs.Lines.{entry_text}
use Rattle.eip_dump.specs.Kept.{IsEntry}
use Rattle.eip_dump.specs.Reading.{entry_front}
use Rattle.eip_dump.specs.Dump.{first_text, HasLimits, IsFirst, lines, first_of, old_text, dump_text, AreEntries, HasRoom, IsMissing, IsBadLine, IsDumpOf, first_front}
use Rattle.eip_dump.proofs.AgainEntries.{front_again}
use Rattle.eip_dump.proofs.AgainDumps.{first_again}
use Rattle.eip_dump.proofs.ReadLines.{no_entry_in_nothing}

-- two entries with one text in front are the same, and the rest is the same
one_front : (e f : Entry) (x y : List ℕ) → IsEntry e → IsEntry f → entry_text e ++ x ≡ entry_text f ++ y → (e ≡ f) × (x ≡ y)
one_front e f x y i j h = some_pair_parts e f x y (sym (front_again e x i) ∙ ap entry_front h ∙ front_again f y j)

pub one_entry : (e f : Entry) → IsEntry e → IsEntry f → entry_text e ≡ entry_text f → e ≡ f
one_entry e f i j h = (one_front e f [] [] i j (ap (λ (t : List ℕ). t ++ []) h)).0

one_first : (f g : First) (x y : List ℕ) → IsFirst f → IsFirst g → first_text f ++ x ≡ first_text g ++ y → (f ≡ g) × (x ≡ y)
one_first f g x y i j h = some_pair_parts f g x y (sym (first_again f x i) ∙ ap first_front h ∙ first_again g y j)

line_of : (e : Entry) (es : List Entry) (rest : List ℕ) → lines (e ∷ es) ++ rest ≡ entry_text e ++ (lines es ++ rest)
line_of e es rest = ap (λ (t : List ℕ). t ++ rest) (flat_map-cons entry_text e es) ∙ append_assoc (entry_text e) (lines es) rest

-- entries whose lines begin with those of others begin with these
record Split (es fs : List Entry) (rest : List ℕ) : Type 0 where
  pub more : List Entry
  pub all : es ≡ fs ++ more
  pub text : rest ≡ lines more
  pub entries : AreEntries more

split : (es fs : List Entry) (rest : List ℕ) → AreEntries es → AreEntries fs → lines es ≡ lines fs ++ rest → Split es fs rest
split es [] rest a b h = record { more = es; all = refl; text = sym h; entries = a }
split [] (f ∷ fs) rest a b h = absurd (no_entry_in_nothing [] refl f (lines fs ++ rest) b.0 (h ∙ line_of f fs rest))
split (e ∷ es) (f ∷ fs) rest a b h =
    let same = one_front e f (lines es) (lines fs ++ rest) a.0 b.0 (sym (flat_map-cons entry_text e es) ∙ h ∙ line_of f fs rest) in
    let s = split es fs rest a.1 b.1 same.1 in
    record { more = s.more; all = ap (λ (x : Entry). x ∷ es) same.0 ∙ ap (λ (xs : List Entry). f ∷ xs) s.all; text = s.text; entries = s.entries }

no_lines : (es : List Entry) → AreEntries es → [] ≡ lines es → es ≡ []
no_lines [] a h = refl
no_lines (e ∷ es) a h = absurd (no_entry_in_nothing [] refl e (lines es) a.0 (h ∙ flat_map-cons entry_text e es))

one_list : (es fs : List Entry) → AreEntries es → AreEntries fs → lines es ≡ lines fs → es ≡ fs
one_list es fs a b h =
    let s = split es fs [] a b (h ∙ sym (append-nil (lines fs))) in
    s.all ∙ ap (λ (xs : List Entry). fs ++ xs) (no_lines s.more s.entries s.text) ∙ append-nil fs

-- ---- the text of a journal, by its first line

record Parts (bs : List ℕ) (j : JournalView) : Type 0 where
  pub count : Option ℕ
  pub told : (count ≡ None) ⊎ (count ≡ Some (length j.past))
  pub is_first : IsFirst (first_of count j)
  pub whole : bs ≡ first_text (first_of count j) ++ lines (reverse j.past)

parts_by : (bs : List ℕ) (j : JournalView) → HasLimits j.workers j.turns → length j.past < 2 ^ 64 → (bs ≡ old_text j) ⊎ (bs ≡ dump_text j) → Parts bs j
unfolding old_text dump_text
parts_by bs j l c (inl h) = record { count = None; told = inl refl; is_first = record { limits = l; count = tt }; whole = h }
parts_by bs j l c (inr h) = record { count = Some (length j.past); told = inr refl; is_first = record { limits = l; count = c }; whole = h }

parts : (bs : List ℕ) (j : JournalView) → IsDumpOf bs j → Parts bs j
parts bs j d = parts_by bs j d.limits d.countable d.is_text

pub one_journal : (bs : List ℕ) (j k : JournalView) → IsDumpOf bs j → IsDumpOf bs k → (j.workers ≡ k.workers) × ((j.turns ≡ k.turns) × (j.past ≡ k.past))
one_journal bs j k d e =
    let p = parts bs j d in
    let q = parts bs k e in
    let same = one_first (first_of p.count j) (first_of q.count k) (lines (reverse j.past)) (lines (reverse k.past)) p.is_first q.is_first (sym p.whole ∙ q.whole) in
    let entries = one_list (reverse j.past) (reverse k.past) d.entries e.entries same.1 in
    (ap (λ (f : First). f.workers) same.0, (ap (λ (f : First). f.turns) same.0, sym (reverse-reverse j.past) ∙ ap reverse entries ∙ reverse-reverse k.past))

-- ---- no line of it is bad

rest_is_bad : (count : Option ℕ) (es fs more : List Entry) (rest : List ℕ) → (count ≡ None) ⊎ (count ≡ Some (length es)) → es ≡ fs ++ more → rest ≡ lines more → AreEntries more
    → (rest ≡ [] → IsMissing count (length fs)) → (HasRoom count (length fs) → (e : Entry) (r : List ℕ) → IsEntry e → rest ≡ entry_text e ++ r → ⊥) → ⊥
rest_is_bad None es fs [] rest t a r k missing none = missing r
rest_is_bad None es fs (e ∷ more) rest t a r k missing none = none tt e (lines more) k.0 (r ∙ flat_map-cons entry_text e more)
rest_is_bad (Some c) es fs more rest (inl t) a r k missing none = absurd cc
rest_is_bad (Some c) es fs [] rest (inr t) a r k missing none =
    let all : c ≡ length es = cc in
    let size : length es ≡ length fs = ap length (a ∙ append-nil fs) in
    let less : length fs < c = missing r in
    absurd (omega (arith, all, size, less))
rest_is_bad (Some c) es fs (e ∷ more) rest (inr t) a r k missing none =
    let all : c ≡ length es = cc in
    let size : length es ≡ length fs + suc (length more) = ap length a ∙ length-append fs (e ∷ more) in
    let less : length fs < c = omega (arith, all, size) in
    none less e (lines more) k.0 (r ∙ flat_map-cons entry_text e more)

none_bad_by : (k : ℕ) (bs : List ℕ) (j : JournalView) → IsDumpOf bs j → IsBadLine k bs → ⊥
none_bad_by k bs j d (inl b) =
    let p = parts bs j d in
    b.1 (first_of p.count j) (lines (reverse j.past)) p.is_first p.whole
none_bad_by k bs j d (inr b) =
    let p = parts bs j d in
    let same = one_first (first_of p.count j) b.first (lines (reverse j.past)) b.later p.is_first b.is_first (sym p.whole ∙ b.whole) in
    let count : b.first.count ≡ p.count = sym (ap (λ (f : First). f.count) same.0) in
    let s = split (reverse j.past) b.bad.entries b.bad.rest d.entries b.bad.are_entries (same.1 ∙ b.bad.whole) in
    let told : (p.count ≡ None) ⊎ (p.count ≡ Some (length (reverse j.past))) = subst (λ (n : ℕ). (p.count ≡ None) ⊎ (p.count ≡ Some n)) (sym (length-reverse j.past)) p.told in
    rest_is_bad p.count (reverse j.past) b.bad.entries s.more b.bad.rest told s.all s.text s.entries
    (λ empty. subst (λ (c : Option ℕ). IsMissing c (length b.bad.entries)) count (b.bad.missing empty))
    (λ room e r i line. b.bad.no_entry (subst (λ (c : Option ℕ). HasRoom c (length b.bad.entries)) (sym count) room) e r i line)

pub none_bad : (k : ℕ) (bs : List ℕ) (j : JournalView) → IsDumpOf bs j → IsBadLine k bs → ⊥
none_bad = none_bad_by
