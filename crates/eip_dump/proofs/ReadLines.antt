-- The lines of a dump, as they are read one by one.
use Rattle.std.proofs.Common.{◌≡◌, ℕ, ◌+◌, ◌*◌, ◌^◌, ◌<◌, ◌≤◌, List, [], ◌∷◌, ◌++◌, length, reverse, Option, Some, None, refl, sym, ap, subst, ◌∙◌, append_assoc, length-append, inl, inr, arith}
use Rattle.std.specs.Prelude.{◌⊎◌}
use Rattle.std.proofs.lemmas.Grind.{flat_map-append}
use mathlib.Core.List.{reverse-cons}
use Rattle.std.proofs.lemmas.Bool.{cases_lt}
use Rattle.std.proofs.lemmas.List.{append-nil}
use Rattle.eip_ledger.specs.View.{JournalView}
use Rattle.eip_ledger.specs.declared.entry.Entry.{Entry}
use Rattle.eip_ledger.specs.declared.entry.Kind.{Kind}
use Rattle.eip_ledger.specs.declared.entry.Kind.TheVariants as kind
use Rattle.eip_dump.specs.declared.fault.DumpFault.TheVariants as fault
use Rattle.eip_dump.specs.declared.first_line.First.{First}
use Rattle.eip_dump.specs.Lines.{kind_word, entry_text}
use Rattle.eip_dump.specs.Kept.{IsEntry}
use Rattle.eip_dump.specs.Dump.{first_text, IsFirst, lines, first_of, old_text, dump_text, AreEntries, HasRoom, IsMissing, IsWithinCount, HasNoEntry, IsDumpOf, TakesAll}

-- ---- a line is not empty

some_word : (k : Kind) → 1 ≤ length (kind_word k)
some_word (kind.Pull s) = omega arith
some_word (kind.Accept s item m) = omega arith
some_word (kind.Refuse s item cause) = omega arith
some_word (kind.SourceEnd s) = omega arith
some_word (kind.SourceFault s) = omega arith
some_word (kind.Start q x) = omega arith
some_word (kind.Take x) = omega arith
some_word (kind.Answer x a) = omega arith
some_word (kind.Tick t) = omega arith
some_word kind.Force = omega arith
some_word (kind.Starve x) = omega arith
some_word (kind.Return x) = omega arith

some_text : (e : Entry) → 2 ≤ length (entry_text e)
unfolding entry_text
some_text e =
    let word = some_word e.kind in
    simp length-append (omega (arith, word))

pub no_entry_in_nothing : (bs : List ℕ) → bs ≡ [] → HasNoEntry bs
no_entry_in_nothing bs empty e rest i line =
    let all : length (entry_text e) + length rest ≡ 0 = sym (length-append (entry_text e) rest) ∙ ap length (sym line ∙ empty) in
    absurd (omega (arith, all, some_text e))

-- ---- one more line

lines_more : (es : List Entry) (e : Entry) → lines (es ++ e ∷ []) ≡ lines es ++ entry_text e
lines_more es e = flat_map-append entry_text es (e ∷ []) ∙ ap (λ (t : List ℕ). lines es ++ t) (append-nil (entry_text e))

entries_more : (es : List Entry) (e : Entry) → AreEntries es → IsEntry e → AreEntries (es ++ e ∷ [])
entries_more [] e a i = (i, tt)
entries_more (f ∷ es) e a i = (a.0, entries_more es e a.1 i)

-- the entries so far, the newest first, and what stands behind them
pub record SoFar (count : Option ℕ) (past : List Entry) (bs rest : List ℕ) (n : ℕ) : Type 0 where
  pub whole : bs ≡ lines (reverse past) ++ rest
  pub entries : AreEntries (reverse past)
  pub number : n ≡ length past
  pub within : IsWithinCount count n
  pub room : 2 * n + length rest ≤ length bs

none_yet : (count : Option ℕ) → IsWithinCount count 0
none_yet None = tt
none_yet (Some c) = omega arith

pub so_far_none : (count : Option ℕ) (past : List Entry) (bs : List ℕ) → past ≡ [] → SoFar count past bs bs 0
so_far_none count past bs h = record {
  whole = rw h refl;
  entries = rw h tt;
  number = rw h refl;
  within = none_yet count;
  room = omega arith;
}

one_within : (count : Option ℕ) (n : ℕ) → HasRoom count n → IsWithinCount count (n + 1)
one_within None n h = tt
one_within (Some c) n h = omega (arith, h)

-- the next entry
pub so_far_more : (count : Option ℕ) (past : List Entry) (bs rest more : List ℕ) (n : ℕ) (e : Entry) → SoFar count past bs rest n → HasRoom count n × IsEntry e × (rest ≡ entry_text e ++ more) → SoFar count (e ∷ past) bs more (n + 1)
so_far_more count old bs rest more n e s h =
    let past : reverse (e ∷ old) ≡ reverse old ++ e ∷ [] = reverse-cons e old in
    let text : lines (reverse (e ∷ old)) ≡ lines (reverse old) ++ entry_text e = ap lines past ∙ lines_more (reverse old) e in
    let size : length rest ≡ length (entry_text e) + length more = ap length h.2 ∙ length-append (entry_text e) more in
    record {
      whole = s.whole ∙ ap (λ (r : List ℕ). lines (reverse old) ++ r) h.2 ∙ sym (append_assoc (lines (reverse old)) (entry_text e) more) ∙ ap (λ (x : List ℕ). x ++ more) (sym text);
      entries = subst AreEntries (sym past) (entries_more (reverse old) e s.entries h.1);
      number = ap (λ (k : ℕ). k + 1) s.number ∙ omega arith;
      within = one_within count n h.0;
      room = omega (arith, s.room, size, some_text e);
    }

-- what stands behind a line that was read is shorter
pub shorter : (rest more : List ℕ) (e : Entry) → rest ≡ entry_text e ++ more → length more < length rest
shorter rest more e h =
    let size : length rest ≡ length (entry_text e) + length more = ap length h ∙ length-append (entry_text e) more in
    omega (arith, size, some_text e)

-- ---- all lines

pub all_lines : (count : Option ℕ) (old new : JournalView) (bs rest : List ℕ) (n : ℕ) → n < 2 ^ 64 → SoFar count new.past bs rest n → (rest ≡ []) × (IsMissing count n → ⊥) → new.workers ≡ old.workers → new.turns ≡ old.turns → TakesAll count old new bs
all_lines count old new bs rest n fits s last workers turns = record {
  whole = s.whole ∙ ap (λ (r : List ℕ). lines (reverse new.past) ++ r) last.0 ∙ append-nil (lines (reverse new.past));
  entries = s.entries;
  countable = subst (λ (k : ℕ). k < 2 ^ 64) s.number fits;
  counted = (λ missing. last.1 (subst (IsMissing count) (sym s.number) missing), subst (IsWithinCount count) s.number s.within);
  workers = workers;
  turns = turns;
}

-- ---- the text of a journal

same_first : (f : First) (w t : ℕ) (n : Option ℕ) → f.workers ≡ w → f.turns ≡ t → f.count ≡ n → f ≡ record { workers = w; turns = t; count = n }
same_first f w t n a b c = rw (sym a, sym b, sym c) refl

is_text_by : (n : Option ℕ) (f : First) (j : JournalView) (bs rest : List ℕ) → f.count ≡ n → f.workers ≡ j.workers → f.turns ≡ j.turns → bs ≡ first_text f ++ rest → rest ≡ lines (reverse j.past)
    → (IsMissing n (length j.past) → ⊥) × IsWithinCount n (length j.past) → (bs ≡ old_text j) ⊎ (bs ≡ dump_text j)
unfolding old_text dump_text
is_text_by None f j bs rest e w t whole text counted =
    inl (whole ∙ ap (λ (x : First). first_text x ++ rest) (same_first f j.workers j.turns None w t e) ∙ ap (λ (r : List ℕ). first_text (first_of None j) ++ r) text)
is_text_by (Some c) f j bs rest e w t whole text counted =
    let all : c ≡ length j.past = elim (cases_lt (length j.past) c) [
      | inl less ↦ absurd (counted.0 less)
      | inr more ↦ omega (arith, more, counted.1)
    ] in
    inr (whole ∙ ap (λ (x : First). first_text x ++ rest) (same_first f j.workers j.turns (Some (length j.past)) w t (e ∙ ap Some all)) ∙ ap (λ (r : List ℕ). first_text (first_of (Some (length j.past)) j) ++ r) text)

pub dump_read : (f : First) (old new : JournalView) (bs rest : List ℕ) → bs ≡ first_text f ++ rest → IsFirst f → old.workers ≡ f.workers → old.turns ≡ f.turns → TakesAll f.count old new rest → IsDumpOf bs new
dump_read f old new bs rest whole i w t all =
    let workers : f.workers ≡ new.workers = sym w ∙ sym all.workers in
    let turns : f.turns ≡ new.turns = sym t ∙ sym all.turns in
    record {
      is_text = is_text_by f.count f new bs rest refl workers turns whole all.whole all.counted;
      limits = rw (sym workers, sym turns) i.limits;
      entries = all.entries;
      countable = all.countable;
    }
