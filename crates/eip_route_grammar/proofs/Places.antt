-- Predicates that were read, by their places.
use Rattle.std.proofs.Common.{ℕ, zero, suc, ◌<◌, ◌≤◌, ◌≡◌, Bool, true, false, cond, List, [], ◌∷◌, ◌++◌, length, get_or, set, Option, None, Some, Ok, refl, sym, ap, ◌∙◌, subst, bytes_eq, arith}
use Rattle.std.proofs.lemmas.List.{get_or_past}
use Rattle.std.specs.Prelude.{All}
use Rattle.std.specs.Option.{IfSome, IfNone}
use Rattle.std.proofs.lemmas.Slice.Eq.{bytes_eq-Decides}
use Rattle.eip_simple_read.specs.declared.tree.Predicate.{Predicate}
use Rattle.eip_simple_read.specs.Meaning.{predicate_of}
use Rattle.eip_simple_read.specs.Reading.{HasGoodPattern}
use Rattle.eip_route_grammar.specs.Known.{IsRead, AreRead, IsWithoutOne, predicate_in, first_read, kept, has_text}
use Rattle.eip_route_grammar.specs.declared.known.Entry.{Entry}

abbrev pub Places : Type 0
Places = List (Option Entry)

-- ---- behind the others

pub kept_behind : (ps : Places) (e : Entry) → kept (ps ++ Some e ∷ []) ≡ kept ps ++ e ∷ []
kept_behind [] e = refl
kept_behind (None ∷ ps) e = kept_behind ps e
kept_behind (Some d ∷ ps) e = ap (λ (es : List Entry). d ∷ es) (kept_behind ps e)

pub reads_behind : (es : List Entry) (e : Entry) → AreRead es → IsRead e → AreRead (es ++ e ∷ [])
reads_behind [] e p q = (q, tt)
reads_behind (d ∷ es) e p q = (p.0, reads_behind es e p.1 q)

-- ---- the text at a place

pub none_behind : (w : List ℕ) (ps : Places) (i : ℕ) → length ps ≤ i → has_text w (get_or ps i None) ≡ false
none_behind w ps i h = ap (has_text w) (get_or_past ps i None h)

pub place_within : (w : List ℕ) (ps : Places) (i : ℕ) → has_text w (get_or ps i None) ≡ true → i < length ps
place_within w [] i h = absurd cc
place_within w (p ∷ ps) zero h = omega arith
place_within w (p ∷ ps) (suc i) h = (let q = place_within w ps i h in omega arith)

-- no entry of the text stands from one place up to another
abbrev pub NoneFrom : List ℕ → Places → ℕ → ℕ → Type 0
NoneFrom w ps low high = (i : ℕ) → low ≤ i → i < high → has_text w (get_or ps i None) ≡ false

-- ---- the first of a text

first_by : (w : List ℕ) (p : Option Entry) (ps : Places) → has_text w p ≡ false → first_read w (kept ps) ≡ None → first_read w (kept (p ∷ ps)) ≡ None
first_by w None ps h later = later
first_by w (Some e) ps h later = ap (λ (t : Bool). cond t (Some e.predicate) (first_read w (kept ps))) h ∙ later

pub none_read : (w : List ℕ) (ps : Places) → ((i : ℕ) → has_text w (get_or ps i None) ≡ false) → first_read w (kept ps) ≡ None
none_read w [] h = refl
none_read w (p ∷ ps) h = first_by w p ps (h zero) (none_read w ps (λ i. h (suc i)))

same_by : (t : Bool) (w : List ℕ) (d e : Entry) (es : List Entry) → bytes_eq d.text w ≡ t → IsRead d → IsRead e → e.text ≡ w → first_read w es ≡ Some e.predicate → cond t (Some d.predicate) (first_read w es) ≡ Some e.predicate
same_by true w d e es same one other text h =
    let texts = (bytes_eq-Decides d.text w).0 same ∙ sym text in
    let both : Ok d.predicate ≡ Ok e.predicate = sym one.value ∙ ap predicate_of texts ∙ other.value in
    cc
same_by false w d e es same one other text h = h

reads_there : (before : List Entry) (e : Entry) (behind : List Entry) → AreRead (before ++ e ∷ behind) → IsRead e
reads_there [] e behind read = read.0
reads_there (d ∷ before) e behind read = reads_there before e behind read.1

reads_rest : (before : List Entry) (e : Entry) (behind : List Entry) → AreRead (before ++ e ∷ behind) → AreRead (before ++ behind)
reads_rest [] e behind read = read.1
reads_rest (d ∷ before) e behind read = (read.0, reads_rest before e behind read.1)

-- all of one text are the same
first_there : (w : List ℕ) (before : List Entry) (e : Entry) (behind : List Entry) → e.text ≡ w → AreRead (before ++ e ∷ behind) → first_read w (before ++ e ∷ behind) ≡ Some e.predicate
first_there w [] e behind text read = ap (λ (t : Bool). cond t (Some e.predicate) (first_read w behind)) ((bytes_eq-Decides e.text w).1 text)
first_there w (d ∷ before) e behind text read =
    same_by (bytes_eq d.text w) w d e (before ++ e ∷ behind) refl read.0 (reads_there before e behind read.1) text (first_there w before e behind text read.1)

-- ---- what was taken out, and what it leaves

record Split (ps left : Places) (e : Entry) : Type 0 where
  before : List Entry
  behind : List Entry
  whole : kept ps ≡ before ++ e ∷ behind
  rest : kept left ≡ before ++ behind

split : (ps : Places) (i : ℕ) (e : Entry) → get_or ps i None ≡ Some e → Split ps (set ps i None) e
split [] i e h = absurd cc
split (None ∷ ps) zero e h = absurd cc
split (Some d ∷ ps) zero e h =
    let same : d ≡ e = cc in
    record {
      before = [];
      behind = kept ps;
      whole = ap (λ (x : Entry). x ∷ kept ps) same;
      rest = refl;
    }
split (None ∷ ps) (suc i) e h =
    let s = split ps i e h in
    record {
      before = s.before;
      behind = s.behind;
      whole = s.whole;
      rest = s.rest;
    }
split (Some d ∷ ps) (suc i) e h =
    let s = split ps i e h in
    record {
      before = d ∷ s.before;
      behind = s.behind;
      whole = ap (λ (x : List Entry). d ∷ x) s.whole;
      rest = ap (λ (x : List Entry). d ∷ x) s.rest;
    }

pub record Taken (w : List ℕ) (es left : List Entry) (o : Option Predicate) : Type 0 where
  pub first : o ≡ first_read w es
  pub gone : IfSome o (λ _. IsWithoutOne w es left)
  pub same : IfNone o (left ≡ es)
  pub value : IfSome o (λ p. predicate_of w ≡ Ok p)
  pub patterns : IfSome o (λ p. All (All HasGoodPattern) p.any)
  pub read : AreRead left

taken_there : (w : List ℕ) (ps : Places) (i : ℕ) (e : Entry) → AreRead (kept ps) → get_or ps i None ≡ Some e → e.text ≡ w → Taken w (kept ps) (kept (set ps i None)) (Some e.predicate)
taken_there w ps i e read there text =
    let s = split ps i e there in
    let R : List Entry → Type 0 = λ x. AreRead x in
    let whole : AreRead (s.before ++ e ∷ s.behind) = subst R s.whole read in
    let one = reads_there s.before e s.behind whole in
    record {
      first = sym (ap (first_read w) s.whole ∙ first_there w s.before e s.behind text whole);
      gone = (s.before, e, s.behind, text, s.whole, s.rest);
      same = tt;
      value = ap predicate_of (sym text) ∙ one.value;
      patterns = one.patterns;
      read = subst R (sym s.rest) (reads_rest s.before e s.behind whole);
    }

taken_by : (w : List ℕ) (ps : Places) (i : ℕ) (r : Option Entry) → AreRead (kept ps) → get_or ps i None ≡ r → has_text w r ≡ true → Taken w (kept ps) (kept (set ps i None)) (predicate_in r)
taken_by w ps i None read there h = absurd cc
taken_by w ps i (Some e) read there h = taken_there w ps i e read there ((bytes_eq-Decides e.text w).0 h)

-- so it is with what was taken from the place of this text, from a list that is seen as another
pub taken : (w : List ℕ) (ps left : Places) (es : List Entry) (i : ℕ) (r : Option Entry) (o : Option Predicate) → AreRead (kept ps) → kept ps ≡ es → has_text w (get_or ps i None) ≡ true
    → r ≡ get_or ps i None → left ≡ set ps i None → o ≡ predicate_in r → Taken w es (kept left) o
taken w ps left es i r o read view there removed gone told =
    let is = taken_by w ps i (get_or ps i None) read refl there in
    let P : Option Predicate → Type 0 = λ x. Taken w (kept ps) (kept (set ps i None)) x in
    let Q : Places → Type 0 = λ x. Taken w (kept ps) (kept x) o in
    let R : List Entry → Type 0 = λ x. Taken w x (kept left) o in
    subst R view (subst Q (sym gone) (subst P (sym (told ∙ ap predicate_in removed)) is))
