-- What the options of a drain name.
use Rattle.std.proofs.Common.{◌≡◌, ℕ, ◌≤◌, Bool, true, false, not, List, [], ◌∷◌, Option, Some, None, codes, cond, refl, sym, ap, subst, ◌∙◌, arith}
use Rattle.std.proofs.lemmas.Bool.{and_parts, leb-true}
use Rattle.std.specs.Prelude.{is_some, nat_le, option_map, unwrap_or}
use Rattle.std.specs.Str.{bytes_eq}
use Rattle.std.proofs.lemmas.Slice.Eq.{bytes_eq-Decides}
use Rattle.eip_text.specs.Counts.{count_of}
use Rattle.eip_command.specs.declared.words.Path.{Path}
use Rattle.eip_command.specs.declared.forms.Rule.TheVariants as rule
use Rattle.eip_command.specs.Forms.{fits_rule, is_between, is_path, is_option, value_of, is_given, are_pairs}
use Rattle.eip_command.specs.Words.{drain_options, count_or, workers_in, turns_in, journal_in, file_at, Names, NamesNothing, NamesWorkers, NamesTurns, NamesJournal}
use Rattle.eip_command.proofs.Paths.{file_is}

-- the number that a value is, where one is given
abbrev pub count_said : Option (List ℕ) → Option ℕ
count_said None = None
count_said (Some value) = count_of value

-- the numbers that options name
abbrev pub workers_said : List (List ℕ) → Option ℕ
workers_said options = count_said (value_of (codes "--workers") options)

abbrev pub turns_said : List (List ℕ) → Option ℕ
turns_said options = count_said (value_of (codes "--turns") options)

pub said-or : (otherwise : ℕ) (value : Option (List ℕ)) → count_or otherwise value ≡ unwrap_or (count_said value) otherwise
said-or otherwise None = refl
said-or otherwise (Some value) = refl

-- options that name what they name, in its ranges
pub record Says (options : List (List ℕ)) : Type 0 where
  pub names : Names options (workers_said options) (turns_said options) (journal_in options)
  pub few : workers_in options ≤ 16
  pub some : 1 ≤ turns_in options
  pub most : turns_in options ≤ 1000000

-- ---- a pair

between : (least most : ℕ) (o : Option ℕ) → is_between least most o ≡ true → (n : ℕ) × (o ≡ Some n) × (least ≤ n) × (n ≤ most)
between least most None h = absurd (cc h)
between least most (Some n) h =
    let both = and_parts (nat_le least n) (nat_le n most) h in
    (n, refl, leb-true least n both.0, leb-true n most both.1)

-- behind an option that isn't given again
with-workers : (value : List ℕ) (more : List (List ℕ)) → is_between 0 16 (count_of value) ≡ true → value_of (codes "--workers") more ≡ None → Says more
    → Says (codes "--workers" ∷ (value ∷ more))
with-workers value more fit none rest =
    let n = between 0 16 (count_of value) fit in
    let count : workers_in (codes "--workers" ∷ (value ∷ more)) ≡ n.0 = ap (λ (o : Option ℕ). unwrap_or o 0) n.1 in
    record {
      names = subst (λ (o : Option ℕ). Names (codes "--workers" ∷ (value ∷ more)) o (turns_said more) (journal_in more)) (sym n.1)
          (NamesWorkers value n.0 more (turns_said more) (journal_in more) n.1
          (subst (λ (o : Option (List ℕ)). Names more (count_said o) (turns_said more) (journal_in more)) none rest.names));
      few = omega (arith, count, n.3);
      some = rest.some;
      most = rest.most;
    }

with-turns : (value : List ℕ) (more : List (List ℕ)) → is_between 1 1000000 (count_of value) ≡ true → value_of (codes "--turns") more ≡ None → Says more
    → Says (codes "--turns" ∷ (value ∷ more))
with-turns value more fit none rest =
    let n = between 1 1000000 (count_of value) fit in
    let count : turns_in (codes "--turns" ∷ (value ∷ more)) ≡ n.0 = ap (λ (o : Option ℕ). unwrap_or o 100000) n.1 in
    record {
      names = subst (λ (o : Option ℕ). Names (codes "--turns" ∷ (value ∷ more)) (workers_said more) o (journal_in more)) (sym n.1)
          (NamesTurns value n.0 more (workers_said more) (journal_in more) n.1
          (subst (λ (o : Option (List ℕ)). Names more (workers_said more) (count_said o) (journal_in more)) none rest.names));
      few = rest.few;
      some = omega (arith, count, n.2);
      most = omega (arith, count, n.3);
    }

with-journal : (value : List ℕ) (more : List (List ℕ)) → is_path value ≡ true → value_of (codes "--journal") more ≡ None → Says more
    → Says (codes "--journal" ∷ (value ∷ more))
with-journal value more fit none rest = record {
  names = NamesJournal value (file_at value) more (workers_said more) (turns_said more) fit (file_is value)
      (subst (λ (o : Option Path). Names more (workers_said more) (turns_said more) o) (ap (λ (o : Option (List ℕ)). option_map file_at o) none) rest.names);
  few = rest.few;
  some = rest.some;
  most = rest.most;
}

-- ---- pairs

not-given : (o : Option (List ℕ)) → not (is_some o) ≡ true → o ≡ None
not-given None h = refl
not-given (Some value) h = absurd (cc h)

-- a first pair is one of the three, and its option isn't given again
more-said : (word value : List ℕ) (more : List (List ℕ)) → is_option drain_options word value ≡ true → value_of word more ≡ None → Says more → Says (word ∷ (value ∷ more))
more-said word value more h none rest =
    by_words (bytes_eq (codes "--workers") word) (bytes_eq (codes "--turns") word) (bytes_eq (codes "--journal") word) refl refl refl h
  where
    is : (option : List ℕ) → bytes_eq option word ≡ true → option ≡ word
    is option e = (bytes_eq-Decides option word).0 e

    here : (option : List ℕ) → option ≡ word → value_of option more ≡ None
    here option e = ap (λ (w : List ℕ). value_of w more) e ∙ none

    back : (option : List ℕ) → option ≡ word → Says (option ∷ (value ∷ more)) → Says (word ∷ (value ∷ more))
    back option e says = subst (λ (w : List ℕ). Says (w ∷ (value ∷ more))) e says

    by_words : (a b c : Bool) → bytes_eq (codes "--workers") word ≡ a → bytes_eq (codes "--turns") word ≡ b → bytes_eq (codes "--journal") word ≡ c
        → fits_rule (cond a (Some (rule.Count 0 16)) (cond b (Some (rule.Count 1 1000000)) (cond c (Some rule.Path) None))) value ≡ true → Says (word ∷ (value ∷ more))
    by_words true b c e f g fit =
        back (codes "--workers") (is (codes "--workers") e) (with-workers value more fit (here (codes "--workers") (is (codes "--workers") e)) rest)
    by_words false true c e f g fit = back (codes "--turns") (is (codes "--turns") f) (with-turns value more fit (here (codes "--turns") (is (codes "--turns") f)) rest)
    by_words false false true e f g fit =
        back (codes "--journal") (is (codes "--journal") g) (with-journal value more fit (here (codes "--journal") (is (codes "--journal") g)) rest)
    by_words false false false e f g fit = absurd (cc fit)

pub options-said : (options : List (List ℕ)) → are_pairs drain_options options ≡ true → Says options
options-said [] h = record { names = NamesNothing; few = omega arith; some = omega arith; most = omega arith }
options-said (word ∷ []) h = absurd (cc h)
options-said (word ∷ (value ∷ more)) h =
    let here = and_parts (is_option drain_options word value) _ h in
    let rest = and_parts (not (is_given word more)) (are_pairs drain_options more) here.1 in
    more-said word value more here.0 (not-given (value_of word more) rest.0) (options-said more rest.1)
