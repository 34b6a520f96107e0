-- Words that are a command are those of that command.
use Rattle.std.proofs.Common.{◌≡◌, ℕ, ◌≤◌, Bool, true, false, cond, List, [], ◌∷◌, Option, Some, None, refl, sym, ap, ◌∙◌, arith, codes, drop, subst}
use Rattle.std.specs.Prelude.{nat_le, unwrap_or}
use Rattle.std.specs.Fmt.{decimal}
use Rattle.std.proofs.lemmas.Bool.{and_parts, leb-true}
use Rattle.std.proofs.lemmas.Option.{same_Some}
use Rattle.std.specs.Str.{bytes_eq}
use Rattle.std.proofs.lemmas.Slice.Eq.{bytes_eq-Decides}
use Rattle.eip_text.specs.Counts.{count_of}
use Rattle.eip_text.proofs.CountLemmas.{count_is}
use Rattle.eip_text.proofs.Cutting.{guarded}
use Rattle.eip_command.specs.declared.words.Command.{Command}
use Rattle.eip_command.specs.declared.words.Command.TheVariants as command
use Rattle.eip_command.specs.declared.words.Verb.TheVariants as verb
use Rattle.eip_command.specs.Forms.{Options, is_path, is_between, fits, value_of, are_pairs, follow}
use Rattle.eip_command.specs.declared.forms.Rule.TheVariants as rule
use Rattle.eip_command.specs.Words.{drain_options, workers_in, turns_in, journal_in, first_count, second_count, command_by, file_at, first_file, second_file, command_of, IsOn, IsOnTwo, IsDrain, IsLoad, IsCommand, IsFile}
use Rattle.eip_command.proofs.Paths.{file_is}
use Rattle.eip_command.proofs.Said.{Says, said-or, workers_said, turns_said, options-said}

-- ---- the words are those of the command

-- a path, and these words behind it
pub record IsPath (behind words : List (List ℕ)) : Type 0 where
  pub path : List ℕ
  pub said : words ≡ path ∷ behind
  pub fit : is_path path ≡ true

one-path : (os : Options) (words : List (List ℕ)) → follow (rule.Path ∷ []) os words ≡ true → (behind : List (List ℕ)) × IsPath behind words × (are_pairs os behind ≡ true)
one-path os [] h = absurd cc
one-path os (path ∷ behind) h =
    let both = and_parts (is_path path) (are_pairs os behind) h in
    (behind, record { path = path; said = refl; fit = both.0 }, both.1)

no-pairs : (words : List (List ℕ)) → are_pairs [] words ≡ true → words ≡ []
no-pairs [] h = refl
no-pairs (w ∷ []) h = absurd (cc h)
no-pairs (w ∷ (v ∷ words)) h = absurd (cc h)

is-on : (first word : List ℕ) (behind words : List (List ℕ)) → bytes_eq first word ≡ true → IsPath behind words → IsOn first behind (word ∷ words) (first_file words)
is-on first word behind words e is = record {
  path = is.path;
  said = ap (λ (w : List ℕ). w ∷ words) (sym ((bytes_eq-Decides first word).0 e)) ∙ ap (λ (ws : List (List ℕ)). first ∷ ws) is.said;
  fit = is.fit;
  file = subst (IsFile is.path) (sym (ap first_file is.said)) (file_is is.path);
}

is-drain : (word : List ℕ) (words : List (List ℕ)) → bytes_eq (codes "drain") word ≡ true → follow (rule.Path ∷ []) drain_options words ≡ true
    → IsDrain (word ∷ words) (first_file words) (workers_in (drop 1 words)) (turns_in (drop 1 words)) (journal_in (drop 1 words))
is-drain word words e h =
    let p = one-path drain_options words h in
    let same : drop 1 words ≡ p.0 = ap (λ (ws : List (List ℕ)). drop 1 ws) p.1.said in
    let t : Says (drop 1 words) = subst Says (sym same) (options-said p.0 p.2) in
    record {
      behind = drop 1 words;
      on = subst (λ (ws : List (List ℕ)). IsOn (codes "drain") ws (word ∷ words) (first_file words)) (sym same) (is-on (codes "drain") word p.0 words e p.1);
      workers_named = workers_said (drop 1 words);
      turns_named = turns_said (drop 1 words);
      names = t.names;
      workers_are = said-or 0 (value_of (codes "--workers") (drop 1 words));
      turns_are = said-or 100000 (value_of (codes "--turns") (drop 1 words));
      few = t.few;
      some = t.some;
      most = t.most;
    }

is-check : (word : List ℕ) (words : List (List ℕ)) → bytes_eq (codes "check") word ≡ true → follow (rule.Path ∷ []) [] words ≡ true
    → IsOn (codes "check") [] (word ∷ words) (first_file words)
is-check word words e h =
    let p = one-path [] words h in
    subst (λ (ws : List (List ℕ)). IsOn (codes "check") ws (word ∷ words) (first_file words)) (no-pairs p.0 p.2) (is-on (codes "check") word p.0 words e p.1)

-- two paths, and nothing behind them
two-paths : (words : List (List ℕ)) → follow (rule.Path ∷ rule.Path ∷ []) [] words ≡ true
    → (second : List ℕ) × IsPath (second ∷ []) words × (is_path second ≡ true) × (second_file words ≡ file_at second)
two-paths [] h = absurd (cc h)
two-paths (one ∷ words) h =
    let both = and_parts (is_path one) _ h in
    let p = one-path [] words both.1 in
    let said : words ≡ p.1.path ∷ [] = p.1.said ∙ ap (λ (ws : List (List ℕ)). p.1.path ∷ ws) (no-pairs p.0 p.2) in (
      p.1.path,
      record { path = one; said = ap (λ (ws : List (List ℕ)). one ∷ ws) said; fit = both.0 },
      p.1.fit,
      ap first_file said,
    )

is-on-two : (first word : List ℕ) (words : List (List ℕ)) → bytes_eq first word ≡ true → follow (rule.Path ∷ rule.Path ∷ []) [] words ≡ true
    → IsOnTwo first (word ∷ words) (first_file words) (second_file words)
is-on-two first word words e h =
    let p = two-paths words h in
    record { path = p.0; on = is-on first word (p.0 ∷ []) words e p.1; fit = p.2; file = subst (IsFile p.0) (sym p.3) (file_is p.0) }

-- a load's number of items, and of workers
record IsLoadOf (words : List (List ℕ)) : Type 0 where
  pub said : words ≡ decimal (first_count words) ∷ (decimal (second_count words) ∷ [])
  pub some : 1 ≤ first_count words
  pub most : first_count words ≤ 20000
  pub few : second_count words ≤ 16

-- a word that is a number from the first to the second is its decimal text
counted : (least most : ℕ) (word : List ℕ) → fits (rule.Count least most) word ≡ true → (n : ℕ) × (count_of word ≡ Some n) × (word ≡ decimal n) × (least ≤ n) × (n ≤ most)
counted least most word h = by_count (count_of word) refl h
  where
    by_count : (o : Option ℕ) → count_of word ≡ o → is_between least most o ≡ true
        → (n : ℕ) × (count_of word ≡ Some n) × (word ≡ decimal n) × (least ≤ n) × (n ≤ most)
    by_count None e f = absurd (cc f)
    by_count (Some n) e f =
        let both = and_parts (nat_le least n) (nat_le n most) f in
        (n, e, (count_is word n e).1, leb-true least n both.0, leb-true n most both.1)

two-counts : (words : List (List ℕ)) → follow (rule.Count 1 20000 ∷ rule.Count 0 16 ∷ []) [] words ≡ true → IsLoadOf words
two-counts [] h = absurd (cc h)
two-counts (word ∷ []) h = absurd (cc (and_parts (fits (rule.Count 1 20000) word) false h).1)
two-counts (word ∷ (workers ∷ rest)) h =
    let first = and_parts (fits (rule.Count 1 20000) word) _ h in
    let second = and_parts (fits (rule.Count 0 16) workers) _ first.1 in
    let n = counted 1 20000 word first.0 in
    let m = counted 0 16 workers second.0 in
    let items : first_count (word ∷ (workers ∷ rest)) ≡ n.0 = ap (λ (o : Option ℕ). unwrap_or o 0) n.1 in
    let hands : second_count (word ∷ (workers ∷ rest)) ≡ m.0 = ap (λ (o : Option ℕ). unwrap_or o 0) m.1 in
    let items_word : word ≡ decimal (first_count (word ∷ (workers ∷ rest))) = n.2 ∙ ap decimal (sym items) in
    let hands_word : workers ≡ decimal (second_count (word ∷ (workers ∷ rest))) = m.2 ∙ ap decimal (sym hands) in
    record {
      said = ap (λ (w : List ℕ). w ∷ (workers ∷ rest)) items_word
          ∙ ap (λ (w : List ℕ). decimal (first_count (word ∷ (workers ∷ rest))) ∷ (w ∷ rest)) hands_word
          ∙ ap (λ (ws : List (List ℕ)). decimal (first_count (word ∷ (workers ∷ rest))) ∷ (decimal (second_count (word ∷ (workers ∷ rest))) ∷ ws)) (no-pairs rest second.1);
      some = omega (arith, items, n.3);
      most = omega (arith, items, n.4);
      few = omega (arith, hands, m.4);
    }

is-load : (word : List ℕ) (words : List (List ℕ)) → bytes_eq (codes "load") word ≡ true → follow (rule.Count 1 20000 ∷ rule.Count 0 16 ∷ []) [] words ≡ true
    → IsLoad (word ∷ words) (first_count words) (second_count words)
is-load word words e h =
    let p = two-counts words h in
    record {
      said = ap (λ (w : List ℕ). w ∷ words) (sym ((bytes_eq-Decides (codes "load") word).0 e)) ∙ ap (λ (ws : List (List ℕ)). codes "load" ∷ ws) p.said;
      some = p.some;
      most = p.most;
      few = p.few;
    }

asked-by : (b d a l m : Bool) (word : List ℕ) (words : List (List ℕ)) (c : Command) → bytes_eq (codes "drain") word ≡ b → bytes_eq (codes "check") word ≡ d
    → bytes_eq (codes "audit") word ≡ a → bytes_eq (codes "load") word ≡ l → bytes_eq (codes "migrate") word ≡ m
    → command_by (cond b (Some verb.Drain) (cond d (Some verb.Check) (cond a (Some verb.Audit) (cond l (Some verb.Load) (cond m (Some verb.Migrate) None))))) words ≡ Some c
    → IsCommand (word ∷ words) c
asked-by true d a l m word words c is_drain is_check is_audit is_load is_move e =
    let made : Command = command.Drain (first_file words) (workers_in (drop 1 words)) (turns_in (drop 1 words)) (journal_in (drop 1 words)) in
    let g = guarded (follow (rule.Path ∷ []) drain_options words) (Some made) c e in
    subst (IsCommand (word ∷ words)) (same_Some made c g.1) (is-drain word words is_drain g.0)
asked-by false true a l m word words c is_drain is_check is_audit is_load is_move e =
    let made : Command = command.Check (first_file words) in
    let g = guarded (follow (rule.Path ∷ []) [] words) (Some made) c e in
    subst (IsCommand (word ∷ words)) (same_Some made c g.1) (is-check word words is_check g.0)
asked-by false false true l m word words c is_drain is_check is_audit is_load is_move e =
    let made : Command = command.Audit (first_file words) (second_file words) in
    let g = guarded (follow (rule.Path ∷ rule.Path ∷ []) [] words) (Some made) c e in
    subst (IsCommand (word ∷ words)) (same_Some made c g.1) (is-on-two (codes "audit") word words is_audit g.0)
asked-by false false false true m word words c is_drain is_check is_audit is_load is_move e =
    let made : Command = command.Load (first_count words) (second_count words) in
    let g = guarded (follow (rule.Count 1 20000 ∷ rule.Count 0 16 ∷ []) [] words) (Some made) c e in
    subst (IsCommand (word ∷ words)) (same_Some made c g.1) (is-load word words is_load g.0)
asked-by false false false false true word words c is_drain is_check is_audit is_load is_move e =
    let made : Command = command.Migrate (first_file words) (second_file words) in
    let g = guarded (follow (rule.Path ∷ rule.Path ∷ []) [] words) (Some made) c e in
    subst (IsCommand (word ∷ words)) (same_Some made c g.1) (is-on-two (codes "migrate") word words is_move g.0)
asked-by false false false false false word words c is_drain is_check is_audit is_load is_move e = absurd (cc e)

pub command_is : (words : List (List ℕ)) (c : Command) → command_of words ≡ Some c → IsCommand words c
command_is [] c e = absurd cc
command_is (word ∷ words) c e =
    asked-by (bytes_eq (codes "drain") word) (bytes_eq (codes "check") word) (bytes_eq (codes "audit") word) (bytes_eq (codes "load") word)
    (bytes_eq (codes "migrate") word) word words c refl refl refl refl refl e
