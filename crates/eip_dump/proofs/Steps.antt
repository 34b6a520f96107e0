-- What one turn of a reader's loop does.
use Rattle.std.proofs.Common.{◌≡◌, ℕ, zero, suc, ◌-◌, ◌<◌, ◌≤◌, Bool, true, false, cond, List, [], ◌∷◌, ◌++◌, length, Option, Some, None, refl, sym, ap, ◌∙◌, append_assoc, arith}
use Rattle.std.proofs.lemmas.List.{append-nil}
use Rattle.std.proofs.lemmas.Option.{some_pair_parts}
use Rattle.eip_text.specs.Cuts.{is_digit}
use Rattle.eip_exchange.specs.Pairs.{Pairs, put_property}
use Rattle.eip_exchange.specs.declared.end.Ended.{Ended}
use Rattle.eip_dump.specs.declared.fault.Stop.{Stop}
use Rattle.eip_dump.specs.declared.fault.Stop.TheVariants as stop
use Rattle.eip_dump.specs.Reading.{◌>>=◌, Fails, digit_at, with_digit, digits_behind, shown_at, unquoted, pair_at, set_header, headers_from, properties_from, ended_at, parts_from}

-- ---- digits

digit_by : (t : Bool) (b : ℕ) (bs : List ℕ) (d : ℕ) (more : List ℕ) → ◌≡◌ {A = Option (ℕ × List ℕ)} (Some (d, more)) (cond t (Some (b - 48, bs)) None) → (t ≡ true) × ((d ≡ b - 48) × (more ≡ bs))
digit_by true b bs d more e = (refl, some_pair_parts d (b - 48) more bs e)
digit_by false b bs d more e = absurd cc

no_digit : (t : Bool) (b : ℕ) (bs : List ℕ) → ◌≡◌ {A = Option (ℕ × List ℕ)} None (cond t (Some (b - 48, bs)) None) → t ≡ false
no_digit true b bs e = absurd cc
no_digit false b bs e = refl

-- a digit in front is read
one_digit : (v d : ℕ) (bs more : List ℕ) → Some (d, more) ≡ digit_at bs → digits_behind v bs ≡ (with_digit v d >>= λ n. digits_behind n more)
unfolding digits_behind
one_digit v d [] more e = absurd cc
one_digit v d (b ∷ bs) more e =
    let p = digit_by (is_digit b) b bs d more e in
    rw (p.0, p.1.0, p.1.1) refl

pub digits_step : (v d n : ℕ) (bs more : List ℕ) → Some (d, more) ≡ digit_at bs → with_digit v d ≡ Some n → digits_behind v bs ≡ digits_behind n more
digits_step v d n bs more e w = one_digit v d bs more e ∙ ap (λ (o : Option ℕ). o >>= λ m. digits_behind m more) w

pub digits_stop : (v : ℕ) (bs : List ℕ) → None ≡ digit_at bs → digits_behind v bs ≡ Some (v, bs)
unfolding digits_behind
digits_stop v [] e = refl
digits_stop v (b ∷ bs) e = rw (no_digit (is_digit b) b bs e) refl

pub digits_fail : (s : Stop) (v d : ℕ) (bs more : List ℕ) (total : Option (ℕ × List ℕ)) → digits_behind v bs ≡ total → Some (d, more) ≡ digit_at bs → Fails s (with_digit v d) → Fails s total
digits_fail stop.Memory v d bs more total h e f = tt
digits_fail stop.Bad v d bs more total h e f = sym h ∙ one_digit v d bs more e ∙ ap (λ (o : Option ℕ). o >>= λ m. digits_behind m more) f

-- ---- quoted texts

-- the bytes so far, and those of the rest
abbrev pub so_far : List ℕ → List ℕ × List ℕ → List ℕ × List ℕ
so_far out p = (out ++ p.0, p.1)

abbrev pub Going : List ℕ → List ℕ → List ℕ × List ℕ → Type 0
Going out rest total = (n : ℕ) × (length rest ≤ n) × (so_far out (unquoted n rest) ≡ total)

pub starts : (bs : List ℕ) → Going [] bs (unquoted (length bs) bs)
starts bs = (length bs, omega arith, refl)

one_byte : (n b : ℕ) (rest more : List ℕ) → Some (b, more) ≡ shown_at rest → unquoted (suc n) rest ≡ (b ∷ (unquoted n more).0, (unquoted n more).1)
unfolding unquoted
one_byte n b rest more e = rw (sym e) refl

no_byte : (n : ℕ) (rest : List ℕ) → None ≡ shown_at rest → unquoted n rest ≡ ([], rest)
unfolding unquoted
no_byte zero rest e = refl
no_byte (suc n) rest e = rw (sym e) refl

goes_on : (n : ℕ) (out rest : List ℕ) (total : List ℕ × List ℕ) (b : ℕ) (more : List ℕ) → length rest ≤ n → so_far out (unquoted n rest) ≡ total → Some (b, more) ≡ shown_at rest → length more < length rest → Going (out ++ b ∷ []) more total
goes_on zero out rest total b more l h e s = absurd (omega arith)
goes_on (suc n) out rest total b more l h e s =
    (n, omega arith, ap (λ (x : List ℕ). (x, (unquoted n more).1)) (append_assoc out (b ∷ []) (unquoted n more).0) ∙ ap (so_far out) (sym (one_byte n b rest more e)) ∙ h)

pub goes : (out rest : List ℕ) (total : List ℕ × List ℕ) (b : ℕ) (more : List ℕ) → Going out rest total → Some (b, more) ≡ shown_at rest → length more < length rest → Going (out ++ b ∷ []) more total
goes out rest total b more g e s = goes_on g.0 out rest total b more g.1 g.2 e s

pub stops : (out rest : List ℕ) (total : List ℕ × List ℕ) → Going out rest total → None ≡ shown_at rest → (out, rest) ≡ total
stops out rest total g e = sym (ap (so_far out) (no_byte g.0 rest e) ∙ rw append-nil refl) ∙ g.2

-- ---- headers, properties and parts, of which n are left

one_less : (n : ℕ) → suc n - 1 ≡ n
one_less n = omega arith

headers_by : (n : ℕ) (hs : Pairs) (bs : List ℕ) → 0 < n → headers_from n hs bs ≡ (pair_at bs >>= λ p. set_header p.0 hs >>= λ more. headers_from (n - 1) more p.1)
unfolding headers_from
headers_by zero hs bs l = absurd (omega arith)
headers_by (suc n) hs bs l = rw (one_less n) refl

pub headers_step : (n : ℕ) (hs more : Pairs) (bs rest : List ℕ) (p : List ℕ × List ℕ) → 0 < n → pair_at bs ≡ Some (p, rest) → set_header p hs ≡ Some more → headers_from n hs bs ≡ headers_from (n - 1) more rest
headers_step n hs more bs rest p l e s = headers_by n hs bs l ∙ rw (e, s) refl

pub headers_unread : (st : Stop) (n : ℕ) (hs : Pairs) (bs : List ℕ) (total : Option (Pairs × List ℕ)) → 0 < n → headers_from n hs bs ≡ total → Fails st (pair_at bs) → Fails st total
headers_unread stop.Memory n hs bs total l h f = tt
headers_unread stop.Bad n hs bs total l h f = sym h ∙ headers_by n hs bs l ∙ rw f refl

pub headers_refused : (st : Stop) (n : ℕ) (hs : Pairs) (bs rest : List ℕ) (p : List ℕ × List ℕ) (total : Option (Pairs × List ℕ)) → 0 < n → headers_from n hs bs ≡ total → pair_at bs ≡ Some (p, rest) → Fails st (set_header p hs) → Fails st total
headers_refused stop.Memory n hs bs rest p total l h e f = tt
headers_refused stop.Bad n hs bs rest p total l h e f = sym h ∙ headers_by n hs bs l ∙ rw (e, f) refl

pub headers_done : (n : ℕ) (hs : Pairs) (bs : List ℕ) → n ≤ 0 → headers_from n hs bs ≡ Some (hs, bs)
unfolding headers_from
headers_done zero hs bs l = refl
headers_done (suc n) hs bs l = absurd (omega arith)

properties_by : (n : ℕ) (ps : Pairs) (bs : List ℕ) → 0 < n → properties_from n ps bs ≡ (pair_at bs >>= λ p. properties_from (n - 1) (put_property p.0.0 p.0.1 ps) p.1)
unfolding properties_from
properties_by zero ps bs l = absurd (omega arith)
properties_by (suc n) ps bs l = rw (one_less n) refl

pub properties_step : (n : ℕ) (ps : Pairs) (bs rest : List ℕ) (p : List ℕ × List ℕ) → 0 < n → pair_at bs ≡ Some (p, rest) → properties_from n ps bs ≡ properties_from (n - 1) (put_property p.0 p.1 ps) rest
properties_step n ps bs rest p l e = properties_by n ps bs l ∙ rw e refl

pub properties_unread : (st : Stop) (n : ℕ) (ps : Pairs) (bs : List ℕ) (total : Option (Pairs × List ℕ)) → 0 < n → properties_from n ps bs ≡ total → Fails st (pair_at bs) → Fails st total
properties_unread stop.Memory n ps bs total l h f = tt
properties_unread stop.Bad n ps bs total l h f = sym h ∙ properties_by n ps bs l ∙ rw f refl

pub properties_done : (n : ℕ) (ps : Pairs) (bs : List ℕ) → n ≤ 0 → properties_from n ps bs ≡ Some (ps, bs)
unfolding properties_from
properties_done zero ps bs l = refl
properties_done (suc n) ps bs l = absurd (omega arith)

parts_by : (n : ℕ) (es : List Ended) (bs : List ℕ) → 0 < n → parts_from n es bs ≡ (ended_at bs >>= λ e. parts_from (n - 1) (es ++ e.0 ∷ []) e.1)
unfolding parts_from
parts_by zero es bs l = absurd (omega arith)
parts_by (suc n) es bs l = rw (one_less n) refl

pub parts_step : (n : ℕ) (es : List Ended) (bs rest : List ℕ) (e : Ended) → 0 < n → ended_at bs ≡ Some (e, rest) → parts_from n es bs ≡ parts_from (n - 1) (es ++ e ∷ []) rest
parts_step n es bs rest e l h = parts_by n es bs l ∙ rw h refl

pub parts_unread : (st : Stop) (n : ℕ) (es : List Ended) (bs : List ℕ) (total : Option (List Ended × List ℕ)) → 0 < n → parts_from n es bs ≡ total → Fails st (ended_at bs) → Fails st total
parts_unread stop.Memory n es bs total l h f = tt
parts_unread stop.Bad n es bs total l h f = sym h ∙ parts_by n es bs l ∙ rw f refl

pub parts_done : (n : ℕ) (es : List Ended) (bs : List ℕ) → n ≤ 0 → parts_from n es bs ≡ Some (es, bs)
unfolding parts_from
parts_done zero es bs l = refl
parts_done (suc n) es bs l = absurd (omega arith)
