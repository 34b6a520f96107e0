-- The deeds of a list of entries, whose they are, and the entries that they stand for.
use Rattle.std.proofs.Common.{◌≡◌, ℕ, ◌==◌, Bool, true, false, cond, List, [], ◌∷◌, ◌++◌, length, length-append, map, Option, Some, None, refl, sym, ap, ◌∙◌, arith, append-nil, append_assoc}
use Rattle.std.specs.List.{list_any}
use Rattle.std.specs.Prelude.{◌||◌, ◌&&◌, not, reverse}
use Rattle.std.proofs.lemmas.Bool.{eqb-true, eq-eqb}
use Rattle.std.proofs.lemmas.Grind.{flat_map-append}
use Rattle.std.proofs.lemmas.List.{reverse-append, map-append}
use Rattle.std.proofs.lemmas.List.Elements.{filter-append}
use Rattle.std.proofs.lemmas.List.Folds.{list_any-append}
use Rattle.eip_ledger.specs.declared.entry.Entry.{Entry}
use Rattle.eip_ledger.specs.declared.entry.Kind.{Kind}
use Rattle.eip_ledger.specs.declared.entry.Kind.TheVariants.{Answer}
use Rattle.eip_history.specs.Births.{Asked, asked}
use Rattle.eip_history.specs.Own.{Past}
use Rattle.eip_history.specs.Plan.{Plan}
use Rattle.eip_history.specs.Rules.{served_in, served_by}
use Rattle.eip_owners.specs.Acts.{seen_answers}
use Rattle.eip_owners.specs.Owners.{entries_of, answers_of, answered}
use Rattle.eip_owners.proofs.Answers.{part-grows, part-stays}
use Rattle.eip_turnstile.specs.Rule.{entries_by, AllBy}
use Rattle.eip_turnstile.proofs.Lists.{by-append}
use Rattle.eip_shared.specs.Deeds.{given_to, given_by, deed, deeds, entry_of, past_of, done_by, own_entries, own_answer, own_answers, begins, ends, left_open}
use Rattle.eip_shared.specs.declared.deed.Deed.{Deed}

-- ---- pasts

pub past-append : (xs ys : List (ℕ × Deed)) → past_of (xs ++ ys) ≡ past_of ys ++ past_of xs
past-append xs ys = ap reverse (map-append entry_of xs ys) ∙ reverse-append (map entry_of xs) (map entry_of ys)

-- the deeds of some entries stand for them
pub past-deeds : (s : Plan) (past behind : Past) → past_of (deeds s past behind) ≡ behind
unfolding deeds
past-deeds s past [] = refl
past-deeds s past (e ∷ behind) =
    past-append (deeds s past behind) ((e.worker, deed s (behind ++ past) e.kind) ∷ []) ∙ ap (λ es. e ∷ es) (past-deeds s past behind)

pub deeds-length : (s : Plan) (past behind : Past) → length (deeds s past behind) ≡ length behind
unfolding deeds
deeds-length s past [] = refl
deeds-length s past (e ∷ behind) =
    omega (arith, length-append (deeds s past behind) ((e.worker, deed s (behind ++ past) e.kind) ∷ []), deeds-length s past behind)

-- those of entries and then of more
pub deeds-append : (s : Plan) (past behind more : Past) → deeds s past (more ++ behind) ≡ deeds s past behind ++ deeds s (behind ++ past) more
unfolding deeds
deeds-append s past behind [] = sym (append-nil (deeds s past behind))
deeds-append s past behind (e ∷ more) =
    ap (λ es. deeds s past (more ++ behind) ++ (e.worker, deed s es e.kind) ∷ []) (append_assoc more behind past)
    ∙ (ap (λ xs. xs ++ (e.worker, deed s (more ++ (behind ++ past)) e.kind) ∷ []) (deeds-append s past behind more)
    ∙ append_assoc (deeds s past behind) (deeds s (behind ++ past) more) ((e.worker, deed s (more ++ (behind ++ past)) e.kind) ∷ []))

-- ---- one worker

pub done-append : (w : ℕ) (ds es : List Deed) → done_by w (ds ++ es) ≡ done_by w ds ++ done_by w es
done-append w ds es = map-append (λ (d : Deed). (w, d)) ds es

-- its own deeds are all its
pub own-all : (w : ℕ) (ds : List Deed) → AllBy w (done_by w ds)
own-all w [] = tt
own-all w (d ∷ ds) = (refl, own-all w ds)

pub own-by : (w : ℕ) (ds : List Deed) → entries_by w (done_by w ds) ≡ ds
own-by w [] = refl
own-by w (d ∷ ds) = rw (eq-eqb w w refl) (ap (λ es. d ∷ es) (own-by w ds))

-- a worker without deeds in a list has no entries in the past that it stands for
pub none-of : (w : ℕ) (xs : List (ℕ × Deed)) → entries_by w xs ≡ [] → entries_of w (past_of xs) ≡ []
none-of w [] none = refl
none-of w (x ∷ xs) none =
    ap (entries_of w) (past-append (x ∷ []) xs)
    ∙ (filter-append (λ (e : Entry). e.worker == w) (past_of xs) (entry_of x ∷ []) ∙ by_test (x.0 == w) none (none-of w xs))
  where
    by_test : (b : Bool) → cond b (x.1 ∷ entries_by w xs) (entries_by w xs) ≡ [] → (entries_by w xs ≡ [] → entries_of w (past_of xs) ≡ [])
        → entries_of w (past_of xs) ++ cond b (entry_of x ∷ []) [] ≡ []
    by_test true h ih = absurd (cc h)
    by_test false h ih = append-nil (entries_of w (past_of xs)) ∙ ih h

-- ---- the part of a worker is what its deeds say

own-more : (w : ℕ) (ds : List Deed) (d : Deed) → own_entries w (ds ++ d ∷ []) ≡ entry_of (w, d) ∷ own_entries w ds
own-more w ds d = ap past_of (done-append w ds (d ∷ [])) ∙ past-append (done_by w ds) ((w, d) ∷ [])

pub part-entries : (s : Plan) (past behind : Past) (w : ℕ) → entries_of w behind ≡ own_entries w (entries_by w (deeds s past behind))
unfolding deeds
part-entries s past [] w = refl
part-entries s past (e ∷ behind) w =
    by_test (e.worker == w) refl (part-entries s past behind w)
    ∙ ap (own_entries w) (sym (by-append w (deeds s past behind) ((e.worker, deed s (behind ++ past) e.kind) ∷ [])))
  where
    by_test : (b : Bool) → (e.worker == w) ≡ b → entries_of w behind ≡ own_entries w (entries_by w (deeds s past behind))
        → cond b (e ∷ entries_of w behind) (entries_of w behind)
        ≡ own_entries w (entries_by w (deeds s past behind) ++ cond b (deed s (behind ++ past) e.kind ∷ []) [])
    by_test true t rest =
        ap (λ es. e ∷ es) rest
        ∙ (ap (λ n. record { worker = n; kind = e.kind } ∷ own_entries w (entries_by w (deeds s past behind))) (eqb-true e.worker w t)
        ∙ sym (own-more w (entries_by w (deeds s past behind)) (deed s (behind ++ past) e.kind)))
    by_test false t rest = rest ∙ ap (own_entries w) (sym (append-nil (entries_by w (deeds s past behind))))

-- one entry's answer
given-seen : (s : Plan) (past : Past) (w : ℕ) (k : Kind) → seen_answers (served_in s past w k) ≡ own_answer w (given_by s past k)
given-seen s past w (Answer x a) = by_asked (asked s past x)
  where
    by_asked : (q : Option Asked) → seen_answers (served_by w q a) ≡ own_answer w (given_to q a)
    by_asked None = refl
    by_asked (Some q) = refl
given-seen s past w _ = refl

pub part-answers : (s : Plan) (past behind : Past) (w : ℕ)
    → answers_of w (answered s past behind) ≡ own_answers w (entries_by w (deeds s past behind))
unfolding deeds answered
part-answers s past [] w = refl
part-answers s past (e ∷ behind) w =
    by_test (e.worker == w) refl (part-answers s past behind w)
    ∙ ap (own_answers w) (sym (by-append w (deeds s past behind) ((e.worker, deed s (behind ++ past) e.kind) ∷ [])))
  where
    by_test : (b : Bool) → (e.worker == w) ≡ b → answers_of w (answered s past behind) ≡ own_answers w (entries_by w (deeds s past behind))
        → answers_of w (answered s past (e ∷ behind))
        ≡ own_answers w (entries_by w (deeds s past behind) ++ cond b (deed s (behind ++ past) e.kind ∷ []) [])
    by_test true t rest =
        let same : e.worker ≡ w = eqb-true e.worker w t in
        ap (λ n. answers_of n (answered s past (e ∷ behind))) (sym same)
        ∙ ((part-grows s past behind e).1
        ∙ (ap (λ n. answers_of n (answered s past behind) ++ seen_answers (served_in s (behind ++ past) n e.kind)) same
        ∙ (ap (λ vs. vs ++ seen_answers (served_in s (behind ++ past) w e.kind)) rest
        ∙ (ap (λ vs. own_answers w (entries_by w (deeds s past behind)) ++ vs)
        (given-seen s (behind ++ past) w e.kind ∙ sym (append-nil (own_answer w (given_by s (behind ++ past) e.kind))))
        ∙ sym (flat_map-append (λ (d : Deed). own_answer w d.given) (entries_by w (deeds s past behind)) (deed s (behind ++ past) e.kind ∷ []))))))
    by_test false t rest =
        (part-stays s w past behind (e ∷ []) (ap (λ c. cond {A = Past} c (e ∷ []) []) t)).1 ∙ (rest ∙ ap (own_answers w) (sym (append-nil (entries_by w (deeds s past behind)))))

-- ---- what was begun

-- what is ended is ended, whatever follows
ended-more : (k : Kind) (ds es : List Deed) → list_any (λ (e : Deed). ends k e.kind) ds ≡ true → list_any (λ (e : Deed). ends k e.kind) (ds ++ es) ≡ true
ended-more k ds es h = list_any-append (λ (e : Deed). ends k e.kind) ds es ∙ ap (λ b. b || list_any (λ (e : Deed). ends k e.kind) es) h

-- behind deeds that left nothing open, what is left open is what later ones leave
pub left-append : (ds es : List Deed) → left_open ds ≡ [] → left_open (ds ++ es) ≡ left_open es
left-append [] es h = refl
left-append (d ∷ ds) es h = by_test (begins d.kind) (list_any (λ (e : Deed). ends d.kind e.kind) ds) refl h (left-append ds es)
  where
    by_test : (b a : Bool) → list_any (λ (e : Deed). ends d.kind e.kind) ds ≡ a → cond (b && not a) (d.kind ∷ left_open ds) (left_open ds) ≡ []
        → (left_open ds ≡ [] → left_open (ds ++ es) ≡ left_open es)
        → cond (b && not (list_any (λ (e : Deed). ends d.kind e.kind) (ds ++ es))) (d.kind ∷ left_open (ds ++ es)) (left_open (ds ++ es)) ≡ left_open es
    by_test false a t g ih = ih g
    by_test true true t g ih = rw (ended-more d.kind ds es t) (ih g)
    by_test true false t g ih = absurd (cc g)
