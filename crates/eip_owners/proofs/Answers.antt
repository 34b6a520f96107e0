-- The answers behind a past, and how one more entry leaves the part of a worker.
use Rattle.std.proofs.Common.{◌≡◌, ℕ, ◌==◌, Bool, true, false, cond, [], ◌∷◌, ◌++◌, Option, Some, None, refl, sym, ap, ◌∙◌, append_assoc, append-nil}
use Rattle.std.proofs.lemmas.Bool.{eq-eqb}
use Rattle.std.proofs.lemmas.List.{map-append}
use Rattle.std.proofs.lemmas.List.Elements.{filter-append}
use Rattle.eip_ledger.specs.declared.entry.Entry.{Entry}
use Rattle.eip_ledger.specs.declared.entry.Kind.{Kind}
use Rattle.eip_ledger.specs.declared.entry.Kind.TheVariants.{Answer}
use Rattle.eip_endpoint.specs.Outside.{Answered}
use Rattle.eip_history.specs.Births.{Asked, asked}
use Rattle.eip_history.specs.Own.{Past}
use Rattle.eip_history.specs.Plan.{Plan}
use Rattle.eip_history.specs.Rules.{served, served_in, served_by}
use Rattle.eip_owners.specs.Acts.{seen_answer, seen_answers}
use Rattle.eip_owners.specs.Owners.{entries_of, answers_of, answered}

pub answers-parts : (s : Plan) (past behind : Past)
    → seen_answers (served s (behind ++ past)) ≡ seen_answers (served s past) ++ answered s past behind
unfolding served answered
answers-parts s past [] = sym (append-nil (seen_answers (served s past)))
answers-parts s past (e ∷ behind) =
    map-append seen_answer (served s (behind ++ past)) (served_in s (behind ++ past) e.worker e.kind)
    ∙ (ap (λ vs. vs ++ seen_answers (served_in s (behind ++ past) e.worker e.kind)) (answers-parts s past behind)
    ∙ append_assoc (seen_answers (served s past)) (answered s past behind) (seen_answers (served_in s (behind ++ past) e.worker e.kind)))

-- the part of one answer, by whether it is the worker's
part-one : (s : Plan) (past : Past) (w v : ℕ) (k : Kind) → (v == w) ≡ false → answers_of w (seen_answers (served_in s past v k)) ≡ []
part-one s past w v (Answer x a) other = by_asked (asked s past x)
  where
    by_asked : (q : Option Asked) → answers_of w (seen_answers (served_by v q a)) ≡ []
    by_asked None = refl
    by_asked (Some q) = rw other refl
part-one s past w v _ other = refl

part-own : (s : Plan) (past : Past) (w : ℕ) (k : Kind) → answers_of w (seen_answers (served_in s past w k)) ≡ seen_answers (served_in s past w k)
part-own s past w (Answer x a) = by_asked (asked s past x)
  where
    by_asked : (q : Option Asked) → answers_of w (seen_answers (served_by w q a)) ≡ seen_answers (served_by w q a)
    by_asked None = refl
    by_asked (Some q) = rw (eq-eqb w w refl) refl
part-own s past w _ = refl

-- an entry of another worker adds nothing to a worker's part of the answers
part-beside : (s : Plan) (past behind : Past) (w : ℕ) (e : Entry) → (e.worker == w) ≡ false
    → answers_of w (answered s past (e ∷ behind)) ≡ answers_of w (answered s past behind)
unfolding answered
part-beside s past behind w e other =
    filter-append (λ (v : Answered). v.worker == w) (answered s past behind) (seen_answers (served_in s (behind ++ past) e.worker e.kind))
    ∙ (ap (λ vs. answers_of w (answered s past behind) ++ vs) (part-one s (behind ++ past) w e.worker e.kind other)
    ∙ append-nil (answers_of w (answered s past behind)))

-- an entry of its own adds its answer
part-more : (s : Plan) (past behind : Past) (e : Entry)
    → answers_of e.worker (answered s past (e ∷ behind))
    ≡ answers_of e.worker (answered s past behind) ++ seen_answers (served_in s (behind ++ past) e.worker e.kind)
unfolding answered
part-more s past behind e =
    filter-append (λ (v : Answered). v.worker == e.worker) (answered s past behind) (seen_answers (served_in s (behind ++ past) e.worker e.kind))
    ∙ ap (λ vs. answers_of e.worker (answered s past behind) ++ vs) (part-own s (behind ++ past) e.worker e.kind)

-- ---- a worker's part of the journal

-- the entries of a worker who made none behind an entry, which is another's
pub other-made : (w : ℕ) (e : Entry) (behind : Past) → entries_of w (e ∷ behind) ≡ [] → ((e.worker == w) ≡ false) × (entries_of w behind ≡ [])
other-made w e behind none = by_test (e.worker == w) refl none
  where
    by_test : (b : Bool) → (e.worker == w) ≡ b → cond b (e ∷ entries_of w behind) (entries_of w behind) ≡ []
        → ((e.worker == w) ≡ false) × (entries_of w behind ≡ [])
    by_test true t h = absurd (cc h)
    by_test false t h = (t, h)

-- entries of other workers leave it as it is
pub part-stays : (s : Plan) (w : ℕ) (past behind later : Past) → entries_of w later ≡ []
    → (entries_of w (later ++ behind) ≡ entries_of w behind) × (answers_of w (answered s past (later ++ behind)) ≡ answers_of w (answered s past behind))
part-stays s w past behind [] none = (refl, refl)
part-stays s w past behind (e ∷ later) none =
    let others = other-made w e later none in
    let rest = part-stays s w past behind later others.1 in (
      ap (λ b. cond b (e ∷ entries_of w (later ++ behind)) (entries_of w (later ++ behind))) others.0 ∙ rest.0,
      part-beside s past (later ++ behind) w e others.0 ∙ rest.1,
    )

-- an entry of its own is added
pub part-grows : (s : Plan) (past behind : Past) (e : Entry) → (entries_of e.worker (e ∷ behind) ≡ e ∷ entries_of e.worker behind)
    × (answers_of e.worker (answered s past (e ∷ behind))
    ≡ answers_of e.worker (answered s past behind) ++ seen_answers (served_in s (behind ++ past) e.worker e.kind))
part-grows s past behind e = (
  ap (λ b. cond b (e ∷ entries_of e.worker behind) (entries_of e.worker behind)) (eq-eqb e.worker e.worker refl),
  part-more s past behind e,
)
