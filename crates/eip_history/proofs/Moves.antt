-- Nobody moves by an entry but those whom its kind can move.
use Rattle.std.proofs.Common.{◌≡◌, ◌≢◌, ℕ, ◌≤◌, ◌==◌, true, false, cond, [], ◌∷◌, Some, refl, ap, ◌∙◌, eq-eqb, inl, inr}
use Rattle.std.specs.Prelude.{nat_lt}
use Rattle.std.proofs.lemmas.Bool.{cases_Bool, eqb-true, ltb-false}
use Rattle.std.proofs.lemmas.List.{append-nil}
use Rattle.eip_exchange.specs.declared.birth.Birth.{Birth}
use Rattle.eip_exchange.specs.declared.birth.Origin.{Origin}
use Rattle.eip_exchange.specs.declared.birth.Origin.TheVariants as from
use Rattle.eip_exchange.specs.Ends.{out_of_memory}
use Rattle.eip_frames.specs.Fate.{Ends}
use Rattle.eip_ledger.specs.declared.entry.Entry.{Entry}
use Rattle.eip_ledger.specs.declared.entry.Kind.{Kind}
use Rattle.eip_ledger.specs.declared.entry.Kind.TheVariants.{Pull, Accept, Refuse, SourceEnd, SourceFault, Start, Take, Answer, Tick, Force, Starve, Return}
use Rattle.eip_ledger.specs.declared.place.Place.{Place}
use Rattle.eip_ledger.specs.declared.place.Place.TheVariants as place_is
use Rattle.eip_history.specs.Plan.{Plan}
use Rattle.eip_history.specs.Own.{Past, own, concerns, numbered, answer_in, is_starve, answers, starved, ticked}
use Rattle.eip_history.specs.Births.{births, fate, fate_by}
use Rattle.eip_history.specs.Place.{place_of, end_of}
use Rattle.eip_history.specs.Rules.{KeepsRules}
use Rattle.eip_history.specs.Moves.{IsParent, CanMove}
use Rattle.eip_history.proofs.Told.{own-other, own-here}
use Rattle.eip_history.proofs.Unborn.{legal-tail, legal-may, entry-born}
use Rattle.eip_history.proofs.Parts.{is_part_of}
use Rattle.eip_history.proofs.Places.{EndsNone, ended-same, place-other, place-end-other, place-tick, woken}
use Rattle.eip_history.proofs.Limit.{not-same}
use Rattle.eip_history.proofs.Clock.{clock-rises}

fate-own : (s : Plan) (b : Birth) (e : Entry) (o : Past) → answer_in e.kind ≡ [] → is_starve e.kind ≡ false → fate_by s b (e ∷ o) ≡ fate_by s b o
fate-own s b e o a v = rw (v, a) (ap (λ given. cond (starved o) (Ends out_of_memory b.message) (s.mean b given)) (append-nil (answers o)))

-- an entry without an answer that starves nobody changes no fate
pub fate-unanswered : (s : Plan) (e : Entry) (past : Past) (b : Birth) → answer_in e.kind ≡ [] → is_starve e.kind ≡ false → fate s (e ∷ past) b ≡ fate s past b
unfolding fate
fate-unanswered s e past b a v = elim (cases_Bool (concerns b.number e.kind)) [
  | inl t ↦ ap (fate_by s b) (own-here b.number e past t) ∙ fate-own s b e (own b.number past) a v
  | inr f ↦ ap (fate_by s b) (own-other b.number e past f)
]

pub ends-nobody : (s : Plan) (e : Entry) (past : Past) → answer_in e.kind ≡ [] → is_starve e.kind ≡ false → EndsNone s e past
ends-nobody s e past a v x b at = ended-same s e past x b at (ap end_of (fate-unanswered s e past b a v))

no-parent : (s : Plan) (past : Past) (b d : Birth) (n : ℕ) → numbered (births s past) n ≡ Some d → (IsParent s past b n → ⊥) → is_part_of b.number d.origin ≡ false
no-parent s past b d n at none = by_origin d.origin refl
  where
    by_origin : (o : Origin) → d.origin ≡ o → is_part_of b.number o ≡ false
    by_origin (from.Part p i) same = elim (cases_Bool (p == b.number)) [
      | inl t ↦ (let e : p ≡ b.number = eqb-true p b.number t in absurd (none (d, i, at, same ∙ ap (λ y. from.Part y i) e)))
      | inr f ↦ f
    ]
    by_origin (from.Source r item) same = refl
    by_origin (from.Queue q) same = refl
    by_origin (from.Group g) same = refl

-- an entry of n by which n may end
stays-beside : (s : Plan) (w limit : ℕ) (e : Entry) (past : Past) (n : ℕ) (b : Birth) → KeepsRules s w limit (e ∷ past) → concerns n e.kind ≡ true
    → ((y : ℕ) → y ≢ n → concerns y e.kind ≡ false) → ((t : ℕ) → ticked e.kind t ≡ t) → b.number ≢ n → (IsParent s past b n → ⊥)
    → place_of s (e ∷ past) b ≡ place_of s past b
stays-beside s w limit e past n b legal here only t other none =
    let d = entry-born s limit past e.worker n e.kind (legal-may s w limit e past legal) here in
    place-end-other s w limit e past n d.0 b (legal-tail s w limit e past legal) d.1 only other (no-parent s past b d.0 n d.1 none) t

-- an entry of n that ends nobody
stays-apart : (s : Plan) (w limit : ℕ) (e : Entry) (past : Past) (b : Birth) → KeepsRules s w limit (e ∷ past) → answer_in e.kind ≡ [] → is_starve e.kind ≡ false
    → ((t : ℕ) → ticked e.kind t ≡ t) → concerns b.number e.kind ≡ false → place_of s (e ∷ past) b ≡ place_of s past b
stays-apart s w limit e past b legal a v t other = place-other s w limit e past b (legal-tail s w limit e past legal) (ends-nobody s e past a v) other t

woken-same : (t : ℕ) (p : Place) → ((due : ℕ) → p ≡ place_is.Retry due → due ≤ t → ⊥) → woken t p ≡ p
woken-same t (place_is.Retry due) none = elim (cases_Bool (nat_lt t due)) [
  | inl l ↦ rw l refl
  | inr f ↦ absurd (none due refl (ltb-false t due f))
]
woken-same t (place_is.Ended e) none = refl
woken-same t (place_is.Queue q) none = refl
woken-same t (place_is.InHand w) none = refl
woken-same t place_is.Joining none = refl
woken-same t place_is.Ready none = refl

-- who cannot be moved by an entry stands where it stood
pub place-stays : (s : Plan) (w limit v : ℕ) (k : Kind) (past : Past) (b : Birth) → KeepsRules s w limit ((record { worker = v; kind = k }) ∷ past)
    → (CanMove s past k b → ⊥) → place_of s ((record { worker = v; kind = k }) ∷ past) b ≡ place_of s past b
place-stays s w limit v (Pull t) past b legal none = stays-apart s w limit _ past b legal refl refl (λ n. refl) refl
place-stays s w limit v (Accept t item m) past b legal none = stays-apart s w limit _ past b legal refl refl (λ n. refl) refl
place-stays s w limit v (Refuse t item c) past b legal none = stays-apart s w limit _ past b legal refl refl (λ n. refl) refl
place-stays s w limit v (SourceEnd t) past b legal none = stays-apart s w limit _ past b legal refl refl (λ n. refl) refl
place-stays s w limit v (SourceFault t) past b legal none = stays-apart s w limit _ past b legal refl refl (λ n. refl) refl
place-stays s w limit v Force past b legal none = stays-apart s w limit _ past b legal refl refl (λ n. refl) refl
place-stays s w limit v (Start q n) past b legal none = stays-apart s w limit _ past b legal refl refl (λ t. refl) (not-same b.number n none)
place-stays s w limit v (Take n) past b legal none = stays-apart s w limit _ past b legal refl refl (λ t. refl) (not-same b.number n none)
place-stays s w limit v (Return n) past b legal none = stays-apart s w limit _ past b legal refl refl (λ t. refl) (not-same b.number n none)
place-stays s w limit v (Answer n a) past b legal none =
    stays-beside s w limit _ past n b legal (eq-eqb n n refl) (λ y ne. not-same y n ne) (λ t. refl) (λ e. none (inl e)) (λ p. none (inr p))
place-stays s w limit v (Starve n) past b legal none =
    stays-beside s w limit _ past n b legal (eq-eqb n n refl) (λ y ne. not-same y n ne) (λ t. refl) (λ e. none (inl e)) (λ p. none (inr p))
place-stays s w limit v (Tick t) past b legal none =
    let tail = legal-tail s w limit _ past legal in
    let may = legal-may s w limit _ past legal in
    place-tick s w limit v t past b tail (clock-rises s w limit past t tail may.2) ∙ woken-same t (place_of s past b) (λ due at l. none (due, at, l))
