-- What an entry does to the joins that are open.
use Rattle.std.proofs.Common.{◌≡◌, ℕ, true, false, [], ◌∷◌, Option, Some, None, is_some, refl, ap, ◌∙◌, inl, inr}
use Rattle.std.proofs.lemmas.Bool.{cases_Bool}
use Rattle.eip_frames.specs.declared.answer.Answer.{Answer as Reply}
use Rattle.eip_exchange.specs.declared.end.Ended.{Ended as Finished}
use Rattle.eip_ledger.specs.declared.entry.Entry.{Entry}
use Rattle.eip_ledger.specs.declared.entry.Kind.{Kind}
use Rattle.eip_ledger.specs.declared.entry.Kind.TheVariants.{Answer, Starve}
use Rattle.eip_history.specs.Plan.{Plan}
use Rattle.eip_history.specs.Own.{Past, own, concerns, answer_in, is_starve, last_answer, or_answer}
use Rattle.eip_history.specs.Place.{ended}
use Rattle.eip_history.specs.Rules.{KeepsRules}
use Rattle.eip_history.specs.Laws.{PlanLaws}
use Rattle.eip_history.specs.TableWords.{unless_ended, born_last, open_parts, parts_in, moves_joins}
use Rattle.eip_history.proofs.Told.{own-other, own-here}
use Rattle.eip_history.proofs.Unborn.{legal-may, entry-born}
use Rattle.eip_history.proofs.Final.{ended-keeps}
use Rattle.eip_history.proofs.Moves.{ends-nobody}
use Rattle.eip_history.proofs.Acting.{ended-beside}

-- an entry that isn't x's leaves x's join as it was
pub parts-same : (s : Plan) (laws : PlanLaws s) (w limit : ℕ) (e : Entry) (past : Past) (x : ℕ) → KeepsRules s w limit (e ∷ past)
    → concerns x e.kind ≡ false → open_parts s (e ∷ past) x ≡ open_parts s past x
unfolding open_parts
parts-same s laws w limit e past x legal c =
    ap (λ o. unless_ended o (born_last (last_answer (own x (e ∷ past))))) (ended-beside s laws w limit e past x legal c)
    ∙ ap (λ o. unless_ended (ended s past x) (born_last (last_answer o))) (own-other x e past c)

last-parts : (k : Kind) (o : Option Reply) → born_last (or_answer k o) ≡ parts_in k (born_last o)
last-parts (Answer x a) o = refl
last-parts _ o = refl

unless-twice : (o p : Option Finished) (q : Option (ℕ × ℕ)) → (is_some o ≡ true → is_some p ≡ true) → (k : Kind)
    → unless_ended p (parts_in k q) ≡ unless_ended p (parts_in k (unless_ended o q))
unless-twice None p q h k = refl
unless-twice (Some u) (Some v) q h k = refl
unless-twice (Some u) None q h k = absurd (let g = h refl in cc g)

-- an entry of x: a Born opens its join, another answer closes it, and so does its end
pub parts-own : (s : Plan) (w limit : ℕ) (e : Entry) (past : Past) (x : ℕ) → KeepsRules s w limit (e ∷ past) → concerns x e.kind ≡ true
    → open_parts s (e ∷ past) x ≡ unless_ended (ended s (e ∷ past) x) (parts_in e.kind (open_parts s past x))
unfolding open_parts
parts-own s w limit e past x legal c =
    ap (λ o. unless_ended (ended s (e ∷ past) x) (born_last (last_answer o))) (own-here x e past c)
    ∙ (ap (unless_ended (ended s (e ∷ past) x)) (last-parts e.kind (last_answer (own x past)))
    ∙ unless-twice (ended s past x) (ended s (e ∷ past) x) (born_last (last_answer (own x past))) (ended-keeps s w limit e past x legal) e.kind)

unless-same : (o : Option Finished) (q : Option (ℕ × ℕ)) → unless_ended o (unless_ended o q) ≡ unless_ended o q
unless-same None q = refl
unless-same (Some f) q = refl

-- an entry by which no join opens or closes leaves each as it was
pub parts-stay : (s : Plan) (laws : PlanLaws s) (w limit v : ℕ) (k : Kind) (past : Past) (x : ℕ) → KeepsRules s w limit ((record { worker = v; kind = k }) ∷ past)
    → moves_joins k ≡ false → open_parts s ((record { worker = v; kind = k }) ∷ past) x ≡ open_parts s past x
unfolding open_parts
parts-stay s laws w limit v k past x legal h = elim (cases_Bool (concerns x k)) [
  | inl c ↦ here c
  | inr f ↦ parts-same s laws w limit e past x legal f
]
  where
    e : Entry
    e = record { worker = v; kind = k }

    no-answer : (k' : Kind) → moves_joins k' ≡ false → answer_in k' ≡ []
    no-answer (Answer y a) g = absurd (cc g)
    no-answer _ g = refl

    no-starve : (k' : Kind) → moves_joins k' ≡ false → is_starve k' ≡ false
    no-starve (Starve y) g = absurd (cc g)
    no-starve _ g = refl

    no-parts : (k' : Kind) → moves_joins k' ≡ false → (q : Option (ℕ × ℕ)) → parts_in k' q ≡ q
    no-parts (Answer y a) g q = absurd (cc g)
    no-parts _ g q = refl

    here : concerns x k ≡ true → open_parts s (e ∷ past) x ≡ open_parts s past x
    here c =
        let b = entry-born s limit past v x k (legal-may s w limit e past legal) c in
        let same : ended s (e ∷ past) x ≡ ended s past x = ends-nobody s e past (no-answer k h) (no-starve k h) x b.0 b.1 in
        parts-own s w limit e past x legal c
        ∙ (ap (unless_ended (ended s (e ∷ past) x)) (no-parts k h (open_parts s past x))
        ∙ (ap (λ o. unless_ended o (open_parts s past x)) same ∙ unless-same (ended s past x) (born_last (last_answer (own x past)))))
