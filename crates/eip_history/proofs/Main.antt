-- The laws in the form that the layers above cite.
use Rattle.std.proofs.Common.{◌≡◌, ◌≢◌, ℕ, ◌+◌, ◌<◌, ◌≤◌, ◌∷◌, None, refl, inl, inr, ◌⊎◌}
use Rattle.eip_ledger.specs.declared.entry.Entry.{Entry}
use Rattle.eip_ledger.specs.declared.entry.Kind.{Kind}
use Rattle.eip_ledger.specs.declared.entry.Kind.TheVariants.{Pull, Accept, Refuse, SourceEnd, SourceFault, Start, Take, Answer, Tick, Force, Starve, Return}
use Rattle.eip_history.specs.Plan.{Plan}
use Rattle.eip_history.specs.Own.{Past, turns}
use Rattle.eip_history.specs.Place.{hands}
use Rattle.eip_history.specs.Rules.{IsLegal, KeepsRules, May, IsBelow}
use Rattle.eip_history.specs.Laws.{PlanLaws}
use Rattle.eip_history.specs.Stop.{stop_of}
use Rattle.eip_history.specs.Work.{work}
use Rattle.eip_history.proofs.Unborn.{legal-may, legal-tail}
use Rattle.eip_history.proofs.Waits.{Acts, not-stuck}
use Rattle.eip_history.proofs.Allowed.{waits-below}
use Rattle.eip_history.proofs.Falls.{falls}
use Rattle.eip_history.proofs.Ticks.{falls-tick}
use Rattle.eip_history.proofs.Clock.{clock-rises}

-- each legal entry is a turn or lowers the work
pub turns-or-falls : (s : Plan) (laws : PlanLaws s) (w limit v : ℕ) (k : Kind) (past : Past)
    → KeepsRules s w limit ((record { worker = v; kind = k }) ∷ past)
    → (turns ((record { worker = v; kind = k }) ∷ past) ≡ turns past + 1) ⊎ (work s ((record { worker = v; kind = k }) ∷ past) < work s past)
unfolding turns
turns-or-falls s laws w limit v (Accept t i m) past legal = inl refl
turns-or-falls s laws w limit v (Refuse t i c) past legal = inl refl
turns-or-falls s laws w limit v (Answer x a) past legal = inl refl
turns-or-falls s laws w limit v (Tick t) past legal =
    let tail = legal-tail s w limit (record { worker = v; kind = Tick t }) past legal in
    inr (falls-tick s laws w limit v t past legal (clock-rises s w limit past t tail (legal-may s w limit _ past legal).2))
turns-or-falls s laws w limit v (Return x) past legal = absurd (legal-may s w limit _ past legal)
turns-or-falls s laws w limit v (Pull t) past legal = inr (falls s laws w limit v (Pull t) past legal refl (λ t e. cc e))
turns-or-falls s laws w limit v (SourceEnd t) past legal = inr (falls s laws w limit v (SourceEnd t) past legal refl (λ t e. cc e))
turns-or-falls s laws w limit v (SourceFault t) past legal = inr (falls s laws w limit v (SourceFault t) past legal refl (λ t e. cc e))
turns-or-falls s laws w limit v (Start q x) past legal = inr (falls s laws w limit v (Start q x) past legal refl (λ t e. cc e))
turns-or-falls s laws w limit v (Take x) past legal = inr (falls s laws w limit v (Take x) past legal refl (λ t e. cc e))
turns-or-falls s laws w limit v (Starve x) past legal = inr (falls s laws w limit v (Starve x) past legal refl (λ t e. cc e))
turns-or-falls s laws w limit v Force past legal = inr (falls s laws w limit v Force past legal refl (λ t e. cc e))

-- where no hand is out and the run is at no stop, it is below the limit and somebody may act
pub somebody-acts : (s : Plan) (laws : PlanLaws s) (w limit : ℕ) (past : Past) → KeepsRules s w limit past → hands s past ≡ 0
    → stop_of s limit past ≡ None → IsBelow s limit past × Acts s limit past
somebody-acts s laws w limit past legal home stop =
    let b = waits-below s w limit past legal home stop in
    (b.1, not-stuck s laws w limit past legal home b.0)

-- an entry that meets its rule, behind a legal past
pub legal-add : (s : Plan) (w limit : ℕ) (e : Entry) (past : Past) → IsLegal s w limit past → e.worker ≤ w → May s limit past e.worker e.kind
    → IsLegal s w limit (e ∷ past)
unfolding KeepsRules
legal-add s w limit e past l v m = record { few_workers = l.few_workers; some_turns = l.some_turns; few_turns = l.few_turns; entries = (l.entries, v, m) }
