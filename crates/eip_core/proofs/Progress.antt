-- An entry is a turn, or leaves less to do.
use Rattle.std.proofs.Common.{ℕ, ◌∷◌, arith, inl, inr}
use Rattle.eip_ledger.specs.declared.entry.Entry.{Entry}
use Rattle.eip_ledger.specs.declared.entry.Kind.{Kind}
use Rattle.eip_history.specs.Plan.{Plan}
use Rattle.eip_history.specs.Own.{Past}
use Rattle.eip_history.specs.Rules.{KeepsRules}
use Rattle.eip_history.specs.Laws.{PlanLaws}
use Rattle.eip_history.proofs.Main.{turns-or-falls}
use Rattle.eip_history.proofs.Limit.{turns-more}
use Rattle.eip_core.specs.Drain.{Progresses}

pub progress-one : (s : Plan) (laws : PlanLaws s) (w limit v : ℕ) (k : Kind) (past : Past)
    → KeepsRules s w limit ((record { worker = v; kind = k }) ∷ past)
    → Progresses s past ((record { worker = v; kind = k }) ∷ past)
progress-one s laws w limit v k past legal =
    let e : Entry = record { worker = v; kind = k } in
    record {
      turns_rise = omega (arith, turns-more e past);
      less = λ same. elim (turns-or-falls s laws w limit v k past legal) [
        | inl more ↦ absurd (omega (arith, same, more))
        | inr less ↦ less
      ];
    }

pub progress-trans : {s : Plan} {a b c : Past} → Progresses s a b → Progresses s b c → Progresses s a c
progress-trans p q = record {
  turns_rise = omega (arith, p.turns_rise, q.turns_rise);
  less = λ same. let first = p.less (omega (arith, p.turns_rise, q.turns_rise, same)) in
      let second = q.less (omega (arith, p.turns_rise, q.turns_rise, same)) in
      omega (arith, first, second);
}
