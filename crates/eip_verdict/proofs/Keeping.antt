-- One entry more in a journal whose entries keep their rules.
use Rattle.std.proofs.Common.{ℕ, ◌∷◌}
use Rattle.eip_ledger.specs.declared.entry.Entry.{Entry}
use Rattle.eip_history.specs.Plan.{Plan}
use Rattle.eip_history.specs.Own.{Past}
use Rattle.eip_history.specs.Rules.{KeepsRules}
use Rattle.eip_verdict.specs.Verdicts.{Keeps}

pub keep-more : (s : Plan) (workers limit : ℕ) (e : Entry) (past : Past) → KeepsRules s workers limit past → Keeps s workers limit past e
    → KeepsRules s workers limit (e ∷ past)
unfolding KeepsRules
keep-more s workers limit e past h k = (h, k.0, k.1)

pub keep-head : (s : Plan) (workers limit : ℕ) (e : Entry) (past : Past) → KeepsRules s workers limit (e ∷ past) → Keeps s workers limit past e
unfolding KeepsRules
keep-head s workers limit e past h = (h.1, h.2)
