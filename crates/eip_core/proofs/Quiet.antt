-- What is left to a run that goes on where nobody may act: somebody is due, or open groups are closed by force.
use Rattle.std.proofs.Common.{◌≡◌, ℕ, true, Some, None}
use Rattle.eip_history.specs.Plan.{Plan}
use Rattle.eip_history.specs.Own.{Past}
use Rattle.eip_history.specs.Groups.{is_forced}
use Rattle.eip_history.specs.Births.{groups}
use Rattle.eip_history.specs.Place.{hands, ready_numbers}
use Rattle.eip_history.specs.Rules.{KeepsRules, IsQuiet, dues, least, first, any_group, startable, unfinished}
use Rattle.eip_history.specs.Stop.{stop_of}
use Rattle.eip_history.specs.Laws.{PlanLaws}
use Rattle.eip_history.proofs.Waits.{Acts, Runs, Starts, Pulls, Ticks, Forces}
use Rattle.eip_history.proofs.Main.{somebody-acts}

-- where nobody is Ready, no queue can start anybody, no source is left, nobody is due and the run goes on, groups are closed by force
pub next-force : (s : Plan) (w limit : ℕ) (past : Past) → KeepsRules s w limit past → PlanLaws s → hands s past ≡ 0 → stop_of s limit past ≡ None
    → first (ready_numbers s past) ≡ None → first (startable s past) ≡ None → ((t : ℕ) → first (unfinished s past) ≡ Some t → ⊥)
    → ((t : ℕ) → IsQuiet s past → least (dues s past) ≡ Some t → ⊥) → IsQuiet s past × (least (dues s past) ≡ None) × (any_group (is_forced s) (groups s past) ≡ true)
next-force s w limit past legal laws home waits nobody queues sources dues_none = by_acts (somebody-acts s laws w limit past legal home waits).1
  where
    by_acts : Acts s limit past → IsQuiet s past × (least (dues s past) ≡ None) × (any_group (is_forced s) (groups s past) ≡ true)
    by_acts (Runs x h) = absurd (cc h)
    by_acts (Starts q h) = absurd (cc h)
    by_acts (Pulls t h) = absurd (sources t h)
    by_acts (Ticks t quiet h) = absurd (dues_none t quiet h)
    by_acts (Forces quiet none h) = (quiet, none, h)
