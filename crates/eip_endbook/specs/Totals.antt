-- How the ends of exchanges are counted one by one.
use Rattle.std.specs.Prelude.{ℕ, ◌≡◌, ◌+◌, Option, Some, None}
use Rattle.eip_exchange.specs.declared.end.Ending.{Ending}
use Rattle.eip_exchange.specs.declared.end.Ending.TheVariants as ending
use Rattle.eip_history.specs.Plan.{Plan}
use Rattle.eip_history.specs.Own.{Past}
use Rattle.eip_history.specs.Texts.{is_completed, is_handled}
use Rattle.eip_history.specs.Counts.{is_failed, is_waiting, count_of_first}
use Rattle.eip_endbook.specs.declared.counts.Ends.{Ends}

-- one more exchange, which ended so or has not ended
abbrev pub counted : Option Ending → Ends → Ends
counted (Some ending.Completed) e = record e { completed = e.completed + 1 }
counted (Some ending.Handled) e = record e { handled = e.handled + 1 }
counted (Some ending.Failed) e = record e { failed = e.failed + 1 }
counted None e = record e { waiting = e.waiting + 1 }

-- the counts of the first k exchanges
pub record CountsFirst (s : Plan) (past : Past) (k : ℕ) (e : Ends) : Type 0 where
  pub completed : e.completed ≡ count_of_first s past is_completed k
  pub handled : e.handled ≡ count_of_first s past is_handled k
  pub failed : e.failed ≡ count_of_first s past is_failed k
  pub waiting : e.waiting ≡ count_of_first s past is_waiting k
