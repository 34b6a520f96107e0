-- How many exchanges there are, and how many of them stand at which kind of place.
use Rattle.std.specs.Prelude.{ℕ, ◌+◌, not, Bool, true, false, [], ◌∷◌, length, filter, take}
use Rattle.eip_exchange.specs.declared.birth.Birth.{Birth}
use Rattle.eip_exchange.specs.declared.end.End.TheVariants as end
use Rattle.eip_ledger.specs.declared.entry.Kind.{Kind}
use Rattle.eip_ledger.specs.declared.entry.Kind.TheVariants.{Accept, Refuse}
use Rattle.eip_ledger.specs.declared.place.Place.{Place}
use Rattle.eip_ledger.specs.declared.place.Place.TheVariants as place_is
use Rattle.eip_history.specs.Plan.{Plan}
use Rattle.eip_history.specs.Own.{Past}
use Rattle.eip_history.specs.Births.{births}
use Rattle.eip_history.specs.Place.{place_of, count_at, is_ended}
use Rattle.eip_history.specs.Texts.{is_completed, is_handled}

-- did it end with a fault
abbrev pub is_failed : Place → Bool
is_failed (place_is.Ended (end.Failed f)) = true
is_failed _ = false

-- has it not ended
abbrev pub is_waiting : Place → Bool
is_waiting p = not (is_ended p)

-- all exchanges, of whatever origin
abbrev pub total_count : Plan → Past → ℕ
total_count s past = length (births s past)

-- the exchanges that ended as their route ends
abbrev pub completed_count : Plan → Past → ℕ
completed_count s past = count_at s past is_completed

-- the exchanges that a handler ended
abbrev pub handled_count : Plan → Past → ℕ
handled_count s past = count_at s past is_handled

-- the exchanges that ended with a fault
abbrev pub failed_count : Plan → Past → ℕ
failed_count s past = count_at s past is_failed

-- the exchanges that have not ended
abbrev pub waiting_count : Plan → Past → ℕ
waiting_count s past = count_at s past is_waiting

-- how many of the first k exchanges pass a test of their place
unfoldable pub count_of_first : Plan → Past → (Place → Bool) → ℕ → ℕ
count_of_first s past p k = length (filter (λ (b : Birth). p (place_of s past b)) (take k (births s past)))

-- an Accept takes one item in
abbrev pub accepted_in : Kind → ℕ
accepted_in (Accept t item m) = 1
accepted_in _ = 0

-- the items that became exchanges
unfoldable pub accepted_count : Past → ℕ
accepted_count [] = 0
accepted_count (e ∷ past) = accepted_count past + accepted_in e.kind

-- a Refuse turns one item away
abbrev pub refused_in : Kind → ℕ
refused_in (Refuse t item c) = 1
refused_in _ = 0

-- the items that were refused
unfoldable pub refused_count : Past → ℕ
refused_count [] = 0
refused_count (e ∷ past) = refused_count past + refused_in e.kind
