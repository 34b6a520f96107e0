-- Parts of an exchange: asked for, waited for, and their messages made one.
use Rattle.std.specs.Prelude.{ℕ, false, List, [], ◌∷◌, map, codes, Option, Some, None, Result, Ok, Err}
use Rattle.eip_exchange.specs.Ends.{fault}
use Rattle.eip_exchange.specs.declared.message.Message.{Message}
use Rattle.eip_exchange.specs.declared.end.Fault.{Fault}
use Rattle.eip_exchange.specs.declared.end.End.{End}
use Rattle.eip_exchange.specs.declared.end.End.TheVariants.{Completed, Handled, Failed}
use Rattle.eip_exchange.specs.declared.end.Ended.{Ended}
use Rattle.eip_exchange.specs.declared.birth.Work.TheVariants as work
use Rattle.eip_exchange.specs.declared.birth.Care.{Care}
use Rattle.eip_exchange.specs.declared.setting.Strategy.{Strategy}
use Rattle.eip_exchange.specs.declared.setting.Strategy.TheVariants as strategy
use Rattle.eip_strategy.specs.Folding.{folded}
use Rattle.eip_strategy.specs.declared.fault.StrategyFault.{StrategyFault}
use Rattle.eip_strategy.specs.declared.fault.StrategyFault.TheVariants as strategy_fault
use Rattle.eip_route.specs.declared.route.RouteSet.{RouteSet}
use Rattle.eip_frames.specs.declared.request.Seed.{Seed}
use Rattle.eip_frames.specs.declared.request.Request.TheVariants as request
use Rattle.eip_frames.specs.declared.answer.Answer.{Answer as Reply}
use Rattle.eip_frames.specs.declared.answer.Answer.TheVariants as reply
use Rattle.eip_meaning.specs.declared.context.Context.{Context}
use Rattle.eip_meaning.specs.Contexts.{place_in}
use Rattle.eip_meaning.specs.Values.{with_content, too_long}
use Rattle.eip_meaning.specs.Outcomes.{Outcome, Goes, Faults, Runner, unless_fault, ask}

-- ---- seeds

-- a part that runs a block
abbrev pub block_seed : Care → ℕ → Message → Seed
block_seed care b m = record { work = work.Block b; care = care; message = m }

-- a part that is one send to an endpoint, given by its printed form
abbrev pub send_seed : Care → List ℕ → Message → Seed
send_seed care text m = record { work = work.To text; care = care; message = m }

-- ---- asked for and waited for

abbrev pub first_born : Reply → ℕ
first_born (reply.Born first count) = first
first_born _ = 0

abbrev pub count_born : Reply → ℕ
count_born (reply.Born first count) = count
count_born _ = 0

abbrev pub parts_in : Reply → List Ended
parts_in (reply.Joined parts) = parts
parts_in _ = []

-- parts are born, of which the first one has index k, and once all of them have ended what follows gets their ends by index
abbrev pub spawned : RouteSet → Context → ℕ → List Seed → (List Ended → List Reply → Outcome) → List Reply → Outcome
spawned set c k seeds next A =
    ask set (request.Spawn seeds) (place_in c k)
    (λ a A'. ask set (request.Join (first_born a) (count_born a)) (place_in c k) (λ b A''. next (parts_in b) A'') A')
    A

-- ---- their ends

abbrev pub fault_of_end : End → Option Fault
fault_of_end Completed = None
fault_of_end Handled = None
fault_of_end (Failed f) = Some f

abbrev pub or_fault : Option Fault → Option Fault → Option Fault
or_fault None g = g
or_fault (Some f) g = Some f

-- the fault of the least index
abbrev pub first_fault : List Ended → Option Fault
first_fault [] = None
first_fault (e ∷ es) = or_fault (fault_of_end e.end) (first_fault es)

-- ---- their messages in one

-- a fault of a strategy, as an exchange has it
abbrev pub fault_of_strategy : StrategyFault → Fault
fault_of_strategy strategy_fault.TooLong = too_long
fault_of_strategy strategy_fault.NotNumber = fault (codes "NotNumber") []
fault_of_strategy strategy_fault.SumTooLarge = fault (codes "SumTooLarge") []
fault_of_strategy strategy_fault.NoMemory = fault (codes "OutOfMemory") []

abbrev pub messages_of : List Ended → List Message
messages_of es = map (λ e. e.message) es

-- the messages taken in by index; the original one is the parent's
abbrev pub made_one : Strategy → Message → List Message → Result (Option Message) StrategyFault
made_one strategy.Original m ms = Ok (Some m)
made_one s m ms = folded s ms

-- the body and the headers of the one message take the place of the parent's
abbrev pub taken_over : Result (Option Message) StrategyFault → Runner
taken_over (Ok None) m A = Goes m A
taken_over (Ok (Some new)) m A = Goes (with_content m new) A
taken_over (Err f) m A = Faults (fault_of_strategy f) false A

-- what the parent does behind its parts: the fault of the least index is its own
abbrev pub join_mean : Strategy → List Ended → Runner
join_mean s parts m A = unless_fault (first_fault parts) (λ A'. taken_over (made_one s m (messages_of parts)) m A') A
