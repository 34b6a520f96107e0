-- Fan-outs: the split, the multicast and the recipient list.
use Rattle.std.specs.Prelude.{ℕ, Bool, true, false, cond, ◌&&◌, ltb, nat_le, is_some, List, [], ◌∷◌, ◌++◌, length, map, codes, decimal, unwrap_or, Result, Ok, Err}
use Rattle.eip_exchange.specs.Ends.{fault}
use Rattle.eip_exchange.specs.declared.message.Message.{Message}
use Rattle.eip_exchange.specs.declared.end.Fault.{Fault}
use Rattle.eip_exchange.specs.declared.end.Ended.{Ended}
use Rattle.eip_exchange.specs.declared.setting.How.{How}
use Rattle.eip_exchange.specs.declared.setting.How.TheVariants as how_variant
use Rattle.eip_exchange.specs.declared.setting.Strategy.{Strategy}
use Rattle.eip_exchange.specs.declared.setting.Strategy.TheVariants as strategy
use Rattle.eip_uri.specs.Printed.{printed}
use Rattle.eip_uri.specs.declared.uri.Uri.{Uri}
use Rattle.eip_splitter.specs.Splitting.{parts}
use Rattle.eip_splitter.specs.declared.fault.SplitFault.{SplitFault}
use Rattle.eip_splitter.specs.declared.fault.SplitFault.TheVariants as split_fault
use Rattle.eip_router.specs.Recipients.{recipients}
use Rattle.eip_router.specs.declared.fault.RecipientFault.{RecipientFault}
use Rattle.eip_router.specs.declared.fault.RecipientFault.TheVariants as recipient_fault
use Rattle.eip_route.specs.Faults.{next_number}
use Rattle.eip_route.specs.declared.step.Expr.{Expr}
use Rattle.eip_route.specs.declared.step.Fan.{Fan}
use Rattle.eip_route.specs.declared.route.RouteSet.{RouteSet}
use Rattle.eip_frames.specs.declared.request.Seed.{Seed}
use Rattle.eip_frames.specs.declared.answer.Answer.{Answer as Reply}
use Rattle.eip_meaning.specs.declared.context.Context.{Context}
use Rattle.eip_meaning.specs.Contexts.{care_of_parts}
use Rattle.eip_meaning.specs.Values.{value_of, short, with_short}
use Rattle.eip_meaning.specs.Parts.{block_seed, send_seed, spawned, first_fault, join_mean}
use Rattle.eip_meaning.specs.Outcomes.{Outcome, Goes, Faults, Runner}

-- ---- the parts' order

-- all at once
abbrev pub at_once : RouteSet → Context → Strategy → List Seed → Runner
at_once set c s seeds m A = spawned set c 0 seeds (λ ends A'. join_mean s ends m A') A

-- one behind the other: those that have ended, and the seeds that are left, from index k; with `stop` none behind the first that failed
abbrev pub in_turn : RouteSet → Context → Strategy → (stop : Bool) → List Ended → ℕ → List Seed → Runner
in_turn set c s stop ended k [] m A = join_mean s ended m A
in_turn set c s stop ended k (x ∷ xs) m A =
    spawned set c k (x ∷ [])
    (λ ends A'. cond (stop && is_some (first_fault ends)) (join_mean s (ended ++ ends) m A') (in_turn set c s stop (ended ++ ends) (next_number k) xs m A'))
    A

-- a fan-out over its seeds; without any nothing is asked and the message stays
abbrev pub fan_mean : RouteSet → Context → Fan → Strategy → List Seed → Runner
fan_mean set c fan s [] m A = Goes m A
fan_mean set c fan s (x ∷ xs) m A = cond fan.parallel (at_once set c s (x ∷ xs) m A) (in_turn set c s fan.stop [] 0 (x ∷ xs) m A)

-- ---- their seeds

abbrev pub too_many_parts : ℕ → Fault
too_many_parts n = fault (codes "TooManyParts") (decimal n)

abbrev pub fault_of_split : SplitFault → Fault
fault_of_split (split_fault.TooManyParts n) = too_many_parts n
fault_of_split split_fault.NotArray = fault (codes "NotArray") []
fault_of_split split_fault.NoMemory = fault (codes "OutOfMemory") []

abbrev pub with_parts : Result (List Message) SplitFault → (List Message → List Reply → Outcome) → List Reply → Outcome
with_parts (Ok ms) k A = k ms A
with_parts (Err f) k A = Faults (fault_of_split f) false A

-- a body is cut by a text that isn't empty, or otherwise
abbrev pub can_cut : How → Bool
can_cut (how_variant.Token token) = ltb 0 (length token)
can_cut how_variant.JsonArray = true
can_cut (how_variant.Batch key) = true

-- the pieces of a message; an empty token cuts nothing
abbrev pub cut : How → Message → Result (List Message) SplitFault
cut how m = cond (can_cut how) (parts how m) (Ok [])

-- a part for each piece of the body; without a strategy the message stays
abbrev pub split_mean : RouteSet → Context → How → Fan → ℕ → Runner
split_mean set c how fan b m A =
    with_parts (cut how m)
    (λ ms A'. fan_mean set c fan (unwrap_or fan.strategy strategy.Original) (map (λ piece. block_seed (care_of_parts c fan.share) b piece) ms) m A')
    A

-- a part for each block; without a strategy the last part's message stays
abbrev pub multicast_mean : RouteSet → Context → Fan → List ℕ → Runner
multicast_mean set c fan bs m A =
    cond (nat_le (length bs) 10000)
    (fan_mean set c fan (unwrap_or fan.strategy strategy.Latest) (map (λ b. block_seed (care_of_parts c fan.share) b m) bs) m A)
    (Faults (too_many_parts (length bs)) false A)

abbrev pub fault_of_recipient : RecipientFault → Fault
fault_of_recipient (recipient_fault.TooManyParts n) = too_many_parts n
fault_of_recipient (recipient_fault.BadRecipient k) = fault (codes "BadRecipient") (decimal k)
fault_of_recipient recipient_fault.NoMemory = fault (codes "OutOfMemory") []

abbrev pub with_recipients : Result (List Uri) RecipientFault → (List Uri → List Reply → Outcome) → List Reply → Outcome
with_recipients (Ok us) k A = k us A
with_recipients (Err f) k A = Faults (fault_of_recipient f) false A

-- the endpoints that a value lists; between empty delimiters there is none
abbrev pub listed : List ℕ → List ℕ → Result (List Uri) RecipientFault
listed delimiter value = cond (ltb 0 (length delimiter)) (recipients delimiter value) (Ok [])

-- a part for each endpoint that the value lists, which is one send to it
abbrev pub recipients_mean : RouteSet → Context → Expr → List ℕ → Fan → Runner
recipients_mean set c list delimiter fan m A =
    with_short (short (value_of set c list m))
    (λ value A'. with_recipients (listed delimiter value)
    (λ us A''. fan_mean set c fan (unwrap_or fan.strategy strategy.Latest) (map (λ u. send_seed (care_of_parts c fan.share) (printed u) m) us) m A'')
    A')
    A
