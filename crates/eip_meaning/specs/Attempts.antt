-- A step with its attempts.
use Rattle.std.specs.Prelude.{ℕ, zero, suc, ◌-◌, Bool, cond, ◌&&◌, nat_le, List, Option, Some, None, slice_get}
use Rattle.eip_exchange.specs.declared.message.Message.{Message}
use Rattle.eip_exchange.specs.declared.end.Fault.{Fault}
use Rattle.eip_exchange.specs.declared.setting.Clause.{Clause}
use Rattle.eip_exchange.specs.declared.setting.Policy.{Policy}
use Rattle.eip_error_handler.specs.Clauses.{chosen}
use Rattle.eip_error_handler.specs.Redelivery.{merged_policy, maximum_of, delay_of}
use Rattle.eip_route.specs.declared.route.RouteSet.{RouteSet}
use Rattle.eip_frames.specs.declared.request.Request.TheVariants as request
use Rattle.eip_frames.specs.declared.answer.Answer.{Answer as Reply}
use Rattle.eip_meaning.specs.declared.context.Context.{Context}
use Rattle.eip_meaning.specs.Contexts.{has_attempts, place_in}
use Rattle.eip_meaning.specs.Values.{redelivered}
use Rattle.eip_meaning.specs.Outcomes.{Outcome, Runner, caught, ask}

-- ---- policies

abbrev pub clause_at : RouteSet → Option ℕ → Option Clause
clause_at set None = None
clause_at set (Some k) = slice_get set.clauses k

-- the clause that takes a fault
abbrev pub clause_for : RouteSet → Fault → Option Clause
clause_for set f = clause_at set (chosen set.clauses f)

abbrev pub policy_with : Option Clause → Policy → Policy
policy_with None handler = handler
policy_with (Some k) handler = merged_policy k.policy handler

-- the handler's policy, with what the clause of the fault gives
abbrev pub policy_for : RouteSet → Fault → Policy
policy_for set f = policy_with (clause_for set f) set.handler.policy

-- ---- tries

-- what is done about a fault that has no attempt left
abbrev pub Handle : Type 0
Handle = Context → Fault → Runner

-- the number of a try, from 1, behind which so many more may come
abbrev pub number_of_try : ℕ → ℕ
number_of_try left = 1001 - left

-- a fault of the n-th try may be met by one more: where there are attempts here, the fault is one to be tried again, and n is at most the maximum
abbrev pub may_try_again : RouteSet → Context → ℕ → Fault → Bool → Bool
may_try_again set c n f again = has_attempts c && (again && nat_le n (maximum_of (policy_for set f)))

-- what follows a fault of the n-th try: a delay and the next try, where there may be one, else the handling
abbrev pub faulted : RouteSet → Handle → Context → ℕ → (next : Option Runner) → Message → Fault → Bool → List Reply → Outcome
faulted set handle c n None m f again A = handle c f (redelivered m n) A
faulted set handle c n (Some next) m f again A =
    cond (may_try_again set c n f again)
    (ask set (request.Wait (delay_of (policy_for set f) n)) (place_in c 0) (λ a A'. next m A') A)
    (handle c f (redelivered m n) A)

-- a step with its tries, of which `left` may follow this one: each is made on the message as it stood at the step
unfoldable pub tries : RouteSet → Handle → (try : Runner) → Context → (left : ℕ) → Runner
tries set handle try c zero m A =
    caught (try (redelivered m (number_of_try zero)) A) (λ f again A'. faulted set handle c (number_of_try zero) None m f again A')
tries set handle try c (suc left) m A =
    caught (try (redelivered m (number_of_try (suc left))) A)
    (λ f again A'. faulted set handle c (number_of_try (suc left)) (Some (λ m' A''. tries set handle try c left m' A'')) m f again A')
