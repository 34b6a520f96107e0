-- What is always true of a step with its attempts.
use Rattle.std.specs.Prelude.{ℕ, suc, ◌≡◌, Bool, true, false, cond, List}
use Rattle.eip_exchange.specs.declared.birth.Care.TheVariants as care
use Rattle.eip_exchange.specs.declared.end.Fault.{Fault}
use Rattle.eip_exchange.specs.declared.message.Message.{Message}
use Rattle.eip_error_handler.specs.Redelivery.{delay_of}
use Rattle.eip_route.specs.declared.route.RouteSet.{RouteSet}
use Rattle.eip_frames.specs.declared.request.Request.TheVariants as request
use Rattle.eip_frames.specs.declared.answer.Answer.{Answer as Reply}
use Rattle.eip_meaning.specs.declared.context.Context.{Context}
use Rattle.eip_meaning.specs.Contexts.{care_of_parts, in_handler, place_in}
use Rattle.eip_meaning.specs.Outcomes.{Outcome, Asks, Goes, Stops, Faults, Stray, Runner, ask}
use Rattle.eip_meaning.specs.Values.{redelivered}
use Rattle.eip_meaning.specs.Attempts.{Handle, tries, number_of_try, may_try_again, policy_for}

abbrev pub is_fault : Outcome → Bool
is_fault (Asks q p) = false
is_fault (Goes m A) = false
is_fault (Stops e m A) = false
is_fault (Faults f again A) = true
is_fault Stray = false

-- a step that needs no further attempt gives what its try gives
abbrev pub TriedOnce : Type 0
TriedOnce = (set : RouteSet) (handle : Handle) (try : Runner) (c : Context) (left : ℕ) (m : Message) (A : List Reply)
    → is_fault (try (redelivered m (number_of_try left)) A) ≡ false
    → tries set handle try c left m A ≡ try (redelivered m (number_of_try left)) A

-- behind a fault the same step is tried again on the message as it stood, after the delay, exactly where one more attempt is allowed; else the fault is handled
abbrev pub TriedAgain : Type 0
TriedAgain = (set : RouteSet) (handle : Handle) (try : Runner) (c : Context) (left : ℕ) (m : Message) (A A' : List Reply) (f : Fault) (again : Bool)
    → try (redelivered m (number_of_try (suc left))) A ≡ Faults f again A'
    → tries set handle try c (suc left) m A
    ≡ cond (may_try_again set c (number_of_try (suc left)) f again)
    (ask set (request.Wait (delay_of (policy_for set f) (number_of_try (suc left)))) (place_in c 0) (λ a A''. tries set handle try c left m A'') A')
    (handle c f (redelivered m (number_of_try (suc left))) A')

-- no further attempt where a fault is handled, and none of a bare exchange; so parts that are born there are bare
abbrev pub HandlersTryOnce : Type 0
HandlersTryOnce = (set : RouteSet) (c : Context) (n : ℕ) (f : Fault) (again share : Bool)
    → (may_try_again set (in_handler c) n f again ≡ false) × (may_try_again set (record c { care = care.Bare }) n f again ≡ false) × (care_of_parts (in_handler c) share ≡ care.Bare)
