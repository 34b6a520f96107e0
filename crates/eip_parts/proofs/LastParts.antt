-- The last part of a doTry, and the check of a catch.
use Rattle.std.proofs.Common.{◌≡◌, ◌≢◌, ◌+◌, ◌<◌, ◌≤◌, ℕ, zero, suc, Bool, false, List, [], ◌∷◌, length, drop, refl, ap, ◌∙◌, arith}
use Rattle.std.specs.Prelude.{Option, Some, None, slice_get}
use Rattle.eip_exchange.specs.declared.message.Message.{Message}
use Rattle.eip_exchange.specs.declared.end.Fault.{Fault}
use Rattle.eip_exchange.specs.declared.end.Ended.{Ended}
use Rattle.eip_route.specs.declared.route.RouteSet.{RouteSet}
use Rattle.eip_route.specs.declared.step.Catch.{Catch}
use Rattle.eip_meaning.specs.declared.context.Context.{Context}
use Rattle.eip_meaning.specs.Parts.{fault_of_end, or_fault}
use Rattle.eip_progress.specs.declared.tried.Tried.TheVariants as tried
use Rattle.eip_progress.specs.Answered.{ends_tried, part_left, catches_tried, catch_held}

pub last_part : (set : RouteSet) (c : Context) (catches : List Catch) (finish : Option ℕ) (k : ℕ) (pending : Option Fault) (e : Ended) (m : Message) → k ≢ 0 → k ≢ 1 →
    part_left set c catches finish k pending e m ≡ ends_tried (or_fault (fault_of_end e.end) pending) e.message m
last_part set c catches finish zero pending e m h h' = absurd (h refl)
last_part set c catches finish (suc zero) pending e m h h' = absurd (h' refl)
last_part set c catches finish (suc (suc k)) pending e m h h' = refl

get_none : {X : Type 0} (l : List X) (k : ℕ) → length l ≤ k → slice_get l k ≡ None
get_none [] zero h = refl
get_none [] (suc k) h = refl
get_none (x ∷ xs) zero h = absurd (omega (arith, h))
get_none (x ∷ xs) (suc k) h = get_none xs k (omega (arith, h))

get_some : {X : Type 0} (l : List X) (k : ℕ) → k < length l → (x : X) × (slice_get l k ≡ Some x)
get_some [] k h = absurd (omega (arith, h))
get_some (x ∷ xs) zero h = (x, refl)
get_some (x ∷ xs) (suc k) h = get_some xs k (omega (arith, h))

-- a catch that isn't there
pub not_there : (set : RouteSet) (c : Context) (catches : List Catch) (finish : Option ℕ) (k : ℕ) (holds : Bool) (f : Fault) (x m : Message) → length catches ≤ k →
    catch_held set c catches finish k (slice_get catches k) holds f x m ≡ tried.Goes m
not_there set c catches finish k holds f x m h = ap (λ (o : Option Catch). catch_held set c catches finish k o holds f x m) (get_none catches k h)

-- a catch whose check doesn't hold
pub passed_by : (set : RouteSet) (c : Context) (catches : List Catch) (finish : Option ℕ) (k : ℕ) (f : Fault) (x m : Message) → k < length catches →
    catch_held set c catches finish k (slice_get catches k) false f x m ≡ catches_tried set c finish (k + 1) (drop (k + 1) catches) f x m
passed_by set c catches finish k f x m h =
    let n : suc k ≡ k + 1 = omega arith in
    ap (λ (o : Option Catch). catch_held set c catches finish k o false f x m) (get_some catches k h).1
    ∙ ap (λ (j : ℕ). catches_tried set c finish j (drop j catches) f x m) n
