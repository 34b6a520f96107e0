-- What one try of a step gives first, as data.
use Rattle.std.specs.Prelude.{ℕ, suc, Bool, false, cond, nat_le, List, [], ◌∷◌, length, map, codes, Option, Some, None, Result, Ok, Err}
use Rattle.eip_exchange.specs.Ends.{fault}
use Rattle.eip_exchange.specs.Headers.{is_one_too_many}
use Rattle.eip_exchange.specs.declared.message.Message.{Message}
use Rattle.eip_exchange.specs.declared.end.Fault.{Fault}
use Rattle.eip_exchange.specs.declared.birth.Care.TheVariants as care
use Rattle.eip_simple.specs.Values.{template_value}
use Rattle.eip_simple.specs.Holding.{predicate_holds}
use Rattle.eip_uri.specs.Printed.{printed}
use Rattle.eip_uri.specs.declared.uri.Uri.{Uri}
use Rattle.eip_splitter.specs.declared.fault.SplitFault.{SplitFault}
use Rattle.eip_router.specs.declared.fault.RecipientFault.{RecipientFault}
use Rattle.eip_route.specs.Goals.{goal_of}
use Rattle.eip_route.specs.declared.goal.Goal.{Goal}
use Rattle.eip_route.specs.declared.goal.Goal.TheVariants as goal
use Rattle.eip_route.specs.declared.route.RouteSet.{RouteSet}
use Rattle.eip_route.specs.declared.step.Check.{Check}
use Rattle.eip_route.specs.declared.step.Check.TheVariants as check
use Rattle.eip_route.specs.declared.step.Fan.{Fan}
use Rattle.eip_route.specs.declared.step.Step.{Step}
use Rattle.eip_route.specs.declared.step.Step.TheVariants as step
use Rattle.eip_frames.specs.declared.request.Seed.{Seed}
use Rattle.eip_frames.specs.declared.request.Target.{Target}
use Rattle.eip_frames.specs.declared.request.Request.{Request}
use Rattle.eip_frames.specs.declared.request.Request.TheVariants as request
use Rattle.eip_meaning.specs.declared.context.Context.{Context}
use Rattle.eip_meaning.specs.Contexts.{care_of_parts}
use Rattle.eip_meaning.specs.Values.{seen_in, value_of, short, too_long, with_body, with_header, without_the_header, with_property}
use Rattle.eip_meaning.specs.Sends.{limit_fault, no_consumer, form_fault, target_of, log_of, is_queue, discards}
use Rattle.eip_meaning.specs.Parts.{block_seed, send_seed}
use Rattle.eip_meaning.specs.FanOuts.{too_many_parts, fault_of_split, cut, fault_of_recipient, listed}
use Rattle.eip_meaning.specs.Steps.{log_name, thrown, no_key, no_message_id}
use Rattle.eip_progress.specs.declared.tried.Progress.{Progress}
use Rattle.eip_progress.specs.declared.tried.Progress.TheVariants as progress
use Rattle.eip_progress.specs.declared.tried.Tried.{Tried}
use Rattle.eip_progress.specs.declared.tried.Tried.TheVariants as tried
use Rattle.eip_progress.specs.Tries.{asked}

-- a fault of the step itself
abbrev pub faults : Fault → Message → Tried
faults f m = tried.Faults f false m

-- the only request of a step
abbrev pub asks : Request → Message → Tried
asks q m = asked progress.First q 0 m

abbrev pub unless_tried : Option Fault → Message → Tried → Tried
unless_tried None m t = t
unless_tried (Some f) m t = faults f m

abbrev pub value_tried : Option (List ℕ) → Message → (List ℕ → Tried) → Tried
value_tried None m k = faults too_long m
value_tried (Some value) m k = k value

abbrev pub not_empty : Fault → List ℕ → Message → (List ℕ → Tried) → Tried
not_empty f [] m k = faults f m
not_empty f (b ∷ bs) m k = k (b ∷ bs)

abbrev pub key_tried : Fault → Option (List ℕ) → Message → (List ℕ → Tried) → Tried
key_tried f value m k = value_tried value m (λ key. not_empty f key m k)

abbrev pub header_tried : List ℕ → List ℕ → Message → Tried
header_tried name value m = cond (is_one_too_many name m.headers) (faults (fault (codes "TooManyHeaders") name) m) (tried.Goes (with_header m name value))

-- ---- checks

-- a check on a message x, asked for at this progress where it is handed in
abbrev pub check_tried : RouteSet → Context → Check → Progress → Message → Message → (Bool → Tried) → Tried
check_tried set c (check.Simple p) g x m k = k (predicate_holds p (seen_in set c x))
check_tried set c (check.Fixed holds) g x m k = k holds
check_tried set c (check.Stored name) g x m k = asked g (request.Test name x) 0 m

abbrev pub nested_if : Bool → ℕ → Message → Tried
nested_if holds b m = cond holds (tried.Enters b m) (tried.Goes m)

abbrev pub nested_where : Option ℕ → Message → Tried
nested_where None m = tried.Goes m
nested_where (Some b) m = tried.Enters b m

-- from the case at index k on
abbrev pub choice_tried : RouteSet → Context → ℕ → List (Check × ℕ) → Option ℕ → Message → Tried
choice_tried set c k [] otherwise m = nested_where otherwise m
choice_tried set c k (x ∷ xs) otherwise m =
    check_tried set c x.0 (progress.Choosing k) m m (λ holds. cond holds (tried.Enters x.1 m) (choice_tried set c (suc k) xs otherwise m))

-- ---- sends

abbrev pub sent_tried : Option Target → Message → Tried
sent_tried None m = tried.Goes m
sent_tried (Some t) m = asks (request.Send t m) m

-- a copy to the queue of a route, where it has one
abbrev pub offer_tried : RouteSet → Uri → (route : ℕ) → Message → Tried
offer_tried set u r m = cond (is_queue set r) (asks (request.Offer r (discards u) m) m) (faults (no_consumer u) m)

abbrev pub goal_tried : RouteSet → Context → Uri → Goal → Message → Tried
goal_tried set c u (goal.Direct r) m = asks (request.Call r) m
goal_tried set c u (goal.Queue r) m = offer_tried set u r m
goal_tried set c u goal.Lane m = unless_tried (form_fault c u m) m (sent_tried (target_of c u m) m)
goal_tried set c u goal.Log m = asks (request.Log (log_of u) m.body) m
goal_tried set c u goal.NoConsumer m = faults (no_consumer u) m

abbrev pub to_tried : RouteSet → Context → Uri → Message → Tried
to_tried set c u m = unless_tried (limit_fault c u) m (goal_tried set c u (goal_of set u) m)

-- ---- fan-outs

abbrev pub fan_tried : Fan → List Seed → Message → Tried
fan_tried fan [] m = tried.Goes m
fan_tried fan (x ∷ xs) m =
    cond fan.parallel
    (asked progress.SpawningAll (request.Spawn (x ∷ xs)) 0 m)
    (asked (progress.Spawning 0 [] xs) (request.Spawn (x ∷ [])) 0 m)

abbrev pub piece_seeds : Context → Fan → ℕ → List Message → List Seed
piece_seeds c fan b ms = map (λ piece. block_seed (care_of_parts c fan.share) b piece) ms

abbrev pub branch_seeds : Context → Fan → List ℕ → Message → List Seed
branch_seeds c fan bs m = map (λ b. block_seed (care_of_parts c fan.share) b m) bs

abbrev pub recipient_seeds : Context → Fan → List Uri → Message → List Seed
recipient_seeds c fan us m = map (λ u. send_seed (care_of_parts c fan.share) (printed u) m) us

abbrev pub pieces_tried : Result (List Message) SplitFault → Context → Fan → ℕ → Message → Tried
pieces_tried (Ok ms) c fan b m = fan_tried fan (piece_seeds c fan b ms) m
pieces_tried (Err f) c fan b m = faults (fault_of_split f) m

abbrev pub branches_tried : Context → Fan → List ℕ → Message → Tried
branches_tried c fan bs m = cond (nat_le (length bs) 10000) (fan_tried fan (branch_seeds c fan bs m) m) (faults (too_many_parts (length bs)) m)

abbrev pub listed_tried : Result (List Uri) RecipientFault → Context → Fan → Message → Tried
listed_tried (Ok us) c fan m = fan_tried fan (recipient_seeds c fan us m) m
listed_tried (Err f) c fan m = faults (fault_of_recipient f) m

-- ---- doTry

-- a block runs on x as the part of this index
abbrev pub part_tried : (index : ℕ) → Option Fault → ℕ → Message → Message → Tried
part_tried k pending b x m = asked (progress.Entering k pending) (request.Spawn (block_seed care.Bare b x ∷ [])) k m

-- ---- a try

abbrev pub first_tried : RouteSet → Context → Step → Message → Tried
first_tried set c (step.SetBody e) m = value_tried (short (value_of set c e m)) m (λ value. tried.Goes (with_body m value))
first_tried set c (step.SetHeader name e) m = value_tried (short (value_of set c e m)) m (λ value. header_tried name value m)
first_tried set c (step.SetProperty name e) m = value_tried (short (value_of set c e m)) m (λ value. tried.Goes (with_property m name value))
first_tried set c (step.RemoveHeader name) m = tried.Goes (without_the_header m name)
first_tried set c (step.To u) m = to_tried set c u m
first_tried set c (step.Log name template) m = value_tried (short (template_value template (seen_in set c m))) m (λ text. asks (request.Log (log_name set c name) text) m)
first_tried set c (step.Throw kind template) m = faults (thrown kind (short (template_value template (seen_in set c m)))) m
first_tried set c (step.Process name) m = asks (request.Process name m) m
first_tried set c (step.Choice cases otherwise) m = choice_tried set c 0 cases otherwise m
first_tried set c (step.Filter k b) m = check_tried set c k progress.First m m (λ holds. nested_if holds b m)
first_tried set c (step.Split how fan b) m = pieces_tried (cut how m) c fan b m
first_tried set c (step.Multicast fan bs) m = branches_tried c fan bs m
first_tried set c (step.Recipients list delimiter fan) m =
    value_tried (short (value_of set c list m)) m (λ value. listed_tried (listed delimiter value) c fan m)
first_tried set c (step.Aggregate g) m = key_tried no_key (short (value_of set c g.key m)) m (λ key. asks (request.Arrive g.block key m) m)
first_tried set c (step.Idempotent key repository skip eager remove b) m =
    key_tried no_message_id (short (value_of set c key m)) m (λ text. asks (request.Idem repository text eager remove) m)
first_tried set c (step.Try b catches finish) m = part_tried 0 None b m m
