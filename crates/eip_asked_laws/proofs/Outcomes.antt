-- What a part of a route gives asks for nothing by a name that isn't the set's: how this is kept where parts are put together.
use Rattle.std.proofs.Common.{◌≡◌, ℕ, Bool, true, false, cond, List, [], ◌∷◌}
use Rattle.std.specs.Prelude.{Option, Some, None}
use Rattle.eip_exchange.specs.declared.message.Message.{Message}
use Rattle.eip_exchange.specs.declared.end.End.{End}
use Rattle.eip_exchange.specs.declared.end.Fault.{Fault}
use Rattle.eip_exchange.specs.declared.end.Ended.{Ended}
use Rattle.eip_route.specs.Goals.{is_among}
use Rattle.eip_route.specs.declared.route.Names.{Names}
use Rattle.eip_route.specs.declared.route.RouteSet.{RouteSet}
use Rattle.eip_frames.specs.Fits.{fits}
use Rattle.eip_frames.specs.declared.request.At.{At}
use Rattle.eip_frames.specs.declared.request.Seed.{Seed}
use Rattle.eip_frames.specs.declared.request.Request.{Request}
use Rattle.eip_frames.specs.declared.request.Request.TheVariants as request
use Rattle.eip_frames.specs.declared.answer.Answer.{Answer as Reply}
use Rattle.eip_meaning.specs.declared.context.Context.{Context}
use Rattle.eip_meaning.specs.Contexts.{place_in}
use Rattle.eip_meaning.specs.Outcomes.{Outcome, Asks, Goes, Stops, Faults, Stray, Runner, followed, caught, unless_fault, fault_in, is_tried_again, answered_by, ask}
use Rattle.eip_meaning.specs.Values.{too_long, with_short, with_key, with_short_key}
use Rattle.eip_meaning.specs.Parts.{first_born, count_born, parts_in, spawned}

-- a processor or a predicate that is asked for has one of these names
abbrev pub IsNamed : Names → Request → Type 0
IsNamed names (request.Process name m) = is_among name names.processors ≡ true
IsNamed names (request.Test name m) = is_among name names.predicates ≡ true
IsNamed names _ = Unit {0}

module _ (names : Names) where
  -- whatever is asked has one of these names
  pub data Named : Outcome → Type 0 where
    asks : (q : Request) (p : At) → IsNamed names q → Named (Asks q p)
    goes : (m : Message) (A : List Reply) → Named (Goes m A)
    stops : (e : End) (m : Message) (A : List Reply) → Named (Stops e m A)
    faults : (f : Fault) (again : Bool) (A : List Reply) → Named (Faults f again A)
    stray : Named Stray

module _ {names : Names} where
  -- one part behind another
  pub followed-named : {o : Outcome} (K : Runner) → Named names o → ((m : Message) (A : List Reply) → Named names (K m A)) → Named names (followed o K)
  followed-named K (asks q p i) g = asks q p i
  followed-named K (goes m A) g = g m A
  followed-named K (stops e m A) g = stops e m A
  followed-named K (faults f again A) g = faults f again A
  followed-named K stray g = stray

  -- a part with what treats its faults
  pub caught-named : {o : Outcome} (K : Fault → Bool → List Reply → Outcome) → Named names o → ((f : Fault) (again : Bool) (A : List Reply) → Named names (K f again A)) → Named names (caught o K)
  caught-named K (asks q p i) g = asks q p i
  caught-named K (goes m A) g = goes m A
  caught-named K (stops e m A) g = stops e m A
  caught-named K (faults f again A) g = g f again A
  caught-named K stray g = stray

  -- ---- choices and faults

  pub either-named : {x y : Outcome} (b : Bool) → Named names x → Named names y → Named names (cond b x y)
  either-named true s t = s
  either-named false s t = t

  pub unless-named : (o : Option Fault) (K : List Reply → Outcome) → ((A : List Reply) → Named names (K A)) → (A : List Reply) → Named names (unless_fault o K A)
  unless-named None K g A = g A
  unless-named (Some f) K g A = faults f false A

  pub short-named : (o : Option (List ℕ)) (K : List ℕ → List Reply → Outcome) → ((value : List ℕ) (A : List Reply) → Named names (K value A)) → (A : List Reply) → Named names (with_short o K A)
  short-named None K g A = faults too_long false A
  short-named (Some value) K g A = g value A

  key-named : (f : Fault) (value : List ℕ) (K : List ℕ → List Reply → Outcome) → ((key : List ℕ) (A : List Reply) → Named names (K key A)) → (A : List Reply) → Named names (with_key f value K A)
  key-named f [] K g A = faults f false A
  key-named f (b ∷ bs) K g A = g (b ∷ bs) A

  pub short_key-named : (f : Fault) (o : Option (List ℕ)) (K : List ℕ → List Reply → Outcome) → ((key : List ℕ) (A : List Reply) → Named names (K key A)) → (A : List Reply) → Named names (with_short_key f o K A)
  short_key-named f o K g A = short-named o _ (λ value A'. key-named f value K g A') A

  answered-named : (o : Option Fault) (again : Bool) (K : Reply → List Reply → Outcome) (a : Reply) (A : List Reply) → Named names (K a A) → Named names (answered_by o again K a A)
  answered-named None again K a A s = s
  answered-named (Some f) again K a A s = faults f again A

-- ---- requests

module _ (set : RouteSet) {names : Names} where
  -- a request, and what follows its answers
  pub ask-named : (q : Request) (p : At) (K : Reply → List Reply → Outcome) → IsNamed names q → ((a : Reply) (A : List Reply) → Named names (K a A)) → (A : List Reply) → Named names (ask set q p K A)
  ask-named q p K i g [] = asks q p i
  ask-named q p K i g (a ∷ A) = either-named (fits q a) (answered-named (fault_in set q a) (is_tried_again q) K a A (g a A)) stray

  -- parts, and what follows their ends
  pub spawned-named : (c : Context) (k : ℕ) (seeds : List Seed) (K : List Ended → List Reply → Outcome) → ((es : List Ended) (A : List Reply) → Named names (K es A)) → (A : List Reply) → Named names (spawned set c k seeds K A)
  spawned-named c k seeds K g A =
      ask-named (request.Spawn seeds) (place_in c k) _ tt
      (λ a A'. ask-named (request.Join (first_born a) (count_born a)) (place_in c k) _ tt (λ b A''. g (parts_in b) A'') A')
      A
