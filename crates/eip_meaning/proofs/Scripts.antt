-- How a part of a route behaves, whatever steps it is made of: it asks something and goes on as the answer says, or it is through.
use Rattle.std.proofs.Common.{◌≡◌, ℕ, ◌+◌, ◌<◌, ◌≤◌, Bool, true, false, cond, List, [], ◌∷◌, length, refl, sym, subst}
use Rattle.std.specs.Prelude.{Option, Some, None}
use Rattle.std.proofs.Math.Path.{fun_ext}
use Rattle.eip_exchange.specs.declared.message.Message.{Message}
use Rattle.eip_exchange.specs.declared.end.End.{End}
use Rattle.eip_exchange.specs.declared.end.Fault.{Fault}
use Rattle.eip_exchange.specs.declared.end.Ended.{Ended}
use Rattle.eip_route.specs.declared.route.RouteSet.{RouteSet}
use Rattle.eip_frames.specs.Fits.{fits}
use Rattle.eip_frames.specs.declared.request.At.{At}
use Rattle.eip_frames.specs.declared.request.Seed.{Seed}
use Rattle.eip_frames.specs.declared.request.Request.{Request}
use Rattle.eip_frames.specs.declared.request.Request.TheVariants as request
use Rattle.eip_frames.specs.declared.answer.Answer.{Answer as Reply}
use Rattle.eip_meaning.specs.declared.context.Context.{Context}
use Rattle.eip_meaning.specs.Contexts.{place_in}
use Rattle.eip_meaning.specs.Outcomes.{Outcome, Asks, Goes, Stops, Faults, Stray, Runner, followed, caught, unless_fault, fault_in, is_tried_again, answered_by, ask}
use Rattle.eip_meaning.specs.Values.{too_long, with_short, with_key, with_short_key}
use Rattle.eip_meaning.specs.Parts.{first_born, count_born, parts_in, spawned}
use Rattle.eip_meaning.specs.Asked.{IsOfSet}

-- the parts that are asked for at a place: some, no more than there may be, and a number of 32 bits is the index of each
pub record AreFew (p : At) (seeds : List Seed) : Type 0 where
  pub some : 0 < length seeds
  pub few : length seeds ≤ 10000
  pub indexed : p.index + length seeds ≤ 4294967296

-- the wait for the parts that an answer says are born
abbrev pub join_of : Reply → Request
join_of a = request.Join (first_born a) (count_born a)

module _ (set : RouteSet) where
  -- what a part gives on the answers to come; `faulty` says that it may fault
  pub data Script : (faulty : Bool) → (List Reply → Outcome) → Type 0 where
    -- it asks, and goes on by the answer
    asks : {faulty : Bool} {R : List Reply → Outcome} (q : Request) (p : At) → IsOfSet set q → R [] ≡ Asks q p
        → ((a : Reply) (A : List Reply) → fits q a ≡ false → R (a ∷ A) ≡ Stray)
        → ((a : Reply) → fits q a ≡ true → Script faulty (λ A. R (a ∷ A))) → Script faulty R
    -- it has parts born, waits for those that were born, and goes on by their ends
    spawns : {faulty : Bool} {R : List Reply → Outcome} (seeds : List Seed) (p : At) → AreFew p seeds → R [] ≡ Asks (request.Spawn seeds) p
        → ((a : Reply) (A : List Reply) → fits (request.Spawn seeds) a ≡ false → R (a ∷ A) ≡ Stray)
        → ((a : Reply) → fits (request.Spawn seeds) a ≡ true → R (a ∷ []) ≡ Asks (join_of a) p)
        → ((a : Reply) → fits (request.Spawn seeds) a ≡ true → (b : Reply) (A : List Reply) → fits (join_of a) b ≡ false → R (a ∷ b ∷ A) ≡ Stray)
        → ((a : Reply) → fits (request.Spawn seeds) a ≡ true → (b : Reply) → fits (join_of a) b ≡ true → Script faulty (λ A. R (a ∷ b ∷ A))) → Script faulty R
    goes : {faulty : Bool} {R : List Reply → Outcome} (m : Message) → ((A : List Reply) → R A ≡ Goes m A) → Script faulty R
    stops : {faulty : Bool} {R : List Reply → Outcome} (e : End) (m : Message) → ((A : List Reply) → R A ≡ Stops e m A) → Script faulty R
    faults : {R : List Reply → Outcome} (f : Fault) (again : Bool) → ((A : List Reply) → R A ≡ Faults f again A) → Script true R

module _ {set : RouteSet} where
  -- a script of what gives the same
  pub script-along : {faulty : Bool} (R S : List Reply → Outcome) → ((A : List Reply) → S A ≡ R A) → Script set faulty R → Script set faulty S
  script-along {faulty} R S h s = subst (λ (F : List Reply → Outcome). Script set faulty F) (sym (fun_ext h)) s

  -- what never faults needn't
  pub weaken : {R : List Reply → Outcome} → Script set false R → Script set true R
  weaken (asks q p i h n k) = asks q p i h n (λ a e. weaken (k a e))
  weaken (spawns seeds p w h n j o k) = spawns seeds p w h n j o (λ a e b f. weaken (k a e b f))
  weaken (goes m h) = goes m h
  weaken (stops e m h) = stops e m h

  -- one part behind another
  pub followed-script : {faulty : Bool} {R : List Reply → Outcome} (K : Runner) → Script set faulty R → ((m : Message) → Script set faulty (K m)) → Script set faulty (λ A. followed (R A) K)
  followed-script K (asks q p i h n k) g = asks q p i (rw h refl) (λ a A e. rw (n a A e) refl) (λ a e. followed-script K (k a e) g)
  followed-script K (spawns seeds p w h n j o k) g =
      spawns seeds p w (rw h refl) (λ a A e. rw (n a A e) refl) (λ a e. rw (j a e) refl) (λ a e b A f. rw (o a e b A f) refl) (λ a e b f. followed-script K (k a e b f) g)
  followed-script {faulty} {R} K (goes m h) g = script-along (K m) (λ A. followed (R A) K) (λ A. rw (h A) refl) (g m)
  followed-script K (stops e m h) g = stops e m (λ A. rw (h A) refl)
  followed-script K (faults f again h) g = faults f again (λ A. rw (h A) refl)

  -- a part with what treats its faults
  pub caught-script : {R : List Reply → Outcome} (K : Fault → Bool → List Reply → Outcome) → Script set true R → ((f : Fault) (again : Bool) → Script set false (K f again)) → Script set false (λ A. caught (R A) K)
  caught-script K (asks q p i h n k) g = asks q p i (rw h refl) (λ a A e. rw (n a A e) refl) (λ a e. caught-script K (k a e) g)
  caught-script K (spawns seeds p w h n j o k) g =
      spawns seeds p w (rw h refl) (λ a A e. rw (n a A e) refl) (λ a e. rw (j a e) refl) (λ a e b A f. rw (o a e b A f) refl) (λ a e b f. caught-script K (k a e b f) g)
  caught-script K (goes m h) g = goes m (λ A. rw (h A) refl)
  caught-script K (stops e m h) g = stops e m (λ A. rw (h A) refl)
  caught-script {R} K (faults f again h) g = script-along (K f again) (λ A. caught (R A) K) (λ A. rw (h A) refl) (g f again)

  -- ---- choices and faults

  pub either-script : {faulty : Bool} {R S : List Reply → Outcome} (b : Bool) → Script set faulty R → Script set faulty S → Script set faulty (λ A. cond b (R A) (S A))
  either-script true r s = r
  either-script false r s = s

  -- the first part stands where the test holds
  pub where-script : {faulty : Bool} {R S : List Reply → Outcome} (b : Bool) → (b ≡ true → Script set faulty R) → Script set faulty S → Script set faulty (λ A. cond b (R A) (S A))
  where-script true r s = r refl
  where-script false r s = s

  pub unless-script : (o : Option Fault) (K : List Reply → Outcome) → Script set true K → Script set true (λ A. unless_fault o K A)
  unless-script None K s = s
  unless-script (Some f) K s = faults f false (λ A. refl)

  -- a value that is too long faults
  pub short-script : (o : Option (List ℕ)) (K : List ℕ → List Reply → Outcome) → ((value : List ℕ) → Script set true (K value)) → Script set true (λ A. with_short o K A)
  short-script None K g = faults too_long false (λ A. refl)
  short-script (Some value) K g = g value

  key-script : (f : Fault) (value : List ℕ) (K : List ℕ → List Reply → Outcome) → ((key : List ℕ) → Script set true (K key)) → Script set true (λ A. with_key f value K A)
  key-script f [] K g = faults f false (λ A. refl)
  key-script f (b ∷ bs) K g = g (b ∷ bs)

  -- and so does an empty key
  pub short_key-script : (f : Fault) (o : Option (List ℕ)) (K : List ℕ → List Reply → Outcome) → ((key : List ℕ) → Script set true (K key)) → Script set true (λ A. with_short_key f o K A)
  short_key-script f o K g = short-script o _ (λ value. key-script f value K g)

  answered-script : (o : Option Fault) (again : Bool) (K : Reply → List Reply → Outcome) (a : Reply) → Script set true (K a) → Script set true (λ A. answered_by o again K a A)
  answered-script None again K a s = s
  answered-script (Some f) again K a s = faults f again (λ A. refl)

-- ---- requests

module _ (set : RouteSet) where
  -- a request, and what follows its answers
  pub ask-script : (q : Request) (p : At) (K : Reply → List Reply → Outcome) → IsOfSet set q → ((a : Reply) → Script set true (K a)) → Script set true (λ A. ask set q p K A)
  ask-script q p K i g =
      asks q p i refl (λ a A e. rw e refl)
      (λ a e. script-along (λ A. answered_by (fault_in set q a) (is_tried_again q) K a A) (λ A. ask set q p K (a ∷ A)) (λ A. rw e refl)
      (answered-script (fault_in set q a) (is_tried_again q) K a (g a)))

  -- a delay is no fault, whatever its answer
  pub wait-script : (ticks : ℕ) (p : At) (K : Reply → List Reply → Outcome) → ((a : Reply) → Script set false (K a)) → Script set false (λ A. ask set (request.Wait ticks) p K A)
  wait-script ticks p K g =
      asks (request.Wait ticks) p tt refl (λ a A e. rw e refl)
      (λ a e. script-along (K a) (λ A. ask set (request.Wait ticks) p K (a ∷ A)) (λ A. rw e refl) (g a))

  -- parts, and what follows their ends
  pub spawned-script : (c : Context) (k : ℕ) (seeds : List Seed) (K : List Ended → List Reply → Outcome) → AreFew (place_in c k) seeds → ((es : List Ended) → Script set true (K es)) → Script set true (λ A. spawned set c k seeds K A)
  spawned-script c k seeds K w g =
      spawns seeds (place_in c k) w refl (λ a A e. rw e refl) (λ a e. rw e refl) (λ a e b A f. rw (e, f) refl)
      (λ a e b f. script-along (K (parts_in b)) (λ A. spawned set c k seeds K (a ∷ b ∷ A)) (λ A. rw (e, f) refl) (g (parts_in b)))
