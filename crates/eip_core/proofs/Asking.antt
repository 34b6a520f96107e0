-- What a lane or a source answered is what was asked of it.
use Rattle.std.proofs.Common.{◌≡◌, ◌⊎◌, inl, inr, ℕ, Bool, true, false, List, [], Option, Some, None, Result, Ok, Err, refl, sym, ap, subst}
use Rattle.std.specs.Result.{IfOk}
use Rattle.std.specs.List.{slice_get}
use Rattle.eip_text.specs.declared.memory.NoMemory.{NoMemory}
use Rattle.eip_exchange.specs.declared.birth.Origin.{Origin}
use Rattle.eip_exchange.specs.declared.birth.Origin.TheVariants as from
use Rattle.eip_exchange.specs.declared.end.End.{End}
use Rattle.eip_exchange.specs.declared.message.Message.{Message}
use Rattle.eip_route.specs.declared.route.Names.{Names}
use Rattle.eip_route.specs.declared.route.RouteSet.{RouteSet}
use Rattle.eip_frames.specs.declared.request.Request.{Request}
use Rattle.eip_frames.specs.declared.request.Request.TheVariants as request
use Rattle.eip_frames.specs.declared.request.Target.{Target}
use Rattle.eip_frames.specs.declared.answer.Answer.{Answer as Reply}
use Rattle.eip_frames.specs.declared.answer.Answer.TheVariants as reply
use Rattle.eip_frames.specs.Fits.{fits}
use Rattle.eip_endpoint.specs.Lanes.{LaneView, LanesGrew, first_named, lane_names}
use Rattle.eip_endpoint.specs.Inlets.{InletView, InletsGrew, inlet_names}
use Rattle.eip_endpoint.specs.Outside.{Doors, lane_of, calls_by, calls_for, commits_for}
use Rattle.eip_endpoint.proofs.LaneLaws.{LanesGrew-none}
use Rattle.eip_endpoint.proofs.InletLaws.{InletsGrew-none}
use Rattle.eip_core.specs.Doors.{doors_of, inlet_at, uri_at}
use Rattle.eip_processor.specs.Registered.{RegistryView}
use Rattle.eip_core.specs.Outside.{Asks, IsAskable, IsTheirs, calls_told, commits_told, sent_by, source_told}
use Rattle.eip_core.proofs.Acts.{no-acts}

-- ---- lanes

-- an answer to a send tells no source of an end
send-tells : (d : Doors) (o : Origin) (t : Target) (m : Message) (a : Reply) → commits_for d o (request.Send t m) a ≡ []
send-tells d (from.Source r item) t m a = refl
send-tells d _ t m a = refl

no-call : (o : Option ℕ) → calls_by o [] ≡ []
no-call None = refl
no-call (Some k) = refl

sent : {g : RegistryView} (set : RouteSet) (o : Origin) (t : Target) (m : Message) (r : Result Reply NoMemory) (l n : List LaneView) (i : List InletView) → IfOk r (λ a. fits (request.Send t m) a ≡ true)
    → LanesGrew 0 (calls_by (first_named (lane_of t) (lane_names l)) (sent_by t m r)) l n → Asks set o (request.Send t m) r l n i i g
sent set o t m (Ok a) l n i fitting grew = record {
  fitting = fitting;
  theirs = tt;
  lanes = grew;
  inlets = subst (λ js. InletsGrew 0 js i i) (sym (send-tells (doors_of set (lane_names l) (inlet_names i)) o t m a)) (InletsGrew-none 0 i);
}
sent set o t m (Err f) l n i fitting grew = record {
  fitting = fitting;
  theirs = tt;
  lanes = subst (λ js. LanesGrew 0 js l n) (no-call (first_named (lane_of t) (lane_names l))) grew;
  inlets = InletsGrew-none 0 i;
}

pub asks-lane : {g : RegistryView} (set : RouteSet) (o : Origin) (q : Request) (t : Target) (m : Message) (r : Result Reply NoMemory) (l n : List LaneView) (i : List InletView) → q ≡ request.Send t m
    → IfOk r (λ a. fits (request.Send t m) a ≡ true) → LanesGrew 0 (calls_by (first_named (lane_of t) (lane_names l)) (sent_by t m r)) l n → Asks set o q r l n i i g
asks-lane {g} set o q t m r l n i is fitting grew = subst (λ (p : Request). Asks set o p r l n i i g) (sym is) (sent set o t m r l n i fitting grew)

-- ---- sources

told-commits : (set : RouteSet) (lanes inlets : List (List ℕ)) (o : Origin) (e : End) (m : Message) (a : Reply)
    → source_told set inlets o e (Ok a) ≡ commits_for (doors_of set lanes inlets) o (request.Finish e m true) a
told-commits set lanes inlets (from.Source t item) e m a = refl
told-commits set lanes inlets _ e m a = refl

told-none : (set : RouteSet) (inlets : List (List ℕ)) (o : Origin) (e : End) (f : NoMemory) → source_told set inlets o e (Err f) ≡ []
told-none set inlets (from.Source t item) e f = no-acts (inlet_at inlets (slice_get set.routes t)) (uri_at (slice_get set.routes t))
told-none set inlets _ e f = refl

ended : {g : RegistryView} (set : RouteSet) (o : Origin) (e : End) (m : Message) (commit : Bool) (r : Result Reply NoMemory) (l : List LaneView) (i j : List InletView) → commit ≡ true
    → ((n : Message) → IfOk r (λ a. fits (request.Finish e n true) a ≡ true)) → InletsGrew 0 (source_told set (inlet_names i) o e r) i j → Asks set o (request.Finish e m commit) r l l i j g
ended set o e m true (Ok a) l i j told fitting grew = record {
  fitting = fitting m;
  theirs = tt;
  lanes = LanesGrew-none 0 l;
  inlets = subst (λ js. InletsGrew 0 js i j) (told-commits set (lane_names l) (inlet_names i) o e m a) grew;
}
ended set o e m true (Err f) l i j told fitting grew = record {
  fitting = fitting m;
  theirs = tt;
  lanes = LanesGrew-none 0 l;
  inlets = subst (λ js. InletsGrew 0 js i j) (told-none set (inlet_names i) o e f) grew;
}
ended set o e m false r l i j told fitting grew = absurd (cc told)

pub asks-source : {g : RegistryView} (set : RouteSet) (o : Origin) (q : Request) (e : End) (m : Message) (commit : Bool) (r : Result Reply NoMemory) (names : Names) (l : List LaneView)
    (i j : List InletView) → q ≡ request.Finish e m commit → IsAskable set names o q → ((n : Message) → IfOk r (λ a. fits (request.Finish e n true) a ≡ true))
    → InletsGrew 0 (source_told set (inlet_names i) o e r) i j → Asks set o q r l l i j g
asks-source {g} set o q e m commit r names l i j is askable fitting grew =
    let told = subst (λ (p : Request). IsAskable set names o p) is askable in
    subst (λ (p : Request). Asks set o p r l l i j g) (sym is) (ended set o e m commit r l i j told.1 fitting grew)

-- ---- the registry

-- an answer of the registry tells no lane and no source of anything
registry-calls : (d : Doors) (q : Request) (r : Result Reply NoMemory) → (name : List ℕ) (m : Message) → (q ≡ request.Process name m) ⊎ (q ≡ request.Test name m) → calls_told d q r ≡ []
registry-calls d q (Ok a) name m (inl is) = ap (λ (p : Request). calls_for d p a) is
registry-calls d q (Ok a) name m (inr is) = ap (λ (p : Request). calls_for d p a) is
registry-calls d q (Err f) name m is = refl

registry-tells : (d : Doors) (o : Origin) (q : Request) (r : Result Reply NoMemory) → (name : List ℕ) (m : Message) → (q ≡ request.Process name m) ⊎ (q ≡ request.Test name m) → commits_told d o q r ≡ []
registry-tells d (from.Source t item) q (Ok a) name m (inl is) = ap (λ (p : Request). commits_for d (from.Source t item) p a) is
registry-tells d (from.Source t item) q (Ok a) name m (inr is) = ap (λ (p : Request). commits_for d (from.Source t item) p a) is
registry-tells d _ q (Ok a) name m (inl is) = refl
registry-tells d _ q (Ok a) name m (inr is) = refl
registry-tells d o q (Err f) name m is = refl

-- what the registry answered
answered-registry : {g : RegistryView} (set : RouteSet) (o : Origin) (q : Request) (r : Result Reply NoMemory) (name : List ℕ) (m : Message) (l : List LaneView) (i : List InletView)
    → (q ≡ request.Process name m) ⊎ (q ≡ request.Test name m) → IfOk r (λ a. fits q a ≡ true) → IfOk r (λ a. IsTheirs g q a) → Asks set o q r l l i i g
answered-registry set o q r name m l i is fitting theirs = record {
  fitting = fitting;
  theirs = theirs;
  lanes = subst (λ js. LanesGrew 0 js l l) (sym (registry-calls (doors_of set (lane_names l) (inlet_names i)) q r name m is)) (LanesGrew-none 0 l);
  inlets = subst (λ js. InletsGrew 0 js i i) (sym (registry-tells (doors_of set (lane_names l) (inlet_names i)) o q r name m is)) (InletsGrew-none 0 i);
}

pub asks-process : {g : RegistryView} (set : RouteSet) (o : Origin) (q : Request) (r : Result Reply NoMemory) (name : List ℕ) (m : Message) (l : List LaneView) (i : List InletView)
    → q ≡ request.Process name m → IfOk r (λ a. fits (request.Process name m) a ≡ true) → IfOk r (λ a. IsTheirs g (request.Process name m) a) → Asks set o q r l l i i g
asks-process {g} set o q r name m l i is fitting theirs =
    subst (λ (p : Request). Asks set o p r l l i i g) (sym is) (answered-registry set o (request.Process name m) r name m l i (inl refl) fitting theirs)

pub asks-test : {g : RegistryView} (set : RouteSet) (o : Origin) (q : Request) (b : Bool) (name : List ℕ) (m : Message) (l : List LaneView) (i : List InletView)
    → q ≡ request.Test name m → g.tests name m b → Asks set o q (Ok (reply.Holds b)) l l i i g
asks-test {g} set o q b name m l i is theirs =
    subst (λ (p : Request). Asks set o p (Ok (reply.Holds b)) l l i i g) (sym is)
    (answered-registry set o (request.Test name m) (Ok (reply.Holds b)) name m l i (inr refl) refl theirs)
