-- What a look of a worker does to a run that is shared.
use Rattle.std.specs.Prelude.{ℕ, ◌≡◌, true, List, [], ◌∷◌, Option, Some, None, IsSome}
use Rattle.std.specs.List.{AllByRecursion}
use Rattle.eip_exchange.specs.declared.birth.Origin.{Origin}
use Rattle.eip_exchange.specs.declared.birth.Origin.TheVariants as origin
use Rattle.eip_frames.specs.Fits.{is_outside}
use Rattle.eip_frames.specs.declared.request.Request.{Request}
use Rattle.eip_frames.specs.declared.request.Request.TheVariants.{Finish}
use Rattle.eip_ledger.specs.declared.entry.Kind.{Kind}
use Rattle.eip_ledger.specs.declared.entry.Kind.TheVariants.{Pull, Take}
use Rattle.eip_history.specs.Own.{Past}
use Rattle.eip_history.specs.Owner.{Outlets}
use Rattle.eip_history.specs.Plan.{Plan}
use Rattle.eip_history.specs.Stop.{stop_of}
use Rattle.eip_hub.specs.View.{BooksView, plan}
use Rattle.eip_plan.specs.Plan.{plan_of}
use Rattle.eip_outlets.specs.Outlets.{outlets}
use Rattle.eip_turnstile.specs.declared.view.View.{View}
use Rattle.eip_shared.specs.Deeds.{IsInner, left_open}
use Rattle.eip_shared.specs.Shared.{SharedView, Does, IsHeld, IsPulled, Makes}
use Rattle.eip_shared.specs.Turns.{past_seen, Turned}
use Rattle.eip_shared.specs.declared.beginning.Beginning.{Beginning}
use Rattle.eip_shared.specs.declared.deed.Deed.{Deed}
use Rattle.eip_shared.specs.declared.looks.Look.{Look}
use Rattle.eip_shared.specs.declared.looks.Look.TheVariants.{Did, Call, Pull as Pulls, Nothing, Stopped, NoMemory}

-- whom a Finish may have to tell: the source of this route, of this item
abbrev pub told_by : Request → Origin → Option (ℕ × List ℕ)
told_by (Finish e m commit) (origin.Source t item) = Some (t, item)
told_by _ _ = None

-- an exchange that asks somebody outside is in the hand of worker w
pub record Took (s : Plan) (o : Outlets) (workers : ℕ) (past : Past) (w taker x : ℕ) (q : Request) (whom : Option (ℕ × List ℕ)) : Type 0 where
  pub holder : taker ≡ w
  pub outside : is_outside q ≡ true
  pub from : Origin
  pub held : IsHeld s o workers past w x from q
  pub told : whom ≡ told_by q from

-- what a look of worker w answers tells of how things stand behind it
abbrev pub Tells : Plan → Outlets → ℕ → ℕ → Past → ℕ → Look → Type 0
Tells s o workers limit past w Did = Unit {0}
Tells s o workers limit past w (Call t told) = Took s o workers past w t.worker t.number t.request told
Tells s o workers limit past w (Pulls t) = IsPulled s o workers past w t
Tells s o workers limit past w Nothing = Unit {0}
Tells s o workers limit past w Stopped = IsSome (stop_of s limit past)
Tells s o workers limit past w NoMemory = Unit {0}

-- what a look begins that the worker has to end: no more than what it answers
abbrev pub begun : Look → List Kind
begun (Call t told) = Take t.number ∷ []
begun (Pulls t) = Pull t ∷ []
begun _ = []

-- what came of a look of worker w, of the hub: nobody outside was needed for what it did, and nothing is left open of which it does not tell
abbrev pub LooksIn : BooksView → BooksView → ℕ → Look → Type 0
LooksIn old new w what = (ds : List Deed) × Does old new w ds × AllByRecursion IsInner ds
    × Tells (plan new) (outlets new.set) new.journal.workers new.journal.turns new.journal.past w what
    × (left_open ds ≡ begun what)

-- the same of the run that is shared
abbrev pub Looks : SharedView → SharedView → ℕ → Look → Type 0
Looks old new w what = (ds : List Deed) × Makes old new w ds × AllByRecursion IsInner ds
    × Tells (plan new.hub) (outlets new.hub.set) new.hub.journal.workers new.hub.journal.turns new.hub.journal.past w what
    × (left_open ds ≡ begun what)

-- the same as the worker's seat knows it
abbrev pub Saw : Beginning → View Deed Beginning → View Deed Beginning → Look → Type 0
Saw start old new what = (ds : List Deed) × Turned old new ds × AllByRecursion IsInner ds
    × Tells (plan_of start.set) (outlets start.set) start.workers start.turns (past_seen start new) new.number what
    × (left_open ds ≡ begun what)
