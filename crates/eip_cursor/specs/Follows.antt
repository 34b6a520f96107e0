-- A cursor that has come further by answers.
use Rattle.std.specs.Prelude.{◌≡◌, Bool, true, false, List, [], ◌∷◌, ◌++◌, Option, Some}
use Rattle.eip_exchange.specs.declared.birth.Origin.{Origin}
use Rattle.eip_exchange.specs.declared.birth.Work.{Work}
use Rattle.eip_exchange.specs.declared.message.Message.{Message}
use Rattle.eip_route.specs.declared.route.RouteSet.{RouteSet}
use Rattle.eip_frames.specs.Fate.{Fate, AsksNext}
use Rattle.eip_frames.specs.declared.answer.Answer.{Answer as Reply}
use Rattle.eip_frames.specs.declared.request.Request.{Request}
use Rattle.eip_meaning.specs.declared.context.Context.{Context}
use Rattle.eip_meaning.specs.Contexts.{place_in}
use Rattle.eip_meaning.specs.Meaning.{finished, item_of, is_told_origin, work_mean}
use Rattle.eip_progress.specs.declared.cursor.Cursor.{Cursor}
use Rattle.eip_progress.specs.declared.cursor.State.{State}
use Rattle.eip_progress.specs.declared.cursor.State.TheVariants as state
use Rattle.eip_progress.specs.Rest.{rest, asked_at, IsFirst}

-- the exchange has ended
abbrev pub IsOver : State → Type 0
IsOver (state.Starting w m) = ⊥
IsOver (state.Runs w) = ⊥
IsOver (state.Finishing e m) = ⊥
IsOver (state.Over e m) = Unit {0}

-- the cursor k has come to l by these answers, and asks q
abbrev pub Follows : RouteSet → Cursor → List Reply → Cursor → Request → Type 0
Follows set k answers l q = ((A : List Reply) → rest set l A ≡ rest set k (answers ++ A)) × (rest set l [] ≡ AsksNext q (asked_at l)) × (IsFirst l → ⊥)

-- the cursor k has come to l by these answers, and what it asks stands in the place
abbrev pub GoesOn : RouteSet → Cursor → List Reply → Cursor → Option Request → Type 0
GoesOn set k answers l p = (q : Request) × (p ≡ Some q) × Follows set k answers l q

-- by the answer it has gone on so, or all is as before
abbrev pub MayGoOn : Bool → RouteSet → Cursor → Reply → Cursor → Option Request → Option Request → Type 0
MayGoOn true set k a l p p' = GoesOn set k (a ∷ []) l p'
MayGoOn false set k a l p p' = (l ≡ k) × (p' ≡ p)

-- what an exchange of this origin gives, whose work begins with this message
abbrev pub begins : RouteSet → Context → Origin → Work → Message → List Reply → Fate
begins set c o w m A = finished (is_told_origin set o) (item_of o) (place_in c 0) (work_mean set c w m A)

-- a cursor that gives this stands in the one place, and what it asks first in the other
pub record Begun (set : RouteSet) (gives : List Reply → Fate) (place : Option Cursor) (asked : Option Request) : Type 0 where
  pub cursor : Cursor
  pub request : Request
  pub placed : place ≡ Some cursor
  pub asks : asked ≡ Some request
  pub means : (A : List Reply) → rest set cursor A ≡ gives A
  pub fate : rest set cursor [] ≡ AsksNext request (asked_at cursor)
  pub later : IsFirst cursor → ⊥
