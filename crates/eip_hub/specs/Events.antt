-- What the calls of the hub may do, and what they do to what contracts see of it.
use Rattle.std.specs.Prelude.{ℕ, ◌≡◌, ◌+◌, List, [], Option}
use Rattle.eip_route.specs.declared.route.RouteSet.{RouteSet}
use Rattle.eip_ledger.specs.declared.entry.Kind.{Kind}
use Rattle.eip_ledger.specs.declared.place.Place.{Place}
use Rattle.eip_history.specs.Births.{asked}
use Rattle.eip_history.specs.Owner.{owner, outlet_by, IsOwner}
use Rattle.eip_history.specs.Place.{place}
use Rattle.eip_history.specs.Rules.{May, IsBelow}
use Rattle.eip_outlets.specs.Outlets.{outlets}
use Rattle.eip_books.specs.View.{BooksView, plan, IsLegalRun, Adds}

-- the rule of an entry on the journal so far
abbrev pub Allows : BooksView → ℕ → Kind → Type 0
Allows v w k = May (plan v) v.journal.turns v.journal.past w k

-- turns and hands are below the limit
abbrev pub IsBelowLimit : BooksView → Type 0
IsBelowLimit v = IsBelow (plan v) v.journal.turns v.journal.past

-- where an exchange stands
abbrev pub place_in : BooksView → ℕ → Option Place
place_in v x = place (plan v) v.journal.past x

-- a run that has no entry yet
pub record IsNewRun (s : RouteSet) (w t : ℕ) (v : BooksView) : Type 0 where
  pub set : v.set ≡ s
  pub workers : v.journal.workers ≡ w
  pub turns : v.journal.turns ≡ t
  pub past : v.journal.past ≡ []
  pub room : v.room ≡ 0
  pub outside : v.outside ≡ []

-- exactly this entry was made, and the journal is legal behind it; the room for hands and who is known as Outside are as before
pub record Enters (old new : BooksView) (w : ℕ) (k : Kind) : Type 0 where
  pub adds : Adds old new w k
  pub legal : IsLegalRun new
  pub room : new.room ≡ old.room
  pub outside : new.outside ≡ old.outside

-- exactly this entry was made, for which a room for a hand was used up, and the journal is legal behind it; these are known as Outside then
pub record UsesRoom (old new : BooksView) (w : ℕ) (k : Kind) (known : List ℕ) : Type 0 where
  pub adds : Adds old new w k
  pub legal : IsLegalRun new
  pub room : new.room + 1 ≡ old.room
  pub outside : new.outside ≡ known

-- the inlet of a route's source belongs to worker w
abbrev pub Owns : BooksView → (w t : ℕ) → Type 0
Owns v w t = w ≡ owner v.journal.workers ((outlets v.set).inlet t)

-- an exchange asks a lane or an inlet of worker w, or nobody's
abbrev pub MayAsk : BooksView → (w x : ℕ) → Type 0
MayAsk v w x = IsOwner v.journal.workers w (outlet_by (outlets v.set) (asked (plan v) v.journal.past x))
