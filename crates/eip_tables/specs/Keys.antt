-- How a table of keys stands for a history, and what is asked of it.
use Rattle.std.specs.Prelude.{ℕ, ◌≡◌, Bool, List, [], ◌∷◌, ◌++◌, Option, Some, None, option_map}
use Rattle.eip_exchange.specs.declared.end.End.{End}
use Rattle.eip_exchange.specs.declared.end.Ended.{Ended as Finished}
use Rattle.eip_exchange.specs.declared.end.Ending.{Ending}
use Rattle.eip_exchange.specs.declared.end.Ending.TheVariants as ending
use Rattle.eip_exchange.specs.Ends.{ending_of}
use Rattle.eip_route.specs.declared.route.RouteSet.{RouteSet}
use Rattle.eip_frames.specs.declared.answer.Answer.{Answer as Reply}
use Rattle.eip_frames.specs.declared.answer.Answer.TheVariants as reply
use Rattle.eip_frames.specs.declared.request.Request.{Request}
use Rattle.eip_frames.specs.declared.request.Request.TheVariants.{Idem}
use Rattle.eip_ledger.specs.declared.entry.Kind.{Kind}
use Rattle.eip_ledger.specs.declared.entry.Kind.TheVariants.{Answer, Starve}
use Rattle.eip_idempotent.specs.Keys as keys
use Rattle.eip_idempotent.specs.Keys.{Key, Call, Claimed, Settled, Table, IsAnswer, end_of, offered_by}
use Rattle.eip_idempotent.specs.declared.repo.Offered.{Offered}
use Rattle.eip_idempotent.specs.declared.repo.Offered.TheVariants as offered
use Rattle.eip_history.specs.Own.{Past}
use Rattle.eip_history.specs.Births.{Asked, asked}
use Rattle.eip_history.specs.Place.{ended}
use Rattle.eip_plan.specs.Plan.{plan_of}
use Rattle.eip_tables.specs.Moves.{end_asked}

-- ---- the calls

-- an exchange that offers a key claims it, where its answer says that nobody held it
abbrev pub claims_for : Asked → Request → Reply → List Call
claims_for k (Idem r key eager remove) reply.Fresh = Claimed (r, key) k.birth.number eager remove ∷ []
claims_for k _ _ = []

abbrev pub claims_by : Option Asked → Reply → List Call
claims_by None a = []
claims_by (Some k) a = claims_for k k.request a

-- an exchange that has ended is settled, by how it ended
abbrev pub settles : ℕ → Option Finished → List Call
settles x None = []
settles x (Some f) = Settled x (ending_of f.end) ∷ []

-- the calls that an entry is for the table: who has ended behind an entry of its own, has ended by it
abbrev pub calls_in : RouteSet → Past → ℕ → Kind → List Call
calls_in set past w (Answer x a) = settles x (ended (plan_of set) ((record { worker = w; kind = Answer x a }) ∷ past) x) ++ claims_by (asked (plan_of set) past x) a
calls_in set past w (Starve x) = settles x (ended (plan_of set) ((record { worker = w; kind = Starve x }) ∷ past) x)
calls_in set past w _ = []

-- the calls that a journal gives, the newest first
unfoldable pub key_calls : RouteSet → Past → List Call
key_calls set [] = []
key_calls set (e ∷ past) = calls_in set past e.worker e.kind ++ key_calls set past

-- the table stands for the calls that the journal gives
pub record KeysStand (set : RouteSet) (past : Past) (repo : Table) : Type 0 where
  pub stands : keys.Stands (key_calls set past) repo

-- ---- what the table does

-- an exchange that hasn't ended offers a key and is answered so
pub record Offers (key : Key) (x : ℕ) (eager remove : Bool) (answer : Offered) (old new : Table) : Type 0 where
  pub answers : (calls : List Call) → keys.Stands calls old → IsAnswer calls key answer
  pub stands : (calls : List Call) → keys.Stands calls old → end_of calls x ≡ None → keys.Stands (offered_by key x eager remove answer calls) new

-- it ends so
abbrev pub Settles : ℕ → Ending → Table → Table → Type 0
Settles x e old new = (calls : List Call) → keys.Stands calls old → end_of calls x ≡ None → keys.Stands (Settled x e ∷ calls) new

-- ---- what is asked and answered

-- an exchange asks to offer a key
pub record IsOffering (q : Option Request) : Type 0 where
  pub repository : List ℕ
  pub key : List ℕ
  pub eager : Bool
  pub remove : Bool
  pub asks : q ≡ Some (Idem repository key eager remove)

-- it offers the key that it asks to offer, and is answered so
abbrev pub OffersAsked : Option Request → ℕ → (old new : Table) → Offered → Type 0
OffersAsked q x old new answer = (r key : List ℕ) (eager remove : Bool) → q ≡ Some (Idem r key eager remove) → Offers (r, key) x eager remove answer old new

-- what an exchange is answered that offered a key
abbrev pub key_answer : Offered → Reply
key_answer offered.Fresh = reply.Fresh
key_answer (offered.Duplicate holder) = reply.Duplicate holder

-- how an exchange asks to end
abbrev pub ending_asked : Option Request → Option Ending
ending_asked q = option_map ending_of (end_asked q)

-- how an exchange ends that asked to end so, as its source took it
abbrev pub ending_by : End → Reply → Ending
ending_by e reply.CommitFailed = ending.Failed
ending_by e _ = ending_of e
