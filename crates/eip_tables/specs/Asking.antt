-- What an exchange that was looked at asks for.
use Rattle.std.specs.Prelude.{ℕ, ◌≡◌, ◌-◌, Bool, true, false, cond, List, Option, Some, slice_get}
use Rattle.eip_exchange.specs.declared.end.End.{End}
use Rattle.eip_exchange.specs.declared.message.Message.{Message}
use Rattle.eip_frames.specs.declared.request.Seed.{Seed}
use Rattle.eip_frames.specs.declared.request.Request.{Request}
use Rattle.eip_frames.specs.declared.request.Request.TheVariants as request
use Rattle.eip_frames.specs.Fits.{is_outside}
use Rattle.eip_tables.specs.declared.asking.Asked.{Asked}
use Rattle.eip_tables.specs.declared.asking.Asked.TheVariants as asked

abbrev pub inner_kind : Request → Asked
inner_kind (request.Log n t) = asked.Line
inner_kind (request.Call r) = asked.Route
inner_kind (request.Offer q discard m) = asked.Copy
inner_kind (request.Spawn seeds) = asked.Parts
inner_kind (request.Join first count) = asked.Ends
inner_kind (request.Arrive a key m) = asked.Group
inner_kind (request.Idem r k eager remove) = asked.Key
inner_kind (request.Wait ticks) = asked.Moment
inner_kind (request.Finish e m commit) = asked.End
inner_kind _ = asked.Outside

-- the kind of answer that a request waits for
abbrev pub asked_kind : Request → Asked
asked_kind q = cond (is_outside q) asked.Outside (inner_kind q)

-- somebody outside is to answer
abbrev pub is_outside_kind : Asked → Bool
is_outside_kind asked.Outside = true
is_outside_kind _ = false

-- it asks for a line of the log
pub record AsksLine (known : List (Option Request)) (x : ℕ) : Type 0 where
  pub name : List ℕ
  pub text : List ℕ
  pub asks : slice_get known (x - 1) ≡ Some (Some (request.Log name text))

-- it asks to end, with nobody to be told
pub record AsksEnd (known : List (Option Request)) (x : ℕ) : Type 0 where
  pub end : End
  pub message : Message
  pub asks : slice_get known (x - 1) ≡ Some (Some (request.Finish end message false))

-- it asks that parts are born
pub record AsksParts (known : List (Option Request)) (x : ℕ) : Type 0 where
  pub seeds : List Seed
  pub asks : slice_get known (x - 1) ≡ Some (Some (request.Spawn seeds))

-- it asks how its parts ended
pub record AsksEnds (known : List (Option Request)) (x : ℕ) : Type 0 where
  pub first : ℕ
  pub count : ℕ
  pub asks : slice_get known (x - 1) ≡ Some (Some (request.Join first count))

-- it asks to join a group
pub record AsksGroup (known : List (Option Request)) (x : ℕ) : Type 0 where
  pub aggregator : ℕ
  pub key : List ℕ
  pub message : Message
  pub asks : slice_get known (x - 1) ≡ Some (Some (request.Arrive aggregator key message))

-- it offers a key
pub record AsksKey (known : List (Option Request)) (x : ℕ) : Type 0 where
  pub repository : List ℕ
  pub key : List ℕ
  pub eager : Bool
  pub remove : Bool
  pub asks : slice_get known (x - 1) ≡ Some (Some (request.Idem repository key eager remove))

-- it asks to wait
pub record AsksMoment (known : List (Option Request)) (x : ℕ) : Type 0 where
  pub ticks : ℕ
  pub asks : slice_get known (x - 1) ≡ Some (Some (request.Wait ticks))
