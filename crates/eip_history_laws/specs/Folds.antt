-- How the message of a group is made of its arrivals.
use Rattle.std.specs.Prelude.{ℕ, ◌≡◌, ◌+◌, List, [], ◌∷◌, Option, Some}
use Rattle.eip_exchange.specs.declared.message.Message.{Message}
use Rattle.eip_history.specs.Plan.{GroupRule, Gives}
use Rattle.eip_history.specs.Groups.{Arrival, labelled}

-- n arrivals made what stands before; each further one is added to that without a fault, and the message says how many there are then, and by which key
abbrev pub FoldsFrom : GroupRule → List ℕ → (n : ℕ) → Option Message → List Arrival → Message → Type 0
FoldsFrom r key n before [] m = before ≡ Some m
FoldsFrom r key n before (p ∷ ps) m =
    (one : Message) × (r.add before p.message ≡ Gives one) × FoldsFrom r key (n + 1) (Some (labelled (n + 1) key one)) ps m
