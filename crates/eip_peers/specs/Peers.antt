-- Which peers a link has connections to.
use Rattle.std.specs.Prelude.{ℕ, ◌≡◌, ◌⊎◌, bytes_eq, cond, false, List, [], ◌∷◌, ◌++◌, Option, Some, None, Result, Ok, Err}
use Rattle.eip_frames.specs.declared.request.Target.{Target}
use Rattle.eip_frames.specs.declared.request.Target.TheVariants as target
use Rattle.eip_uri.specs.Printed.{printed}
use Rattle.eip_uri.specs.declared.uri.Uri.TheVariants as uri
use Rattle.eip_endpoint.specs.Files.{is_among}
use Rattle.eip_line.specs.declared.link.LinkFault.{LinkFault}
use Rattle.eip_line.specs.declared.link.LinkFault.TheVariants as fault

-- a link to peers tells no content
abbrev pub untold_bytes : Option (List ℕ)
untold_bytes = None

-- the printed address of a target, if it has one
abbrev pub address_of : Target → Option (List ℕ)
address_of (target.Line host port) = Some (printed (uri.Line host port))
address_of (target.File folder name e) = None
address_of (target.Lane name) = None

-- the names with one more, unless it is among them
abbrev pub with_name : List ℕ → List (List ℕ) → List (List ℕ)
with_name u names = cond (is_among u names) names (names ++ u ∷ [])

-- reading of a port keeps the connections of all ports, and has one of that port where it gave bytes
abbrev pub Heard : {T : Type 0} → List ℕ → List (List ℕ) → Result T LinkFault → List (List ℕ) → Type 0
Heard u old (Ok n) new = new ≡ with_name u old
Heard u old (Err f) new = (new ≡ old) ⊎ (new ≡ with_name u old)

-- the connection of an address is given up, and no other
pub record GivenUp (u : List ℕ) (old new : List (List ℕ)) : Type 0 where
  pub gone : is_among u new ≡ false
  pub others : (v : List ℕ) → bytes_eq u v ≡ false → is_among v new ≡ is_among v old

-- writing to an address keeps all connections and has one to it where it wrote, and gives that one up where it failed
abbrev pub Called : {T : Type 0} → List ℕ → List (List ℕ) → Result T LinkFault → List (List ℕ) → Type 0
Called u old (Ok x) new = new ≡ with_name u old
Called u old (Err fault.Failed) new = GivenUp u old new
Called u old (Err fault.NoMemory) new = new ≡ old
