-- Which ports a network listens to.
use Rattle.std.specs.Prelude.{ℕ, ◌≡◌, ◌⊎◌, ◌==◌, Bool, cond, List, [], ◌∷◌, ◌++◌, Result, Ok, Err, map, take, length}
use Rattle.std.specs.List.{list_any}

-- the ports of listeners, in their order
abbrev pub ports_of : {L : Type 0} → List (ℕ × L) → List ℕ
ports_of listeners = map (λ l. l.0) listeners

-- is a port among these
abbrev pub is_bound : ℕ → List ℕ → Bool
is_bound port ports = list_any (λ p. p == port) ports

-- the ports with one more, unless it is among them
abbrev pub with_port : ℕ → List ℕ → List ℕ
with_port port ports = cond (is_bound port ports) ports (ports ++ port ∷ [])

-- the listeners that were there are there still, in front of any other
abbrev pub Kept : {L : Type 0} → List (ℕ × L) → List (ℕ × L) → Type 0
Kept old new = take (length old) new ≡ old

-- a port that is listened to is among the ports, and one that can't be bound changes none
abbrev pub Listened : {T E : Type 0} → ℕ → List ℕ → Result T E → List ℕ → Type 0
Listened port old (Ok x) new = new ≡ with_port port old
Listened port old (Err e) new = new ≡ old

-- a port of which a peer was accepted is among the ports; where none was, it may be, and the others are as before
abbrev pub Accepted : {T E : Type 0} → ℕ → List ℕ → Result T E → List ℕ → Type 0
Accepted port old (Ok x) new = new ≡ with_port port old
Accepted port old (Err e) new = (new ≡ old) ⊎ (new ≡ with_port port old)
