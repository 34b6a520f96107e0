-- Two turns with the same fields are one.
use Rattle.std.proofs.Common.{◌≡◌, ℕ, Bool, true, false, length}
use Rattle.std.proofs.Props.{props}
use Rattle.atomic_table.specs.declared.shared.Seat.{Seat}
use Rattle.eip_turnstile.specs.declared.chronicle.Chronicle.{Ghosts}
use Rattle.eip_turnstile.specs.declared.view.View.{View}
use Rattle.eip_turnstile.specs.declared.seat.Held.{Held}
use Rattle.eip_turnstile.specs.Rule.{is_lent}
use Rattle.std.proofs.Common.{Option}

bool_prop : (a b : Bool) → IsProp (a ≡ b)
bool_prop a b = hlevel props

nat_prop : (a b : ℕ) → IsProp (a ≡ b)
nat_prop a b = hlevel props

pub same_held : {X E B : Type 0} {g : Ghosts X E B} (place : Seat (Option X) (View E B)) (number made begun : ℕ) (value : X)
    (a a' : begun ≡ length place.me.0.seen) (b b' : is_lent place.me.1 ≡ true) (c c' : place.me.0.spent ≡ false) (d d' : place.me.0.turn ≡ true) (e e' : place.me.0.number ≡ number) (f f' : place.me.0.made ≡ made)
    → ◌≡◌ {A = Held X E B g} record { place = place; number = number; made = made; begun = begun; value = value; began = a; lent = b; live = c; turned = d; numbered = e; counted = f }
    record { place = place; number = number; made = made; begun = begun; value = value; began = a'; lent = b'; live = c'; turned = d'; numbered = e'; counted = f' }
same_held place number made begun value a a' b b' c c' d d' e e' f f' =
    λ i. record {
      place = place;
      number = number;
      made = made;
      begun = begun;
      value = value;
      began = nat_prop begun (length place.me.0.seen) a a' i;
      lent = bool_prop (is_lent place.me.1) true b b' i;
      live = bool_prop place.me.0.spent false c c' i;
      turned = bool_prop place.me.0.turn true d d' i;
      numbered = nat_prop place.me.0.number number e e' i;
      counted = nat_prop place.me.0.made made f f' i;
    }
