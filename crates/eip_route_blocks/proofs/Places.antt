-- What building takes at the places of an object, one behind the other.
use Rattle.std.proofs.Common.{◌≡◌, ℕ, ◌+◌, ◌<◌, true, List, length, get_or, drop, sym, ap, ◌∙◌, subst}
use Rattle.std.proofs.lemmas.List.{at_drop_more}
use Rattle.eip_route_values.proofs.Taking.{spent_append, holds_first, holds_behind}
use Rattle.eip_text.specs.Json.{Members}
use Rattle.eip_route_values.specs.Taken.{spent, holds, at_places, in_place}
use Rattle.eip_route_values.specs.declared.places.Place.{Place}

-- what is known behind one more place
pub place_left : (texts : Place → List (List ℕ)) (ps : List Place) (i : ℕ) (d : Place) (whole now after : List ℕ → ℕ) → i < length ps → whole ≡ spent (at_places texts (drop i ps)) now
    → after ≡ spent (texts (get_or ps i d)) now → whole ≡ spent (at_places texts (drop (i + 1) ps)) after
place_left texts ps i d whole now after l e p =
    let rest = at_places texts (drop (i + 1) ps) in
    e ∙ (at_drop_more (λ x. spent (at_places texts x) now) ps i d l ∙ (spent_append (texts (get_or ps i d)) rest now ∙ ap (spent rest) (sym p)))

-- what one place takes is held, and behind it what the others take
place_held : (texts : Place → List (List ℕ)) (ps : List Place) (i : ℕ) (d : Place) (now : List ℕ → ℕ) → i < length ps → holds (at_places texts (drop i ps)) now ≡ true → holds (texts (get_or ps i d)) now ≡ true
place_held texts ps i d now l h =
    holds_first (texts (get_or ps i d)) (at_places texts (drop (i + 1) ps)) now (sym (at_drop_more (λ x. holds (at_places texts x) now) ps i d l) ∙ h)

pub one_place_held : (ms : Members) (ps : List Place) (i : ℕ) (d : Place) (now : List ℕ → ℕ) → i < length ps → holds (at_places (in_place ms) (drop i ps)) now ≡ true → holds (in_place ms (get_or ps i d)) now ≡ true
one_place_held ms = place_held (in_place ms)

pub places_held : (texts : Place → List (List ℕ)) (ps : List Place) (i : ℕ) (d : Place) (now after : List ℕ → ℕ) → i < length ps → holds (at_places texts (drop i ps)) now ≡ true
    → after ≡ spent (texts (get_or ps i d)) now → holds (at_places texts (drop (i + 1) ps)) after ≡ true
places_held texts ps i d now after l h p =
    let rest = at_places texts (drop (i + 1) ps) in
    subst (λ (s : List ℕ → ℕ). holds rest s ≡ true) (sym p)
    (holds_behind (texts (get_or ps i d)) rest now (sym (at_drop_more (λ x. holds (at_places texts x) now) ps i d l) ∙ h))
