-- A text cut at each place of a token, from the left; places do not overlap.
use Rattle.std.specs.Prelude.{ℕ, zero, suc, ◌-◌, Bool, List, [], ◌∷◌, length, if◌then◌else◌}
use Rattle.std.specs.Option.{is_some}
use Rattle.eip_text.specs.Cuts.{behind, in_front}

-- whether the text begins with the token
abbrev pub begins_with : List ℕ → List ℕ → Bool
begins_with token bs = is_some (behind token bs)

-- the pieces of a text of which so many bytes still belong to a token
abbrev pub pieces_behind : List ℕ → ℕ → List ℕ → List (List ℕ)
pieces_behind token n [] = [] ∷ []
pieces_behind token (suc n) (b ∷ bs) = pieces_behind token n bs
pieces_behind token zero (b ∷ bs) = if begins_with token (b ∷ bs) then [] ∷ pieces_behind token (length token - 1) bs else in_front b (pieces_behind token zero bs)

-- the pieces between the places of the token: one more than there are places
abbrev pub pieces : List ℕ → List ℕ → List (List ℕ)
pieces token text = pieces_behind token 0 text
