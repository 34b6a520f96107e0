-- What stands behind the last dot, by cutting at dots.
use Rattle.std.proofs.Common.{ℕ, Bool, true, false, cond, ◌≡◌, ◌==◌, List, [], ◌∷◌, Option, Some, None, option_map, is_some, refl, ◌∙◌}
use Rattle.eip_text.specs.Cuts.{cut, holds_byte}
use Rattle.eip_route_grammar.specs.Texts.{last_segment}

abbrev pub behind_byte : ℕ → List ℕ × List ℕ → List ℕ × List ℕ
behind_byte b p = (b ∷ p.0, p.1)

some_mapped : (b : ℕ) (o : Option (List ℕ × List ℕ)) → is_some o ≡ is_some (option_map (behind_byte b) o)
some_mapped b None = refl
some_mapped b (Some p) = refl

holds_by : (t : Bool) (b : ℕ) (bs : List ℕ) → holds_byte 46 bs ≡ is_some (cut 46 bs) → cond t true (holds_byte 46 bs) ≡ is_some (cond {A = Option (List ℕ × List ℕ)} t (Some ([], bs)) (option_map (behind_byte b) (cut 46 bs)))
holds_by true b bs e = refl
holds_by false b bs e = e ∙ some_mapped b (cut 46 bs)

holds_cut : (bs : List ℕ) → holds_byte 46 bs ≡ is_some (cut 46 bs)
holds_cut [] = refl
holds_cut (b ∷ bs) = holds_by (b == 46) b bs (holds_cut bs)

abbrev pub segment_in : List ℕ → Option (List ℕ × List ℕ) → List ℕ
segment_in bs None = bs
segment_in bs (Some p) = last_segment p.1

inner : (o : Option (List ℕ × List ℕ)) (b : ℕ) (bs : List ℕ) → last_segment bs ≡ segment_in bs o → cond (is_some o) (last_segment bs) (b ∷ bs) ≡ segment_in (b ∷ bs) (option_map (behind_byte b) o)
inner None b bs e = refl
inner (Some p) b bs e = e

segment_by : (t : Bool) (b : ℕ) (bs : List ℕ) → last_segment bs ≡ segment_in bs (cut 46 bs) → holds_byte 46 bs ≡ is_some (cut 46 bs)
    → cond (cond t true (holds_byte 46 bs)) (last_segment bs) (b ∷ bs) ≡ segment_in (b ∷ bs) (cond {A = Option (List ℕ × List ℕ)} t (Some ([], bs)) (option_map (behind_byte b) (cut 46 bs)))
segment_by true b bs e h = refl
segment_by false b bs e h = rw h (inner (cut 46 bs) b bs e)

pub segment_cut : (bs : List ℕ) → last_segment bs ≡ segment_in bs (cut 46 bs)
segment_cut [] = refl
segment_cut (b ∷ bs) = segment_by (b == 46) b bs (segment_cut bs) (holds_cut bs)
