-- The last segment of a name, by cutting at its dots.
use Rattle.std.proofs.Common.{◌≡◌, ℕ, Bool, true, false, cond, eqb, List, [], ◌∷◌, Some, None, refl, sym, ap, ◌∙◌}
use Rattle.eip_text.specs.Cuts.{cut, pieces, in_front}
use Rattle.eip_text.proofs.Cutting.{first_piece, last_piece}
use Rattle.eip_error_handler.specs.Clauses.{last_of, last_segment}

-- where a piece stands behind, what stands in front doesn't count
fronted : (b : ℕ) (ps : List (List ℕ)) (t u : List ℕ) → last_of t (in_front b ps) ≡ last_of u (in_front b ps)
fronted b [] t u = refl
fronted b (p ∷ ps) t u = refl

behind_by : (t : Bool) (b : ℕ) (bs u v : List ℕ) → last_of u (cond t ([] ∷ pieces 46 bs) (in_front b (pieces 46 bs))) ≡ last_of v (cond t ([] ∷ pieces 46 bs) (in_front b (pieces 46 bs)))
behind_by true b bs u v = refl
behind_by false b bs u v = fronted b (pieces 46 bs) u v

behind_any : (bs u v : List ℕ) → last_of u (pieces 46 bs) ≡ last_of v (pieces 46 bs)
behind_any [] u v = refl
behind_any (b ∷ bs) u v = behind_by (eqb b 46) b bs u v

-- a name with a dot has the last segment of what stands behind that dot
pub segment_behind : (bs front more : List ℕ) → Some (front, more) ≡ cut 46 bs → last_segment bs ≡ last_segment more
segment_behind bs front more e = ap (last_of []) (first_piece 46 bs (front, more) (sym e)) ∙ behind_any more front []

-- a name without a dot is its last segment
pub segment_whole : (bs : List ℕ) → None ≡ cut 46 bs → last_segment bs ≡ bs
segment_whole bs e = ap (last_of []) (last_piece 46 bs (sym e))
