-- Laws of the ports that are listened to.
use Rattle.std.proofs.Common.{ℕ, ◌≡◌, List, [], ◌∷◌, ◌++◌, true, false, Some, refl, ap, length, slice_get}
use Rattle.std.proofs.lemmas.Bool.{eq-eqb}
use Rattle.std.proofs.lemmas.Map.Keys.{any_passes_from_place}
use Rattle.eip_host.specs.Networks.{ports_of, is_bound, with_port}

-- a port that has a listener gets no other one
pub bound-there : (ports : List ℕ) (k port : ℕ) → slice_get ports k ≡ Some port → ports ≡ with_port port ports
bound-there ports k port there =
    let bound : is_bound port ports ≡ true = any_passes_from_place _ ports k port there (eq-eqb port port refl) in
    rw bound refl

ports-last : {L : Type 0} (ls : List (ℕ × L)) (port : ℕ) (l : L) → ports_of (ls ++ (port, l) ∷ []) ≡ ports_of ls ++ port ∷ []
ports-last [] port l = refl
ports-last (e ∷ ls) port l = ap (λ (ports : List ℕ). e.0 ∷ ports) (ports-last ls port l)

-- one that has none gets one behind the others
pub bound-last : {L : Type 0} (ls : List (ℕ × L)) (port : ℕ) (l : L) → is_bound port (ports_of ls) ≡ false → ports_of (ls ++ (port, l) ∷ []) ≡ with_port port (ports_of ls)
bound-last ls port l none = rw none (ports-last ls port l)

pub stands-last : {L : Type 0} (ls : List (ℕ × L)) (port : ℕ) (l : L) → slice_get (ports_of (ls ++ (port, l) ∷ [])) (length ls) ≡ Some port
stands-last [] port l = refl
stands-last (e ∷ ls) port l = stands-last ls port l
