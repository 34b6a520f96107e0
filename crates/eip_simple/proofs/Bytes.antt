-- A text's bytes are below 256.
use Rattle.std.proofs.Common.{◌≡◌, ℕ, zero, suc, ◌+◌, ◌<◌, ◌/◌, Bool, true, false, cond, List, [], ◌∷◌, ◌++◌, get_or, refl, subst, ⊎_elim, arith}
use Rattle.std.specs.Prelude.{nat_lt}
use Rattle.std.specs.Str.{IsUtf8}
use Rattle.std.proofs.Math.Utf8.{scalar, scalars, scalar_cases, encode, encodes, next}
use Rattle.std.proofs.lemmas.Bool.{and_parts, ltb-true}

abbrev AreBytes : List ℕ → Type 0
AreBytes [] = Unit {0}
AreBytes (b ∷ bs) = (b < 256) × AreBytes bs

AreBytes-append : (bs cs : List ℕ) → AreBytes bs → AreBytes cs → AreBytes (bs ++ cs)
AreBytes-append [] cs h g = g
AreBytes-append (b ∷ bs) cs h g = (h.0, AreBytes-append bs cs h.1 g)

below : (c : ℕ) → scalar c ≡ true → c < 1114112
below c h = ⊎_elim (λ low. omega (arith, low)) (λ high. high.1) (scalar_cases c h)

follows : (n : ℕ) → next n < 256
follows n = omega arith

encoded : (one two three : Bool) (c : ℕ) → c < 1114112 → nat_lt c 128 ≡ one → nat_lt c 2048 ≡ two → nat_lt c 65536 ≡ three
    → AreBytes (cond one (c ∷ []) (cond two ((192 + c / 64) ∷ next c ∷ []) (cond three ((224 + c / 4096) ∷ next (c / 64) ∷ next c ∷ []) ((240 + c / 262144) ∷ next (c / 4096) ∷ next (c / 64) ∷ next c ∷ []))))
encoded true two three c h a b d = let low = ltb-true c 128 a in (omega arith, tt)
encoded false true three c h a b d = let low = ltb-true c 2048 b in (omega arith, (follows c, tt))
encoded false false true c h a b d = let low = ltb-true c 65536 d in (omega arith, (follows (c / 64), (follows c, tt)))
encoded false false false c h a b d = (omega arith, (follows (c / 4096), (follows (c / 64), (follows c, tt))))

of_scalar : (c : ℕ) → scalar c ≡ true → AreBytes (encode c)
unfolding encode
of_scalar c h = encoded (nat_lt c 128) (nat_lt c 2048) (nat_lt c 65536) c (below c h) refl refl refl

of_scalars : (cs : List ℕ) → scalars cs ≡ true → AreBytes (encodes cs)
of_scalars [] h = tt
of_scalars (c ∷ cs) h =
    let p = and_parts (scalar c) (scalars cs) h in
    AreBytes-append (encode c) (encodes cs) (of_scalar c p.0) (of_scalars cs p.1)

at : (bs : List ℕ) (k : ℕ) → AreBytes bs → get_or bs k 0 < 256
at [] k h = omega arith
at (b ∷ bs) zero h = h.0
at (b ∷ bs) (suc k) h = at bs k h.1

pub text_bytes : (bs : List ℕ) → IsUtf8 bs → (k : ℕ) → get_or bs k 0 < 256
text_bytes bs u k = at bs k (subst AreBytes u.1.1 (of_scalars u.0 u.1.0))
