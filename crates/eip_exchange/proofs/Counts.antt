-- What the calls of headers do to their count.
use Rattle.std.proofs.Common.{◌≡◌, ◌≤◌, ◌<◌, ℕ, ◌+◌, Bool, true, false, cond, not, ◌&&◌, nat_le, List, [], ◌∷◌, length, Some, is_some, refl, sym, ap, subst, true≢false, arith}
use Rattle.std.proofs.lemmas.Bool.{leb-false, lt-leb}
use Rattle.eip_exchange.specs.Pairs.{Pairs, value_of, put, without}
use Rattle.eip_exchange.specs.Headers.{same_name, get_header, put_header, is_redelivery, is_one_too_many, counted}

pub counted-le-length : (ps : Pairs) → counted ps ≤ length ps
counted-le-length [] = omega arith
counted-le-length (p ∷ ps) =
    elim (is_redelivery p.0) as (λ b. cond b (counted ps) (1 + counted ps) ≤ length (p ∷ ps)) [
      | true ↦ omega (arith, counted-le-length ps)
      | false ↦ omega (arith, counted-le-length ps)
    ]

module _ (same : List ℕ → List ℕ → Bool) where
  -- a header that is there is counted as before
  pub counted-put_present : (name value : List ℕ) (ps : Pairs) → is_some (value_of same name ps) ≡ true → counted (put same name value ps) ≡ counted ps
  counted-put_present name value [] h = absurd (true≢false (sym h))
  counted-put_present name value (p ∷ ps) h =
      (elim (same name p.0) as (λ b. is_some (cond b (Some p.1) (value_of same name ps)) ≡ true → counted (cond b ((p.0, value) ∷ ps) (p ∷ put same name value ps)) ≡ counted (p ∷ ps)) [
        | true ↦ λ g. refl
        | false ↦ λ g. ap (λ n. cond (is_redelivery p.0) n (1 + n)) (counted-put_present name value ps g)
      ]) h

  -- a setting counts at most the new name
  pub counted-put-le : (name value : List ℕ) (ps : Pairs) → counted (put same name value ps) ≤ counted ps + cond (is_redelivery name) 0 1
  counted-put-le name value [] = elim (is_redelivery name) as (λ b. cond b 0 1 ≤ 0 + cond b 0 1) [ true ↦ omega arith | false ↦ omega arith ]
  counted-put-le name value (p ∷ ps) =
      elim (same name p.0) as (λ b. counted (cond b ((p.0, value) ∷ ps) (p ∷ put same name value ps)) ≤ counted (p ∷ ps) + cond (is_redelivery name) 0 1) [
        | true ↦ omega arith
        | false ↦ elim (is_redelivery p.0) as (λ b. cond b (counted (put same name value ps)) (1 + counted (put same name value ps)) ≤ cond b (counted ps) (1 + counted ps) + cond (is_redelivery name) 0 1) [
          | true ↦ counted-put-le name value ps
          | false ↦ omega (arith, counted-put-le name value ps)
        ]
      ]

  pub counted-without-le : (name : List ℕ) (ps : Pairs) → counted (without same name ps) ≤ counted ps
  counted-without-le name [] = omega arith
  counted-without-le name (p ∷ ps) =
      let rest = counted-without-le name ps in
      elim (same name p.0) as (λ b. counted (cond b (without same name ps) (p ∷ without same name ps)) ≤ counted (p ∷ ps)) [
        | true ↦ elim (is_redelivery p.0) as (λ b. counted (without same name ps) ≤ cond b (counted ps) (1 + counted ps)) [ true ↦ rest | false ↦ omega (arith, rest) ]
        | false ↦ elim (is_redelivery p.0) as (λ b. cond b (counted (without same name ps)) (1 + counted (without same name ps)) ≤ cond b (counted ps) (1 + counted ps)) [ true ↦ rest | false ↦ omega (arith, rest) ]
      ]

module _ (same : List ℕ → List ℕ → Bool) where
  -- a setting within the limit stays within it
  within : (name value : List ℕ) (ps : Pairs) (there : Bool) (free : Bool) → is_some (value_of same name ps) ≡ there → is_redelivery name ≡ free → (not there && (not free && nat_le 64 (counted ps))) ≡ false → counted ps ≤ 64 → counted (put same name value ps) ≤ 64
  within name value ps true free t f room limit = omega (arith, limit, counted-put_present same name value ps t)
  within name value ps false true t f room limit =
      let more : counted (put same name value ps) ≤ counted ps + 0 = subst (λ b. counted (put same name value ps) ≤ counted ps + cond b 0 1) f (counted-put-le same name value ps) in
      omega (arith, limit, more)
  within name value ps false false t f room limit =
      let more : counted (put same name value ps) ≤ counted ps + 1 = subst (λ b. counted (put same name value ps) ≤ counted ps + cond b 0 1) f (counted-put-le same name value ps) in
      omega (arith, leb-false 64 (counted ps) room, more)

pub counted-put_header : (name value : List ℕ) (ps : Pairs) → is_one_too_many name ps ≡ false → counted ps ≤ 64 → counted (put_header name value ps) ≤ 64
counted-put_header name value ps room limit = within same_name name value ps (is_some (get_header name ps)) (is_redelivery name) refl refl room limit

-- fewer than 64 pairs are fewer than 64 that count
pub few-counted : (ps : Pairs) (n : ℕ) → n ≡ length ps → n < 64 → nat_le 64 (counted ps) ≡ false
few-counted ps n e h = lt-leb 64 (counted ps) (omega (arith, e, h, counted-le-length ps))
