-- What is done at the place of a name is what is done by the name.
use Rattle.std.proofs.Common.{◌≡◌, ◌+◌, ◌<◌, ℕ, suc, zero, Bool, true, false, cond, List, [], ◌∷◌, length, set, get_or, Option, Some, None, is_some, refl, sym, ap, subst, ◌∙◌, IfSome, Result, Ok, Err, OnOk, OnErr, arith}
use Rattle.std.specs.Cmp.{IsEquivalence}
use Rattle.std.specs.List.{IsDistinct, AllByRecursion, position, position_from}
use Rattle.std.specs.Option.{option_map}
use Rattle.std.proofs.lemmas.Iterator.Adapters.{position_from-zero}
use Rattle.eip_exchange.specs.Pairs.{Pairs, names, value_of, put, without}
use Rattle.eip_exchange.specs.Places.{place_of, value_at, with_value, put_at, without_at}

-- ---- the place of a name, from the front

position_from-suc : {X : Type 0} (t : X → Bool) (n : ℕ) (xs : List X) → position_from t (n + 1) xs ≡ option_map suc (position_from t n xs)
position_from-suc t n [] = refl
position_from-suc t n (x ∷ xs) = elim (t x) as (λ b. cond b (Some (n + 1)) (position_from t ((n + 1) + 1) xs) ≡ option_map suc (cond b (Some n) (position_from t (n + 1) xs))) [
  | true ↦ ap Some (omega arith)
  | false ↦ position_from-suc t (n + 1) xs
]

position-cons : {X : Type 0} (t : X → Bool) (x : X) (xs : List X) → position t (x ∷ xs) ≡ cond (t x) (Some 0) (option_map suc (position t xs))
position-cons t x xs =
    position_from-zero t (x ∷ xs)
    ∙ ap (cond (t x) (Some 0)) (position_from-suc t 0 xs ∙ ap (option_map suc) (sym (position_from-zero t xs)))

value_at-next : (o : Option ℕ) (p : List ℕ × List ℕ) (ps : Pairs) → value_at (option_map suc o) (p ∷ ps) ≡ value_at o ps
value_at-next None p ps = refl
value_at-next (Some k) p ps = refl

put_at-next : (o : Option ℕ) (name value : List ℕ) (p : List ℕ × List ℕ) (ps : Pairs) → put_at (option_map suc o) name value (p ∷ ps) ≡ p ∷ put_at o name value ps
put_at-next None name value p ps = refl
put_at-next (Some k) name value p ps = refl

without_at-next : (o : Option ℕ) (p : List ℕ × List ℕ) (ps : Pairs) → without_at (option_map suc o) (p ∷ ps) ≡ p ∷ without_at o ps
without_at-next None p ps = refl
without_at-next (Some k) p ps = refl

some-next : (o : Option ℕ) → is_some (option_map suc o) ≡ is_some o
some-next None = refl
some-next (Some k) = refl

within-next : (o : Option ℕ) (p : List ℕ × List ℕ) (ps : Pairs) → IfSome o (λ k. k < length ps) → IfSome (option_map suc o) (λ k. k < length (p ∷ ps))
within-next None p ps h = tt
within-next (Some k) p ps h = omega (arith, h)

-- a value written into the pair at a place
pub with_value-set : (k : ℕ) (value : List ℕ) (ps : Pairs) (d : List ℕ × List ℕ) → set ps k ((get_or ps k d).0, value) ≡ with_value k value ps
with_value-set k value [] d = refl
with_value-set zero value (p ∷ ps) d = refl
with_value-set (suc k) value (p ∷ ps) d = ap (λ l. p ∷ l) (with_value-set k value ps d)

pub IsDistinct-none : (same : List ℕ → List ℕ → Bool) → IsDistinct same (names [])
unfolding IsDistinct
IsDistinct-none same = tt

module _ (same : List ℕ → List ℕ → Bool) where
  place_of-cons : (name : List ℕ) (p : List ℕ × List ℕ) (ps : Pairs) → place_of same name (p ∷ ps) ≡ cond (same name p.0) (Some 0) (option_map suc (place_of same name ps))
  place_of-cons name p ps = position-cons (λ (q : List ℕ × List ℕ). same name q.0) p ps

  -- a place is one of the list
  pub place-within : (name : List ℕ) (ps : Pairs) → IfSome (place_of same name ps) (λ k. k < length ps)
  place-within name [] = tt
  place-within name (p ∷ ps) =
      subst (λ o. IfSome o (λ k. k < length (p ∷ ps))) (sym (place_of-cons name p ps))
      (elim (same name p.0) as (λ b. IfSome (cond b (Some 0) (option_map suc (place_of same name ps))) (λ k. k < length (p ∷ ps))) [
        | true ↦ omega arith
        | false ↦ within-next (place_of same name ps) p ps (place-within name ps)
      ])

  -- a name has a place exactly where it has a value
  pub place-there : (name : List ℕ) (ps : Pairs) → is_some (place_of same name ps) ≡ is_some (value_of same name ps)
  place-there name [] = refl
  place-there name (p ∷ ps) =
      ap is_some (place_of-cons name p ps)
      ∙ (elim (same name p.0) as (λ b. is_some (cond b (Some 0) (option_map suc (place_of same name ps))) ≡ is_some (cond b (Some p.1) (value_of same name ps))) [
        | true ↦ refl
        | false ↦ some-next (place_of same name ps) ∙ place-there name ps
      ])

  pub value_at-place : (name : List ℕ) (ps : Pairs) → value_at (place_of same name ps) ps ≡ value_of same name ps
  value_at-place name [] = refl
  value_at-place name (p ∷ ps) =
      ap (λ o. value_at o (p ∷ ps)) (place_of-cons name p ps)
      ∙ (elim (same name p.0) as (λ b. value_at (cond b (Some 0) (option_map suc (place_of same name ps))) (p ∷ ps) ≡ cond b (Some p.1) (value_of same name ps)) [
        | true ↦ refl
        | false ↦ value_at-next (place_of same name ps) p ps ∙ value_at-place name ps
      ])

  pub put_at-place : (name value : List ℕ) (ps : Pairs) → put_at (place_of same name ps) name value ps ≡ put same name value ps
  put_at-place name value [] = refl
  put_at-place name value (p ∷ ps) =
      ap (λ o. put_at o name value (p ∷ ps)) (place_of-cons name p ps)
      ∙ (elim (same name p.0) as (λ b. put_at (cond b (Some 0) (option_map suc (place_of same name ps))) name value (p ∷ ps) ≡ cond b ((p.0, value) ∷ ps) (p ∷ put same name value ps)) [
        | true ↦ refl
        | false ↦ put_at-next (place_of same name ps) name value p ps ∙ ap (λ l. p ∷ l) (put_at-place name value ps)
      ])

  -- ---- distinct names

  apart-put : (a name value : List ℕ) (ps : Pairs) → same a name ≡ false → AllByRecursion (λ k. same a k ≡ false) (names ps) → AllByRecursion (λ k. same a k ≡ false) (names (put same name value ps))
  apart-put a name value [] e h = (e, tt)
  apart-put a name value (p ∷ ps) e h =
      elim (same name p.0) as (λ b. AllByRecursion (λ k. same a k ≡ false) (names (cond b ((p.0, value) ∷ ps) (p ∷ put same name value ps)))) [
        | true ↦ h
        | false ↦ (h.0, apart-put a name value ps e h.1)
      ]

  apart-without : (a name : List ℕ) (ps : Pairs) → AllByRecursion (λ k. same a k ≡ false) (names ps) → AllByRecursion (λ k. same a k ≡ false) (names (without same name ps))
  apart-without a name [] h = tt
  apart-without a name (p ∷ ps) h =
      elim (same name p.0) as (λ b. AllByRecursion (λ k. same a k ≡ false) (names (cond b (without same name ps) (p ∷ without same name ps)))) [
        | true ↦ apart-without a name ps h.1
        | false ↦ (h.0, apart-without a name ps h.1)
      ]

  pub IsDistinct-without : (name : List ℕ) (ps : Pairs) → IsDistinct same (names ps) → IsDistinct same (names (without same name ps))
  unfolding IsDistinct
  IsDistinct-without name [] d = tt
  IsDistinct-without name (p ∷ ps) d =
      elim (same name p.0) as (λ b. IsDistinct same (names (cond b (without same name ps) (p ∷ without same name ps)))) [
        | true ↦ IsDistinct-without name ps d.1
        | false ↦ (apart-without p.0 name ps d.0, IsDistinct-without name ps d.1)
      ]

  without-apart : (name : List ℕ) (ps : Pairs) → AllByRecursion (λ k. same name k ≡ false) (names ps) → without same name ps ≡ ps
  without-apart name [] h = refl
  without-apart name (p ∷ ps) h =
      ap (λ b. cond b (without same name ps) (p ∷ without same name ps)) h.0 ∙ ap (λ l. p ∷ l) (without-apart name ps h.1)

  module _ (laws : IsEquivalence same) where
    along : (a b : List ℕ) (ks : List (List ℕ)) → same a b ≡ true → AllByRecursion (λ k. same b k ≡ false) ks → AllByRecursion (λ k. same a k ≡ false) ks
    along a b [] e h = tt
    along a b (k ∷ ks) e h = (laws.congr a b k e ∙ h.0, along a b ks e h.1)

    pub IsDistinct-put : (name value : List ℕ) (ps : Pairs) → IsDistinct same (names ps) → IsDistinct same (names (put same name value ps))
    unfolding IsDistinct
    IsDistinct-put name value [] d = (tt, tt)
    IsDistinct-put name value (p ∷ ps) d = by (same name p.0) refl (IsDistinct-put name value ps d.1)
      where
        by : (b : Bool) → same name p.0 ≡ b → IsDistinct same (names (put same name value ps)) → IsDistinct same (names (cond (same name p.0) ((p.0, value) ∷ ps) (p ∷ put same name value ps)))
        by true h rest = subst (λ b. IsDistinct same (names (cond b ((p.0, value) ∷ ps) (p ∷ put same name value ps)))) (sym h) d
        by false h rest =
            subst (λ b. IsDistinct same (names (cond b ((p.0, value) ∷ ps) (p ∷ put same name value ps)))) (sym h)
            (apart-put p.0 name value ps (laws.symm p.0 name ∙ h) d.0, rest)

    -- where the names are distinct, the pair at the place of a name is the only one of that name
    pub without_at-place : (name : List ℕ) (ps : Pairs) → IsDistinct same (names ps) → without_at (place_of same name ps) ps ≡ without same name ps
    unfolding IsDistinct
    without_at-place name [] d = refl
    without_at-place name (p ∷ ps) d = ap (λ o. without_at o (p ∷ ps)) (place_of-cons name p ps) ∙ by (same name p.0) refl (without_at-place name ps d.1)
      where
        by : (b : Bool) → same name p.0 ≡ b → without_at (place_of same name ps) ps ≡ without same name ps
            → without_at (cond (same name p.0) (Some 0) (option_map suc (place_of same name ps))) (p ∷ ps) ≡ cond (same name p.0) (without same name ps) (p ∷ without same name ps)
        by true h rest =
            ap (λ b. without_at (cond b (Some 0) (option_map suc (place_of same name ps))) (p ∷ ps)) h
            ∙ sym (without-apart name ps (along name p.0 (names ps) h d.0))
            ∙ ap (λ b. cond b (without same name ps) (p ∷ without same name ps)) (sym h)
        by false h rest =
            ap (λ b. without_at (cond b (Some 0) (option_map suc (place_of same name ps))) (p ∷ ps)) h
            ∙ without_at-next (place_of same name ps) p ps ∙ ap (λ l. p ∷ l) rest
            ∙ ap (λ b. cond b (without same name ps) (p ∷ without same name ps)) (sym h)

    -- the names stay distinct, whether a value was set or nothing was changed
    pub distinct_after : {T E : Type 0} (r : Result T E) (name value : List ℕ) (old new : Pairs) → IsDistinct same (names old) → OnOk r (new ≡ put same name value old) → OnErr r (new ≡ old) → IsDistinct same (names new)
    distinct_after (Ok x) name value old new d set stays = subst (λ ps. IsDistinct same (names ps)) (sym set) (IsDistinct-put name value old d)
    distinct_after (Err e) name value old new d set stays = subst (λ ps. IsDistinct same (names ps)) (sym stays) d

-- what holds of the pairs before and of those that an Ok leaves holds of those that are left
pub kept_after : {T E : Type 0} (P : Pairs → Type 0) (r : Result T E) (old other new : Pairs) → P old → P other → OnOk r (new ≡ other) → OnErr r (new ≡ old) → P new
kept_after P (Ok x) old other new before after set stays = subst P (sym set) after
kept_after P (Err e) old other new before after set stays = subst P (sym stays) before
