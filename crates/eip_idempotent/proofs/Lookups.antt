-- Look-ups in the tables of keys and of claims.
use Rattle.std.proofs.Common.{◌≡◌, ℕ, zero, suc, ◌+◌, ◌==◌, Bool, true, false, cond, List, [], ◌∷◌, ◌++◌, take, slice_get, Option, Some, None, option_map, refl, sym, ap, ◌∙◌, arith}
use Rattle.std.proofs.lemmas.Option.{none-some, same_Some}
use Rattle.eip_exchange.specs.declared.end.Ending.{Ending}
use Rattle.eip_idempotent.proofs.Standing.{same}
use Rattle.eip_idempotent.specs.Keys.{Key, same_key, ClaimView, is_held, HoldersView, settled, settled_claim, settled_claims, Keys, Claims, row_at, PutsKey, value_at, claims_at, PutsClaims}

take_none : {X : Type 0} (xs : List X) → take zero xs ≡ []
take_none [] = refl
take_none (x ∷ xs) = refl

settled_next : (number : ℕ) (end : Ending) (k : Key) (cs : List ClaimView) (i : ℕ) (c : ClaimView) (h : HoldersView) → slice_get cs i ≡ Some c
    → settled_claim number end k c (settled_claims number end k (take i cs) h) ≡ settled_claims number end k (take (suc i) cs) h
settled_next number end k [] i c h at = absurd (none-some c at)
settled_next number end k (d ∷ cs) zero c h at =
    ap (λ (b : ClaimView). settled_claim number end k b h) (sym (same_Some d c at)) ∙ ap (λ (bs : List ClaimView). settled_claims number end k bs (settled_claim number end k d h)) (sym (take_none cs))
settled_next number end k (d ∷ cs) (suc i) c h at = settled_next number end k cs i c (settled_claim number end k d h) at

next_by : (f g next : HoldersView → HoldersView) (o : Option HoldersView) → ((h : HoldersView) → f (g h) ≡ next h) → option_map f (option_map g o) ≡ option_map next o
next_by f g next None same = refl
next_by f g next (Some h) same = ap (λ (held : HoldersView). Some held) (same h)

-- one claim more
pub row_next : (number : ℕ) (end : Ending) (k : Key) (cs : List ClaimView) (i : ℕ) (c : ClaimView) (o now new : Option HoldersView) → slice_get cs i ≡ Some c
    → now ≡ option_map (settled_claims number end k (take i cs)) o → new ≡ option_map (settled_claim number end k c) now → new ≡ option_map (settled_claims number end k (take (i + 1) cs)) o
row_next number end k cs i c o now new at so_far step =
    let e : suc i ≡ i + 1 = omega arith in
    step
    ∙ ap (option_map (settled_claim number end k c)) so_far
    ∙ next_by (settled_claim number end k c) (settled_claims number end k (take i cs)) (settled_claims number end k (take (suc i) cs)) o (λ h. settled_next number end k cs i c h at)
    ∙ ap (λ (n : ℕ). option_map (settled_claims number end k (take n cs)) o) e

settle_by : (t : Bool) (f : HoldersView → HoldersView) (h : HoldersView) (o : Option HoldersView) → (t ≡ true → o ≡ Some h) → cond t (Some (f h)) o ≡ option_map (λ held. cond t (f held) held) o
settle_by true f h o at = sym (ap (option_map f) (at refl))
settle_by false f h None at = refl
settle_by false f h (Some held) at = refl

-- one claim is settled
pub row_settled : (old new : Keys) (number : ℕ) (end : Ending) (c : ClaimView) (j : Key) (h w : HoldersView) → j ≡ c.key → Some h ≡ row_at old j → w ≡ settled number c.eager (is_held (Some end) c) h → PutsKey old new j w
    → (k : Key) → row_at new k ≡ option_map (settled_claim number end k c) (row_at old k)
row_settled old new number end c j h w named at made puts k =
    puts k
    ∙ ap (λ (i : Key). cond (same_key i k) (Some w) (row_at old k)) named
    ∙ ap (λ (g : HoldersView). cond (same_key c.key k) (Some g) (row_at old k)) made
    ∙ settle_by (same_key c.key k) (settled number c.eager (is_held (Some end) c)) h (row_at old k) (λ t. sym (at ∙ ap (row_at old) (named ∙ same c.key k t)))

-- no claim is settled
pub row_same : (number : ℕ) (end : Ending) (k : Key) (cs : List ClaimView) (o : Option HoldersView) → cs ≡ [] → o ≡ option_map (settled_claims number end k cs) o
row_same number end k cs None none = refl
row_same number end k cs (Some h) none = sym (ap (λ (ds : List ClaimView). Some (settled_claims number end k ds h)) none)

-- what was put, by other names
pub put_told : (old mid new : Keys) (j k : Key) (h g : HoldersView) → mid ≡ old → j ≡ k → h ≡ g → PutsKey mid new j h → PutsKey old new k g
put_told old mid new j k h g entries named made puts = λ i.
    puts i
    ∙ ap (λ (es : Keys). cond (same_key j i) (Some h) (row_at es i)) entries
    ∙ ap (λ (n : Key). cond (same_key n i) (Some h) (row_at old i)) named
    ∙ ap (λ (w : HoldersView). cond (same_key k i) (Some w) (row_at old i)) made

pub add_told : (old new : Claims) (number : ℕ) (d c : ClaimView) → d ≡ c → PutsClaims old new number (Some (claims_at old number ++ d ∷ [])) → PutsClaims old new number (Some (claims_at old number ++ c ∷ []))
add_told old new number d c made puts = λ x.
    puts x ∙ ap (λ (e : ClaimView). cond (number == x) (Some (claims_at old number ++ e ∷ [])) (value_at old x)) made
