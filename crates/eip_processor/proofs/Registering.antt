-- Laws of what is called by a name.
use Rattle.std.proofs.Common.{ℕ, ◌≡◌, Bool, cond, true, false, ◌||◌, bytes_eq, List, [], ◌∷◌, Option, Some, None, sym, subst}
use Rattle.std.specs.List.{list_any}
use Rattle.eip_keyed.specs.Keyed.{Keyed, keys_of, found}
use Rattle.eip_processor.specs.Registered.{OfThe}

-- what stands among the names is found
pub not-missing : {V : Type 0} (name : List ℕ) (es : Keyed V) → list_any (λ n. bytes_eq n name) (keys_of es) ≡ true → found name es ≡ None → ⊥
not-missing name [] among none = cc among
not-missing {V = V} name (e ∷ es) among none =
    let At : Bool → Type 0 = λ b. (b || list_any (λ n. bytes_eq n name) (keys_of es)) ≡ true → cond b (Some e.1) (found name es) ≡ None → ⊥ in
    let cases : At (bytes_eq e.0 name) =
    elim (bytes_eq e.0 name) as At [
      | true ↦ λ here some. cc some
      | false ↦ λ there rest. not-missing name es there rest
    ] in
    cases among none

-- what is so of the one that there is
pub of-the : {V : Type 0} (o : Option V) (v : V) (P : V → Type 0) → o ≡ Some v → P v → OfThe o P
of-the o v P is h = subst (λ x. OfThe x P) (sym is) h
