-- Laws of adding under a name.
use Rattle.std.proofs.Common.{ℕ, ◌≡◌, Bool, true, false, List, [], ◌∷◌, ◌++◌, Option, Some, None, is_some, Result, Err, refl, sym, ap, ◌∙◌}
use Rattle.std.proofs.lemmas.Bool.{false≢true}
use Rattle.eip_keyed.specs.Keyed.{Keyed, found}
use Rattle.eip_keyed.proofs.KeyedLaws.{found-last}
use Rattle.eip_processor.specs.declared.registry.AddFault.{AddFault}
use Rattle.eip_processor.specs.declared.registry.AddFault.TheVariants as fault

-- what a test of a name answered is so
pub tested :
    {V : Type 0} (name : List ℕ) (slice es : Keyed V) (there b : Bool) → slice ≡ es → there ≡ is_some (found name slice) → there ≡ b → is_some (found name es) ≡ b
tested name slice es there b same has is = ap (λ xs. is_some (found name xs)) (sym same) ∙ sym has ∙ is

free-name : {V : Type 0} (o : Option V) → is_some o ≡ false → o ≡ None
free-name None e = refl
free-name (Some v) e = absurd (cc e)

-- what is put behind the others under a free name is found by it
pub added-found :
    {V : Type 0} (name : List ℕ) (es now : Keyed V) (v : V) → is_some (found name es) ≡ false → now ≡ es ++ (name, v) ∷ [] → found name now ≡ Some v
added-found name es now v free put = ap (found name) put ∙ found-last name es v (free-name (found name es) free)

-- an answer that is no fault of a taken name, where the name was free
pub still-free :
    (r : Result Unit AddFault) (b : Bool) → b ≡ false → (r ≡ Err fault.NameTaken → ⊥) → (r ≡ Err fault.NameTaken → b ≡ true) × (b ≡ true → r ≡ Err fault.NameTaken)
still-free r b free other = (λ h. absurd (other h), λ h. absurd (false≢true (sym free ∙ h)))
