-- Laws of content that is told or isn't, and of counts of faults.
use Rattle.std.proofs.Common.{ℕ, ◌≡◌, ◌+◌, List, [], ◌++◌, Option, Some, None, refl, sym, ap, arith, append_assoc, append-nil}
use Rattle.eip_text.specs.Causes.{Rises}
use Rattle.eip_endpoint.specs.Content.{extended, preceded}

pub extended-none : {A : Type 0} (o : Option (List A)) → o ≡ extended o []
extended-none None = refl
extended-none (Some xs) = ap Some (sym (append-nil xs))

pub extended-append : {A : Type 0} (o : Option (List A)) (xs ys : List A) → extended (extended o xs) ys ≡ extended o (xs ++ ys)
extended-append None xs ys = refl
extended-append (Some zs) xs ys = ap Some (append_assoc zs xs ys)

pub preceded-none : {A : Type 0} (o : Option (List A)) → o ≡ preceded [] o
preceded-none None = refl
preceded-none (Some xs) = refl

pub preceded-append : {A : Type 0} (o : Option (List A)) (xs ys : List A) → preceded xs (preceded ys o) ≡ preceded (xs ++ ys) o
preceded-append None xs ys = refl
preceded-append (Some zs) xs ys = ap Some (sym (append_assoc xs ys zs))

-- without a fault the count stays
pub Rises-none : (n : ℕ) → Rises 0 n n
Rises-none n = record { never_falls = omega arith; least = omega arith; none = λ _. refl }

-- faults in a row add up
pub Rises-trans : (a b x y z : ℕ) → Rises a x y → Rises b y z → Rises (a + b) x z
Rises-trans a b x y z r s = record {
  never_falls = omega arith;
  least = omega arith;
  none = λ e. let first : y ≡ x = r.none (omega arith) in let second : z ≡ y = s.none (omega arith) in omega arith;
}
