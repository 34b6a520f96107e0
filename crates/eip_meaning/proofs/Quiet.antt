-- What never faults is the same with whatever would treat its faults.
use Rattle.std.proofs.Common.{◌≡◌, Bool, true, false, List, [], ◌∷◌, refl}
use Rattle.eip_exchange.specs.declared.end.Fault.{Fault}
use Rattle.eip_route.specs.declared.route.RouteSet.{RouteSet}
use Rattle.eip_frames.specs.Fits.{fits}
use Rattle.eip_frames.specs.declared.request.Request.{Request}
use Rattle.eip_frames.specs.declared.request.Request.TheVariants.{Spawn}
use Rattle.eip_frames.specs.declared.answer.Answer.{Answer as Reply}
use Rattle.eip_meaning.specs.Outcomes.{Outcome, Stray, caught}
use Rattle.eip_meaning.proofs.Scripts.{join_of, Script, asks, spawns, goes, stops}

answered_quiet : (q : Request) (a : Reply) (fit : Bool) (o p : Outcome) → fits q a ≡ fit → (fits q a ≡ false → o ≡ Stray) → (fits q a ≡ true → p ≡ o) →
    (p ≡ o → p ≡ o) → (o ≡ Stray → p ≡ o) → p ≡ o
answered_quiet q a true o p e n k yes_so no_so = yes_so (k e)
answered_quiet q a false o p e n k yes_so no_so = no_so (n e)

pub caught_quiet : {set : RouteSet} {R : List Reply → Outcome} → Script set false R → (K : Fault → Bool → List Reply → Outcome) (A : List Reply) → caught (R A) K ≡ R A
caught_quiet (asks q p i h n k) K [] = rw h refl
caught_quiet {R} (asks q p i h n k) K (a ∷ A) =
    answered_quiet q a (fits q a) (R (a ∷ A)) (caught (R (a ∷ A)) K) refl (λ e. n a A e) (λ e. caught_quiet (k a e) K A) (λ x. x) (λ x. rw x refl)
caught_quiet (spawns seeds p w h n j o k) K [] = rw h refl
caught_quiet {R} (spawns seeds p w h n j o k) K (a ∷ []) =
    answered_quiet (Spawn seeds) a (fits (Spawn seeds) a) (R (a ∷ [])) (caught (R (a ∷ [])) K) refl (λ e. n a [] e) (λ e. rw (j a e) refl) (λ x. x) (λ x. rw x refl)
caught_quiet {R} (spawns seeds p w h n j o k) K (a ∷ b ∷ A) =
    answered_quiet (Spawn seeds) a (fits (Spawn seeds) a) (R (a ∷ b ∷ A)) (caught (R (a ∷ b ∷ A)) K) refl (λ e. n a (b ∷ A) e)
    (λ e. answered_quiet (join_of a) b (fits (join_of a) b) (R (a ∷ b ∷ A)) (caught (R (a ∷ b ∷ A)) K) refl (λ f. o a e b A f) (λ f. caught_quiet (k a e b f) K A) (λ x. x) (λ x. rw x refl))
    (λ x. x) (λ x. rw x refl)
caught_quiet (goes m h) K A = rw (h A) refl
caught_quiet (stops e m h) K A = rw (h A) refl
