-- Where no hand is out, no pull is.
use Rattle.std.proofs.Common.{◌≡◌, ℕ, ◌<◌, ◌==◌, Bool, true, false, cond, [], ◌∷◌, refl, subst, arith}
use Rattle.std.proofs.lemmas.Bool.{eqb-true}
use Rattle.eip_ledger.specs.declared.entry.Kind.{Kind}
use Rattle.eip_ledger.specs.declared.entry.Kind.TheVariants.{Pull, Accept, Refuse, SourceEnd, SourceFault}
use Rattle.eip_history.specs.Own.{Past, SourceState, Idle, Out, Done, moved, is_out, source_state, numbers_below}
use Rattle.eip_history.specs.Owner.{Outlets}
use Rattle.eip_history.specs.Place.{hands, pulls_out}
use Rattle.eip_history.specs.Plan.{Plan}
use Rattle.eip_history.specs.Rules.{KeepsRules, May}
use Rattle.eip_history.proofs.Stuck.{below-none, length-none}
use Rattle.eip_history.proofs.Unborn.{legal-tail, legal-may}
use Rattle.eip_owners.specs.Owners.{OwnersPull}

-- a source that is being pulled is one of the set's
out-below : (s : Plan) (workers limit t w : ℕ) (past : Past) → KeepsRules s workers limit past → source_state t past ≡ Out w → t < s.routes
unfolding source_state
out-below s workers limit t w [] legal out = absurd (cc out)
out-below s workers limit t w (e ∷ past) legal out =
    by_kind e.kind (legal-may s workers limit e past legal) out (out-below s workers limit t w past (legal-tail s workers limit e past legal))
  where
    by_end : (b : Bool) (state : SourceState) → is_out state ≡ false → cond b state (source_state t past) ≡ Out w
        → (source_state t past ≡ Out w → t < s.routes) → t < s.routes
    by_end true state home g ih = absurd (let k = rw g at home in cc k)
    by_end false state home g ih = ih g

    by_pull : (u : ℕ) (b : Bool) → (u == t) ≡ b → u < s.routes → cond b (Out e.worker) (source_state t past) ≡ Out w
        → (source_state t past ≡ Out w → t < s.routes) → t < s.routes
    by_pull u true same is g ih = subst (λ r. r < s.routes) (eqb-true u t same) is
    by_pull u false same is g ih = ih g

    by_kind : (k : Kind) → May s limit past e.worker k → moved e.worker t k (source_state t past) ≡ Out w
        → (source_state t past ≡ Out w → t < s.routes) → t < s.routes
    by_kind (Pull u) may g ih = by_pull u (u == t) refl may.0.0 g ih
    by_kind (Accept u item m) may g ih = by_end (u == t) Idle refl g ih
    by_kind (Refuse u item cause) may g ih = by_end (u == t) Idle refl g ih
    by_kind (SourceEnd u) may g ih = by_end (u == t) Done refl g ih
    by_kind (SourceFault u) may g ih = by_end (u == t) Done refl g ih
    by_kind _ may g ih = ih g

none-pulled : (s : Plan) (past : Past) → hands s past ≡ 0 → numbers_below (λ t. is_out (source_state t past)) s.routes ≡ []
unfolding pulls_out
none-pulled s past home =
    let none : pulls_out s past ≡ 0 = omega (arith, home) in
    length-none (numbers_below (λ t. is_out (source_state t past)) s.routes) none

pub home-owners : (s : Plan) (o : Outlets) (workers made limit : ℕ) (past : Past) → KeepsRules s made limit past → hands s past ≡ 0 → OwnersPull o workers past
home-owners s o workers made limit past legal home t w out =
    let none = below-none (λ u. is_out (source_state u past)) s.routes t (none-pulled s past home) (out-below s made limit t w past legal out) in
    absurd (let g = rw out at none in cc g)
