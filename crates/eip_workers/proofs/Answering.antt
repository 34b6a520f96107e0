-- The answers of a journal behind a past, and whose they are.
use Rattle.std.proofs.Common.{◌≡◌, ℕ, Bool, cond, List, [], ◌∷◌, ◌++◌, Option, Some, None, refl, sym, ap, subst, ◌∙◌, append-nil, append_assoc, eq-eqb}
use Rattle.std.proofs.lemmas.List.{map-append}
use Rattle.eip_ledger.specs.declared.entry.Kind.{Kind}
use Rattle.eip_ledger.specs.declared.entry.Kind.TheVariants.{Answer}
use Rattle.eip_history.specs.Births.{Asked, asked}
use Rattle.eip_history.specs.Own.{Past}
use Rattle.eip_history.specs.Plan.{Plan}
use Rattle.eip_history.specs.Rules.{Served, served, served_in, served_by}
use Rattle.eip_owners.specs.Acts.{seen_answer, seen_answers}
use Rattle.eip_owners.specs.Owners.{answered}
use Rattle.eip_processor.specs.Registered.{RegistryView}
use Rattle.eip_crew.specs.Outside.{AreTheirs}
use Rattle.eip_turnstile.specs.Rule.{entries_by}
use Rattle.eip_turnstile.proofs.Lists.{by-append}
use Rattle.eip_crew.specs.Deeds.{deed, deeds, given_by, given_to}
use Rattle.eip_crew.specs.Deed.{Deed}
use Rattle.eip_crew.specs.Serves.{AreTheirDeeds, IsTheirDeed}

-- the answers that the entries behind a past give, the oldest first
abbrev pub given_behind : Plan → Past → Past → List Served
given_behind s past [] = []
given_behind s past (e ∷ behind) = given_behind s past behind ++ served_in s (behind ++ past) e.worker e.kind

pub served-behind : (s : Plan) (past behind : Past) → served s (behind ++ past) ≡ served s past ++ given_behind s past behind
unfolding served
served-behind s past [] = sym (append-nil (served s past))
served-behind s past (e ∷ behind) =
    let more = served_in s (behind ++ past) e.worker e.kind in
    ap (λ vs. vs ++ more) (served-behind s past behind) ∙ append_assoc (served s past) (given_behind s past behind) more

-- as lanes and inlets see them
pub seen-behind : (s : Plan) (past behind : Past) → seen_answers (given_behind s past behind) ≡ answered s past behind
unfolding answered
seen-behind s past [] = refl
seen-behind s past (e ∷ behind) =
    let more = served_in s (behind ++ past) e.worker e.kind in
    map-append seen_answer (given_behind s past behind) more ∙ ap (λ vs. vs ++ seen_answers more) (seen-behind s past behind)

-- ---- each worker's answers are of whoever was asked, so all are

-- answers behind answers, each of whoever was asked
pub theirs-append : (r : RegistryView) (vs ws : List Served) → AreTheirs r vs → AreTheirs r ws → AreTheirs r (vs ++ ws)
theirs-append r [] ws before after = after
theirs-append r (v ∷ vs) ws before after = (before.0, theirs-append r vs ws before.1 after)

deeds-parts : (r : RegistryView) (xs ys : List Deed) → AreTheirDeeds r (xs ++ ys) → AreTheirDeeds r xs × AreTheirDeeds r ys
deeds-parts r [] ys all = (tt, all)
deeds-parts r (x ∷ xs) ys all = let rest = deeds-parts r xs ys all.1 in ((all.0, rest.0), rest.1)

one-theirs : (r : RegistryView) (s : Plan) (past : Past) (w : ℕ) (k : Kind) → IsTheirDeed r (given_by s past k) → AreTheirs r (served_in s past w k)
one-theirs r s past w (Answer x a) theirs = by_asked (asked s past x) theirs
  where
    by_asked : (q : Option Asked) → IsTheirDeed r (given_to q a) → AreTheirs r (served_by w q a)
    by_asked None h = tt
    by_asked (Some q) h = (h, tt)
one-theirs r s past w _ theirs = tt

pub all-theirs : (r : RegistryView) (s : Plan) (past behind : Past) → ((w : ℕ) → AreTheirDeeds r (entries_by w (deeds s past behind)))
    → AreTheirs r (given_behind s past behind)
unfolding deeds
all-theirs r s past [] each = tt
all-theirs r s past (e ∷ behind) each =
    let d : Deed = deed s (behind ++ past) e.kind in
    let cut : (w : ℕ) → AreTheirDeeds r (entries_by w (deeds s past behind)) × AreTheirDeeds r (entries_by w ((e.worker, d) ∷ [])) =
    λ w. deeds-parts r (entries_by w (deeds s past behind)) (entries_by w ((e.worker, d) ∷ []))
    (subst (AreTheirDeeds r) (by-append w (deeds s past behind) ((e.worker, d) ∷ [])) (each w)) in
    let own : AreTheirDeeds r (d ∷ []) = subst (λ (b : Bool). AreTheirDeeds r (cond b (d ∷ []) [])) (eq-eqb e.worker e.worker refl) (cut e.worker).1 in
    theirs-append r (given_behind s past behind) (served_in s (behind ++ past) e.worker e.kind) (all-theirs r s past behind (λ w. (cut w).0))
    (one-theirs r s (behind ++ past) e.worker e.kind own.0)
