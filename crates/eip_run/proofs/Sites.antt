-- What is answered of a file that is wrong as a whole.
use Rattle.std.proofs.Common.{◌≡◌, ℕ, Some, None, Err, refl, sym, ap, subst, ◌∙◌, inl, codes}
use Rattle.eip_route.specs.declared.route.RouteSet.{RouteSet}
use Rattle.eip_route_faults.specs.Sites.{first_fault}
use Rattle.eip_route_grammar.specs.declared.fault.Cause.{Cause}
use Rattle.eip_route_grammar.specs.declared.fault.Cause.TheVariants as cause
use Rattle.eip_run.specs.declared.prepare.Refusal.{Refusal}
use Rattle.eip_run.specs.declared.prepare.Refusal.TheVariants as refusal
use Rattle.eip_route.specs.declared.route.Names.{Names}
use Rattle.eip_endpoint.specs.declared.files.FileRead.{FileRead}
use Rattle.eip_endpoint.specs.declared.files.FileRead.TheVariants.{Missing, TooLong}
use Rattle.eip_run.specs.Routes.{whole_file, sites_in, set_in}
use Rattle.eip_run.specs.Prepared.{Answers, Refuses}

-- ---- a file that is wrong as a whole

pub whole-first : (c : Cause) → first_fault (whole_file c) ≡ Some (record { path = codes "$"; cause = c })
unfolding first_fault
whole-first c = refl

pub refuses-answers : (c : Cause) (r : Refusal) (set : RouteSet) (n : ℕ) → Refuses c r → Answers (whole_file c) set n n (Err r)
refuses-answers c (refusal.Routes f) set n h = inl (whole-first c ∙ ap Some (sym h), refl)
refuses-answers c refusal.NoMemory set n h = inl refl
refuses-answers c refusal.Words set n h = absurd h
refuses-answers c refusal.FilesFault set n h = absurd h

-- ---- what reading a file answered

pub missing-answers : (names : Names) (read : FileRead) (r : Refusal) (n : ℕ) → read ≡ Missing → Refuses cause.NoFile r → Answers (sites_in names read) (set_in names read) n n (Err r)
missing-answers names read r n is refuses =
    subst (λ (x : FileRead). Answers (sites_in names x) (set_in names x) n n (Err r)) (sym is) (refuses-answers cause.NoFile r (set_in names Missing) n refuses)

pub long-answers : (names : Names) (read : FileRead) (r : Refusal) (n : ℕ) → read ≡ TooLong → Refuses cause.TooLong r → Answers (sites_in names read) (set_in names read) n n (Err r)
long-answers names read r n is refuses =
    subst (λ (x : FileRead). Answers (sites_in names x) (set_in names x) n n (Err r)) (sym is) (refuses-answers cause.TooLong r (set_in names TooLong) n refuses)

-- no file that is wrong as a whole is faultless
pub whole-faulty : (c : Cause) → first_fault (whole_file c) ≡ None → ⊥
whole-faulty c h = let both : Some (record { path = codes "$"; cause = c }) ≡ None = sym (whole-first c) ∙ h in cc both
