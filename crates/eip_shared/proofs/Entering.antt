-- What an outcome that is entered does to a run that is shared.
use Rattle.std.proofs.Common.{◌≡◌, ℕ, [], ◌∷◌, refl, sym, subst}
use Rattle.eip_exchange.specs.declared.birth.Origin.{Origin}
use Rattle.eip_hub.specs.View.{BooksView, plan, Adds}
use Rattle.eip_outlets.specs.Outlets.{outlets}
use Rattle.eip_shared.specs.Deeds.{deed}
use Rattle.eip_shared.specs.Shared.{SharedView, SharedFacts, Does, Makes, MayEnter, kind_of}
use Rattle.eip_shared.specs.declared.outcome.Outcome.{Outcome}
use Rattle.eip_shared.specs.declared.outcome.Outcome.TheVariants.{Settled, GivenUp, Accepted, Refused, Ended, Faulted}
use Rattle.eip_shared.proofs.Doing.{does-one, makes-does, shared-does}
use Rattle.eip_shared.proofs.Facts.{outcome-own}

-- who enters it: whoever has the ticket
abbrev pub maker : ℕ → Outcome → ℕ
maker w (Settled t a) = t.worker
maker w (GivenUp t) = t.worker
maker w o = w

maker-is : (v : SharedView) (w : ℕ) (from : Origin) (out : Outcome) → MayEnter v w from out → maker w out ≡ w
maker-is v w from (Settled t a) may = may.1
maker-is v w from (GivenUp t) may = may.1
maker-is v w from (Accepted t item m) may = refl
maker-is v w from (Refused t item cause) may = refl
maker-is v w from (Ended t) may = refl
maker-is v w from (Faulted t) may = refl

-- the run as the body has it is the one of the contract, and so is the outcome
pub entered : (view now : SharedView) (new : BooksView) (w : ℕ) (from : Origin) (out case : Outcome) → view ≡ now → out ≡ case → SharedFacts view
    → MayEnter now w from out → Adds view.hub new (maker w case) (kind_of case)
    → SharedFacts (record { hub = new; began = view.began })
    × Makes now (record { hub = new; began = view.began }) w (deed (plan now.hub) now.hub.journal.past (kind_of out) ∷ [])
entered view now new w from out case same is facts may adds =
    let next : SharedView = record { hub = new; began = view.began } in
    let here : MayEnter view w from case = subst (λ o. MayEnter view w from o) is (subst (λ v. MayEnter v w from out) (sym same) may) in
    let own : Adds view.hub new w (kind_of case) = subst (λ n. Adds view.hub new n (kind_of case)) (maker-is view w from case here) adds in
    let does : Does view.hub new w (deed (plan view.hub) view.hub.journal.past (kind_of case) ∷ []) =
    does-one view.hub new w (kind_of case) own
    (outcome-own (plan view.hub) (outlets view.hub.set) view.hub.journal.workers w view.hub.journal.past from case here) in
    let makes : Makes view next w (deed (plan view.hub) view.hub.journal.past (kind_of case) ∷ []) =
    makes-does view next w (deed (plan view.hub) view.hub.journal.past (kind_of case) ∷ []) facts refl does in (
      shared-does view next w (deed (plan view.hub) view.hub.journal.past (kind_of case) ∷ []) facts refl does,
      subst (λ (v : SharedView). Makes v next w (deed (plan v.hub) v.hub.journal.past (kind_of out) ∷ [])) same
          (subst (λ (o : Outcome). Makes view next w (deed (plan view.hub) view.hub.journal.past (kind_of o) ∷ [])) (sym is) makes),
    )
