-- What a worker's deeds say that lanes and inlets did, one after another.
use Rattle.std.proofs.Common.{◌≡◌, ℕ, true, false, List, [], ◌∷◌, ◌++◌, Option, Some, None, refl, sym, ap, subst, ◌∙◌, append-nil}
use Rattle.std.specs.List.{AllByRecursion}
use Rattle.std.proofs.lemmas.Grind.{flat_map-append}
use Rattle.eip_exchange.specs.declared.birth.Origin.{Origin}
use Rattle.eip_exchange.specs.declared.birth.Origin.TheVariants as from
use Rattle.eip_frames.specs.Fits.{is_outside}
use Rattle.eip_frames.specs.declared.answer.Answer.{Answer as Reply}
use Rattle.eip_frames.specs.declared.request.Request.{Request}
use Rattle.eip_frames.specs.declared.request.Request.TheVariants as request
use Rattle.eip_ledger.specs.declared.entry.Kind.{Kind}
use Rattle.eip_ledger.specs.declared.entry.Kind.TheVariants.{Accept, Refuse, SourceEnd, SourceFault}
use Rattle.eip_endpoint.specs.Inlets.{InletView, InletsGrew}
use Rattle.eip_endpoint.specs.Outside.{Doors, calls, calls_for, commits, commits_for}
use Rattle.eip_endpoint.proofs.InletLaws.{InletsGrew-none, InletsGrew-trans}
use Rattle.eip_endpoint.proofs.OutsideLaws.{calls-append, commits-append, commits-give, InletsGrew-mix}
use Rattle.eip_owners.specs.Acts.{pulls, pulls_in}
use Rattle.eip_owners.proofs.Pulled.{pulls-none, pulls-more, pulls-append, pulls-tell}
use Rattle.eip_processor.specs.Registered.{RegistryView}
use Rattle.eip_core.specs.Outside.{IsTheirs}
use Rattle.eip_shared.specs.Deeds.{done_by, own_answer, own_answers, own_entries, past_of, entry_of, ends_pull, is_from_outside, IsInner, silent}
use Rattle.eip_shared.specs.declared.deed.Deed.{Deed}
use Rattle.eip_shared.specs.declared.deed.Given.{Given}
use Rattle.eip_shared.proofs.Logs.{done-append, past-append}
use Rattle.eip_worker.specs.Serves.{IsTheirDeed, AreTheirDeeds, own_acts}

-- ---- one behind the other

entries-append : (w : ℕ) (ds es : List Deed) → own_entries w (ds ++ es) ≡ own_entries w es ++ own_entries w ds
entries-append w ds es = ap past_of (done-append w ds es) ∙ past-append (done_by w ds) (done_by w es)

answers-append : (w : ℕ) (ds es : List Deed) → own_answers w (ds ++ es) ≡ own_answers w ds ++ own_answers w es
answers-append w ds es = flat_map-append (λ (d : Deed). own_answer w d.given) ds es

pub calls-both : (d : Doors) (w : ℕ) (ds es : List Deed) → calls d (own_answers w (ds ++ es)) ≡ calls d (own_answers w ds) ++ calls d (own_answers w es)
calls-both d w ds es = ap (calls d) (answers-append w ds es) ∙ calls-append d (own_answers w ds) (own_answers w es)

acts-both : (d : Doors) (w : ℕ) (ds es : List Deed) → own_acts d w (ds ++ es)
    ≡ (pulls d (own_entries w ds) ++ pulls d (own_entries w es)) ++ (commits d (own_answers w ds) ++ commits d (own_answers w es))
acts-both d w ds es =
    let first : pulls d (own_entries w (ds ++ es)) ≡ pulls d (own_entries w ds) ++ pulls d (own_entries w es) =
    ap (pulls d) (entries-append w ds es) ∙ pulls-append d (own_entries w es) (own_entries w ds) in
    let second : commits d (own_answers w (ds ++ es)) ≡ commits d (own_answers w ds) ++ commits d (own_answers w es) =
    ap (commits d) (answers-append w ds es) ∙ commits-append d (own_answers w ds) (own_answers w es) in
    rw (first, second) refl

pub acts-follow : (d : Doors) (w : ℕ) (ds es : List Deed) (i j k : List InletView) → InletsGrew 0 (own_acts d w ds) i j → InletsGrew 0 (own_acts d w es) j k
    → InletsGrew 0 (own_acts d w (ds ++ es)) i k
acts-follow d w ds es i j k first second =
    subst (λ js. InletsGrew 0 js i k) (sym (acts-both d w ds es))
    (InletsGrew-mix 0 (pulls d (own_entries w ds)) (commits d (own_answers w ds)) (pulls d (own_entries w es)) (commits d (own_answers w es)) i k
    (λ n u. commits-give d (own_answers w ds) n u) (λ n u. pulls-tell d (own_entries w es) n u) (InletsGrew-trans 0 _ _ i j k first second))

pub theirs-both : (r : RegistryView) (ds es : List Deed) → AreTheirDeeds r ds → AreTheirDeeds r es → AreTheirDeeds r (ds ++ es)
theirs-both r [] es a b = b
theirs-both r (d ∷ ds) es a b = (a.0, theirs-both r ds es a.1 b)

-- ---- what needs nobody outside

no-pull : (d : Doors) (k : Kind) → ends_pull k ≡ false → pulls_in d k ≡ []
no-pull d (Accept t item m) h = absurd (cc h)
no-pull d (Refuse t item cause) h = absurd (cc h)
no-pull d (SourceEnd t) h = absurd (cc h)
no-pull d (SourceFault t) h = absurd (cc h)
no-pull d _ h = refl

no-call : (d : Doors) (q : Request) (a : Reply) → is_outside q ≡ false → calls_for d q a ≡ []
no-call d (request.Send t m) a h = absurd (cc h)
no-call d _ a h = refl

no-commit : (d : Doors) (o : Origin) (q : Request) (a : Reply) → is_outside q ≡ false → commits_for d o q a ≡ []
no-commit d (from.Source t item) (request.Finish e m true) a h = absurd (cc h)
no-commit d (from.Source t item) q a h = refl
no-commit d _ q a h = refl

not-theirs : (r : RegistryView) (q : Request) (a : Reply) → is_outside q ≡ false → IsTheirs r q a
not-theirs r (request.Process name m) a h = absurd (cc h)
not-theirs r (request.Test name m) a h = absurd (cc h)
not-theirs r _ a h = tt

-- ---- one deed

pub one-pull : (d : Doors) (w : ℕ) (e : Deed) → pulls d (own_entries w (e ∷ [])) ≡ pulls_in d e.kind
one-pull d w e = pulls-more d (entry_of (w, e)) [] ∙ ap (λ xs. xs ++ pulls_in d e.kind) (pulls-none d)

one-calls : (d : Doors) (w : ℕ) (g : Given) → calls d (own_answer w (Some g) ++ []) ≡ calls_for d g.request g.answer
one-calls d w g = append-nil (calls_for d g.request g.answer)

one-commits : (d : Doors) (w : ℕ) (g : Given) → commits d (own_answer w (Some g) ++ []) ≡ commits_for d g.origin g.request g.answer
one-commits d w g = append-nil (commits_for d g.origin g.request g.answer)

-- an entry that tells no answer
pub silent-calls : (d : Doors) (w : ℕ) (k : Kind) → calls d (own_answers w (silent k ∷ [])) ≡ []
silent-calls d w k = refl

pub silent-acts : (d : Doors) (w : ℕ) (k : Kind) → own_acts d w (silent k ∷ []) ≡ pulls_in d k
silent-acts d w k = append-nil _ ∙ one-pull d w (silent k)

-- an answer
pub given-calls : (d : Doors) (w : ℕ) (k : Kind) (g : Given) → calls d (own_answers w (record { kind = k; given = Some g } ∷ [])) ≡ calls_for d g.request g.answer
given-calls d w k g = one-calls d w g

pub given-acts : (d : Doors) (w : ℕ) (k : Kind) (g : Given) → ends_pull k ≡ false
    → own_acts d w (record { kind = k; given = Some g } ∷ []) ≡ commits_for d g.origin g.request g.answer
given-acts d w k g h =
    let e : Deed = record { kind = k; given = Some g } in
    ap (λ xs. xs ++ commits d (own_answers w (e ∷ []))) (one-pull d w e ∙ no-pull d k h) ∙ one-commits d w g

-- ---- deeds for which nobody outside was needed

inner-one : (d : Doors) (w : ℕ) (r : RegistryView) (k : Kind) (g : Option Given) → ends_pull k ≡ false → is_from_outside g ≡ false
    → (calls d (own_answers w (record { kind = k; given = g } ∷ [])) ≡ []) × (own_acts d w (record { kind = k; given = g } ∷ []) ≡ []) × IsTheirDeed r g
inner-one d w r k None p o = (silent-calls d w k, silent-acts d w k ∙ no-pull d k p, tt)
inner-one d w r k (Some g) p o = (
  given-calls d w k g ∙ no-call d g.request g.answer o,
  given-acts d w k g p ∙ no-commit d g.origin g.request g.answer o,
  not-theirs r g.request g.answer o,
)

pub inner-calls : (d : Doors) (w : ℕ) (r : RegistryView) (ds : List Deed) → AllByRecursion IsInner ds → calls d (own_answers w ds) ≡ []
inner-calls d w r [] all = refl
inner-calls d w r (e ∷ ds) all =
    calls-both d w (e ∷ []) ds
    ∙ (ap (λ xs. xs ++ calls d (own_answers w ds)) (inner-one d w r e.kind e.given all.0.0 all.0.1).0 ∙ inner-calls d w r ds all.1)

pub inner-acts : (d : Doors) (w : ℕ) (r : RegistryView) (ds : List Deed) (i : List InletView) → AllByRecursion IsInner ds → InletsGrew 0 (own_acts d w ds) i i
inner-acts d w r [] i all = subst (λ js. InletsGrew 0 js i i) (ap (λ xs. xs ++ []) (sym (pulls-none d))) (InletsGrew-none 0 i)
inner-acts d w r (e ∷ ds) i all =
    acts-follow d w (e ∷ []) ds i i i
    (subst (λ js. InletsGrew 0 js i i) (sym (inner-one d w r e.kind e.given all.0.0 all.0.1).1) (InletsGrew-none 0 i))
    (inner-acts d w r ds i all.1)

pub inner-theirs : (r : RegistryView) (ds : List Deed) → AllByRecursion IsInner ds → AreTheirDeeds r ds
inner-theirs r [] all = tt
inner-theirs r (e ∷ ds) all = (by_given e.given all.0.1, inner-theirs r ds all.1)
  where
    by_given : (g : Option Given) → is_from_outside g ≡ false → IsTheirDeed r g
    by_given None o = tt
    by_given (Some g) o = not-theirs r g.request g.answer o
