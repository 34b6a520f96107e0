-- What an exchange asks of the outside, some lane or inlet that is handed in can be asked for it.
use Rattle.std.proofs.Common.{◌≡◌, ℕ, Bool, true, false, cond, List, Option, Some, None, refl, sym, ap, subst, ◌∙◌, option_map}
use Rattle.std.specs.List.{slice_get}
use Rattle.std.specs.Option.{is_some}
use Rattle.std.proofs.lemmas.Option.{slice_get_within}
use Rattle.eip_exchange.specs.Ends.{out_of_memory}
use Rattle.eip_exchange.specs.declared.birth.Birth.{Birth}
use Rattle.eip_exchange.specs.declared.birth.Origin.{Origin}
use Rattle.eip_exchange.specs.declared.birth.Origin.TheVariants as origin
use Rattle.eip_uri.specs.Inlets.{inlet_of}
use Rattle.eip_uri.specs.declared.uri.Uri.{Uri}
use Rattle.eip_uri.specs.declared.uri.Uri.TheVariants as uri
use Rattle.eip_route.specs.declared.route.Route.{Route}
use Rattle.eip_route.specs.Goals.{is_among}
use Rattle.eip_route.specs.declared.route.Names.{Names}
use Rattle.eip_route.specs.declared.route.RouteSet.{RouteSet}
use Rattle.eip_frames.specs.Fate.{Fate, AsksNext, Ends, Strays}
use Rattle.eip_frames.specs.Fits.{is_outside}
use Rattle.eip_frames.specs.declared.request.At.{At}
use Rattle.eip_frames.specs.declared.request.Request.{Request}
use Rattle.eip_frames.specs.declared.request.Request.TheVariants as request
use Rattle.eip_frames.specs.declared.answer.Answer.{Answer as Reply}
use Rattle.eip_meaning.specs.Contexts.{place_of}
use Rattle.eip_meaning.specs.Asked.{IsOfExchange, last_answer}
use Rattle.eip_meaning.specs.Meaning.{mean, is_committed, is_told, is_told_route, is_told_origin}
use Rattle.eip_meaning.proofs.Laws.{asked-of-set}
use Rattle.eip_history.specs.Plan.{Plan}
use Rattle.eip_history.specs.Own.{Past, own, answers, starved}
use Rattle.eip_history.specs.Births.{Asked, asked, asked_by, fate, fate_by}
use Rattle.eip_history.specs.BookText.{origin_at, origin_of}
use Rattle.eip_history.proofs.Unborn.{asked-born}
use Rattle.eip_endpoint.specs.Outside.{lane_of}
use Rattle.eip_plan.specs.Plan.{plan_of, is_source_route}
use Rattle.eip_asked_laws.proofs.Outcomes.{IsNamed}
use Rattle.eip_asked_laws.proofs.Laws.{asked-named}
use Rattle.eip_core.proofs.Handed.{runs-inlets, runs-lanes}
use Rattle.eip_core.specs.Doors.{HasInlet, HasInlets, CanRun}
use Rattle.eip_core.specs.Outside.{HasSource, IsAskable}

-- ---- sources that are told of ends

-- they are read by an inlet
told-read : (u : Uri) → is_told u ≡ true → is_some (inlet_of u) ≡ true
told-read (uri.File folder after failed exist) h = refl
told-read _ h = absurd (cc h)

told-inlet : (set : RouteSet) (inlets : List (List ℕ)) → HasInlets set inlets → (t : ℕ) → is_told_route (slice_get set.routes t) ≡ true → HasInlet set inlets t
unfolding plan_of
told-inlet set inlets has t told = by_route (slice_get set.routes t) refl told
  where
    by_route : (o : Option Route) → slice_get set.routes t ≡ o → is_told_route o ≡ true → HasInlet set inlets t
    by_route None e h = absurd (cc h)
    by_route (Some r) e h = has t (slice_get_within set.routes t r e, ap is_source_route e ∙ told-read r.from h)

told-source : (set : RouteSet) (inlets : List (List ℕ)) → HasInlets set inlets → (o : Origin) → is_told_origin set o ≡ true → HasSource set inlets o
told-source set inlets has (origin.Source t item) h = told-inlet set inlets has t h
told-source set inlets has _ h = absurd (cc h)

-- ---- what is asked

fate-request : (b : Birth) (f : Fate) (k : Asked) → asked_by b f ≡ Some k → (b ≡ k.birth) × (f ≡ AsksNext k.request k.at)
fate-request b (AsksNext q p) k g =
    let made : Asked = record { birth = b; request = q; at = p } in
    let e : made ≡ k = cc in
    (ap (λ (y : Asked). y.birth) e, ap (λ (y : Asked). AsksNext y.request y.at) e)
fate-request b (Ends e m) k g = absurd (cc g)
fate-request b Strays k g = absurd (cc g)

fate-mean : (set : RouteSet) (b : Birth) (o : Past) (k : Asked) → asked_by b (fate_by (plan_of set) b o) ≡ Some k → (b ≡ k.birth) × (mean set b (answers o) ≡ AsksNext k.request k.at)
unfolding plan_of
fate-mean set b o k h = by_end (starved o) h
  where
    by_end : (v : Bool) → asked_by b (cond v (Ends out_of_memory b.message) (mean set b (answers o))) ≡ Some k → (b ≡ k.birth) × (mean set b (answers o) ≡ AsksNext k.request k.at)
    by_end true g = absurd (cc g)
    by_end false g = fate-request b (mean set b (answers o)) k g

-- what an exchange asks, its meaning says of its answers
asked-mean : (set : RouteSet) (past : Past) (x : ℕ) (k : Asked) → asked (plan_of set) past x ≡ Some k → (A : List Reply) × (mean set k.birth A ≡ AsksNext k.request k.at)
unfolding fate
asked-mean set past x k h =
    let r = asked-born (plan_of set) past x k h in
    let A = answers (own r.0.number past) in
    let f = fate-mean set r.0 (own r.0.number past) k r.2 in
    (A, subst (λ (b : Birth). mean set b A ≡ AsksNext k.request k.at) f.0 f.1)

-- it comes from where its birth says
pub asked-origin : (s : Plan) (past : Past) (x : ℕ) (k : Asked) → asked s past x ≡ Some k → origin_at s past x ≡ Some k.birth.origin
asked-origin s past x k h =
    let r = asked-born s past x k h in
    ap (option_map origin_of) r.1 ∙ ap (λ (b : Birth). Some (origin_of b)) (fate-request r.0 (fate s past r.0) k r.2).0

exchange-askable : (names : Names) (set : RouteSet) → CanRun set names → (o : Origin) (commit : Bool) → commit ≡ is_told_origin set o
    → (place : At) (last : Option Reply) (q : Request) (p : At) → IsOfExchange set commit place last q p → IsNamed set.names q → is_outside q ≡ true → IsAskable set names o q
exchange-askable names set can o commit same place last (request.Send t m) p of named outside = runs-lanes can (lane_of t) of
exchange-askable names set can o commit same place last (request.Process name m) p of named outside = ap (λ (n : Names). is_among name n.processors) (sym can.named) ∙ named
exchange-askable names set can o commit same place last (request.Test name m) p of named outside = ap (λ (n : Names). is_among name n.predicates) (sym can.named) ∙ named
exchange-askable names set can o commit same place last (request.Finish e m told) p of named outside =
    (told-source set names.inlets (runs-inlets can) o (sym same ∙ (sym of.0 ∙ outside)), outside)
exchange-askable names set can o commit same place last _ p of named outside = absurd (cc outside)

-- what is asked of the outside can be asked there
pub asked-askable : (names : Names) (set : RouteSet) → CanRun set names → (past : Past) (x : ℕ) (k : Asked) → asked (plan_of set) past x ≡ Some k
    → is_outside k.request ≡ true → IsAskable set names k.birth.origin k.request
asked-askable names set can past x k h outside =
    let r = asked-mean set past x k h in
    exchange-askable names set can k.birth.origin (is_committed set k.birth) refl (place_of k.birth) (last_answer None r.0) k.request k.at
    (asked-of-set set k.birth r.0 k.request k.at r.1) (asked-named set can.valid.blocks k.birth r.0 k.request k.at r.1) outside
