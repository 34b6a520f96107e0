use Rattle.std.proofs.Common.{◌≡◌, ◌∙◌, ◌<◌, ℕ, All, Vec, Global, ap, sym, subst, arith}
use denote.Param.Send.{sendable}
use Rattle.eip_route.specs.declared.route.RouteSet.{RouteSet}
use Rattle.eip_endpoint.specs.Inlets.{inlet_view, inlet_views}
use Rattle.eip_endpoint.specs.Lanes.{lane_view, lane_views}
use Rattle.eip_crew.specs.View.{BooksView}
use Rattle.eip_shares.specs.Shares.{share}
use Rattle.eip_turnstile.specs.Rule.{first_view}
use Rattle.eip_crew.specs.Shared.{SharedView, beginning_of}
use Rattle.eip_crew.specs.Beginning.{Beginning}
use Rattle.eip_crew.specs.Deed.{Deed}
use Rattle.eip_crew.proofs.SharedSending.{run-send}
use Rattle.eip_crew.specs.Team.{items_at}
use Rattle.eip_workers.specs.Works.{Works}
use Rattle.eip_workers.proofs.Compose.{works-refl}
use Rattle.eip_workers.proofs.Dealing.{may-work, outcome}
use Rattle.eip_workers.proofs.rounds.share.Goals as goal

pub new-requires-2-send-V : goal.new-requires-2-send-V
new-requires-2-send-V g c κs = search (run-send, sendable) depth 12

pub returns-in-Err-clause-works : goal.returns-in-Err-clause-works
returns-in-Err-clause-works g c =
    let l = lane_views g.E.Endpoint c.args.lanes.now.items in
    let i = inlet_views g.S.Source c.args.inlets.now.items in
    subst (λ (v : BooksView). Works c.args.hub v l l i i (g.R.Registered.view c.args.registry.now))
    (sym (c.into_hub.ensures.hub ∙ (ap (λ (r : SharedView). r.hub) c.in-Err.ensures.err ∙ c.new.ensures.hub))) (works-refl c.args.hub l i)

pub work_together-run-requires-clause-may : goal.work_together-run-requires-clause-may
work_together-run-requires-clause-may g c κs within =
    let f = lane_view g.E.Endpoint in
    let h = inlet_view g.S.Source in
    let hub = c.args.hub in
    let lanes = c.args.lanes.now.items in
    let inlets = c.args.inlets.now.items in
    let registry = g.R.Registered.view c.args.registry.now in
    let dealt = c.deal.new.self in
    let dealt_ls : (k : ℕ) → k < hub.journal.workers → items_at dealt.lanes.items k ≡ share hub.journal.workers k 0 lanes =
    λ k inside. c.deal.ensures.lanes k (omega (arith, inside, c.requires.count.1)) ∙ ap (λ n. share n k 0 lanes) c.requires.count.1 in
    let dealt_is : (k : ℕ) → k < hub.journal.workers → items_at dealt.inlets.items k ≡ share hub.journal.workers k 0 inlets =
    λ k inside. c.deal.ensures.inlets k (omega (arith, inside, c.requires.count.1)) ∙ ap (λ n. share n k 0 inlets) c.requires.count.1 in
    let routes = subst (λ (v : Vec RouteSet Global). All (λ (s : RouteSet). s.routes ≡ hub.set.routes) v.items) (sym c.deal.ensures.sources) c.requires.routes in
    let knows_first = c.in-Ok.ensures.ok.1 ∙ ap (λ (b : Beginning). first_view {E = Deed} b) c.new.ensures.beginning in
    let count = sym (c.deal.ensures.count.0 ∙ c.requires.count.1) in
    let may = may-work f h hub lanes inlets registry c.requires.can_run dealt.sources.items dealt.lanes.items dealt.inlets.items c.journal.ensures.legal routes dealt_ls dealt_is in
    (beginning_of hub, knows_first, count, may)

pub gather-requires-clause-lanes : goal.gather-requires-clause-lanes
gather-requires-clause-lanes g c κs within =
    let f = lane_view g.E.Endpoint in
    let h = inlet_view g.S.Source in
    let hub = c.args.hub in
    let lanes = c.args.lanes.now.items in
    let inlets = c.args.inlets.now.items in
    let registry = g.R.Registered.view c.args.registry.now in
    let dealt = c.deal.new.self in
    let dealt_ls : (k : ℕ) → k < hub.journal.workers → items_at dealt.lanes.items k ≡ share hub.journal.workers k 0 lanes =
    λ k inside. c.deal.ensures.lanes k (omega (arith, inside, c.requires.count.1)) ∙ ap (λ n. share n k 0 lanes) c.requires.count.1 in
    let dealt_is : (k : ℕ) → k < hub.journal.workers → items_at dealt.inlets.items k ≡ share hub.journal.workers k 0 inlets =
    λ k inside. c.deal.ensures.inlets k (omega (arith, inside, c.requires.count.1)) ∙ ap (λ n. share n k 0 inlets) c.requires.count.1 in
    let routes = subst (λ (v : Vec RouteSet Global). All (λ (s : RouteSet). s.routes ≡ hub.set.routes) v.items) (sym c.deal.ensures.sources) c.requires.routes in
    let knows_first = c.in-Ok.ensures.ok.1 ∙ ap (λ (b : Beginning). first_view {E = Deed} b) c.new.ensures.beginning in
    let count = sym (c.deal.ensures.count.0 ∙ c.requires.count.1) in
    let may = may-work f h hub lanes inlets registry c.requires.can_run dealt.sources.items dealt.lanes.items dealt.inlets.items c.journal.ensures.legal routes dealt_ls dealt_is in
    let back = c.work_together-run.new.crew in
    let run = c.work_together-run.result.0 in
    let ended = c.into_hub-hub.ensures in
    let came = outcome f h hub lanes inlets registry c.requires.can_run run (λ k. items_at back.lanes.items k) (λ k. items_at back.inlets.items k)
    (λ k. items_at dealt.lanes.items k) (λ k. items_at dealt.inlets.items k) dealt_ls dealt_is
    (c.work_together-run.ensures.together (beginning_of hub) knows_first count may) ended.parts c.into_hub-hub.result ended.hub ended.legal ended.past
    (omega (arith, c.requires.some)) c.requires.pulls ended.facts in
    let all = c.work_together-run.ensures.count.0 ∙ (c.deal.ensures.count.0 ∙ c.requires.count.1) in (
      came.lanes_now,
      omega (arith, came.lanes_count, c.args.lanes.now.ok.0, c.len.ensures),
      λ k inside. came.lanes_dealt k (omega (arith, inside, all)) ∙ ap (λ n. share n k 0 came.lanes_now) (sym all),
    )

pub gather-requires-clause-inlets : goal.gather-requires-clause-inlets
gather-requires-clause-inlets g c κs within =
    let f = lane_view g.E.Endpoint in
    let h = inlet_view g.S.Source in
    let hub = c.args.hub in
    let lanes = c.args.lanes.now.items in
    let inlets = c.args.inlets.now.items in
    let registry = g.R.Registered.view c.args.registry.now in
    let dealt = c.deal.new.self in
    let dealt_ls : (k : ℕ) → k < hub.journal.workers → items_at dealt.lanes.items k ≡ share hub.journal.workers k 0 lanes =
    λ k inside. c.deal.ensures.lanes k (omega (arith, inside, c.requires.count.1)) ∙ ap (λ n. share n k 0 lanes) c.requires.count.1 in
    let dealt_is : (k : ℕ) → k < hub.journal.workers → items_at dealt.inlets.items k ≡ share hub.journal.workers k 0 inlets =
    λ k inside. c.deal.ensures.inlets k (omega (arith, inside, c.requires.count.1)) ∙ ap (λ n. share n k 0 inlets) c.requires.count.1 in
    let routes = subst (λ (v : Vec RouteSet Global). All (λ (s : RouteSet). s.routes ≡ hub.set.routes) v.items) (sym c.deal.ensures.sources) c.requires.routes in
    let knows_first = c.in-Ok.ensures.ok.1 ∙ ap (λ (b : Beginning). first_view {E = Deed} b) c.new.ensures.beginning in
    let count = sym (c.deal.ensures.count.0 ∙ c.requires.count.1) in
    let may = may-work f h hub lanes inlets registry c.requires.can_run dealt.sources.items dealt.lanes.items dealt.inlets.items c.journal.ensures.legal routes dealt_ls dealt_is in
    let back = c.work_together-run.new.crew in
    let run = c.work_together-run.result.0 in
    let ended = c.into_hub-hub.ensures in
    let came = outcome f h hub lanes inlets registry c.requires.can_run run (λ k. items_at back.lanes.items k) (λ k. items_at back.inlets.items k)
    (λ k. items_at dealt.lanes.items k) (λ k. items_at dealt.inlets.items k) dealt_ls dealt_is
    (c.work_together-run.ensures.together (beginning_of hub) knows_first count may) ended.parts c.into_hub-hub.result ended.hub ended.legal ended.past
    (omega (arith, c.requires.some)) c.requires.pulls ended.facts in
    let all = c.work_together-run.ensures.count.0 ∙ (c.deal.ensures.count.0 ∙ c.requires.count.1) in (
      came.inlets_now,
      omega (arith, came.inlets_count, c.args.inlets.now.ok.0, c.len-2.ensures),
      λ k inside. came.inlets_dealt k (omega (arith, inside, all)) ∙ ap (λ n. share n k 0 came.inlets_now) (sym all),
    )

pub returns-clause-works : goal.returns-clause-works
returns-clause-works g c =
    let f = lane_view g.E.Endpoint in
    let h = inlet_view g.S.Source in
    let hub = c.args.hub in
    let lanes = c.args.lanes.now.items in
    let inlets = c.args.inlets.now.items in
    let registry = g.R.Registered.view c.args.registry.now in
    let dealt = c.deal.new.self in
    let dealt_ls : (k : ℕ) → k < hub.journal.workers → items_at dealt.lanes.items k ≡ share hub.journal.workers k 0 lanes =
    λ k inside. c.deal.ensures.lanes k (omega (arith, inside, c.requires.count.1)) ∙ ap (λ n. share n k 0 lanes) c.requires.count.1 in
    let dealt_is : (k : ℕ) → k < hub.journal.workers → items_at dealt.inlets.items k ≡ share hub.journal.workers k 0 inlets =
    λ k inside. c.deal.ensures.inlets k (omega (arith, inside, c.requires.count.1)) ∙ ap (λ n. share n k 0 inlets) c.requires.count.1 in
    let routes = subst (λ (v : Vec RouteSet Global). All (λ (s : RouteSet). s.routes ≡ hub.set.routes) v.items) (sym c.deal.ensures.sources) c.requires.routes in
    let knows_first = c.in-Ok.ensures.ok.1 ∙ ap (λ (b : Beginning). first_view {E = Deed} b) c.new.ensures.beginning in
    let count = sym (c.deal.ensures.count.0 ∙ c.requires.count.1) in
    let may = may-work f h hub lanes inlets registry c.requires.can_run dealt.sources.items dealt.lanes.items dealt.inlets.items c.journal.ensures.legal routes dealt_ls dealt_is in
    let back = c.work_together-run.new.crew in
    let run = c.work_together-run.result.0 in
    let ended = c.into_hub-hub.ensures in
    let came = outcome f h hub lanes inlets registry c.requires.can_run run (λ k. items_at back.lanes.items k) (λ k. items_at back.inlets.items k)
    (λ k. items_at dealt.lanes.items k) (λ k. items_at dealt.inlets.items k) dealt_ls dealt_is
    (c.work_together-run.ensures.together (beginning_of hub) knows_first count may) ended.parts c.into_hub-hub.result ended.hub ended.legal ended.past
    (omega (arith, c.requires.some)) c.requires.pulls ended.facts in
    let all = c.work_together-run.ensures.count.0 ∙ (c.deal.ensures.count.0 ∙ c.requires.count.1) in
    let ls = c.gather.ensures.lanes came.lanes_now (omega (arith, came.lanes_count, c.args.lanes.now.ok.0, c.len.ensures))
    (λ k inside. came.lanes_dealt k (omega (arith, inside, all)) ∙ ap (λ n. share n k 0 came.lanes_now) (sym all)) in
    let is = c.gather.ensures.inlets came.inlets_now (omega (arith, came.inlets_count, c.args.inlets.now.ok.0, c.len-2.ensures))
    (λ k inside. came.inlets_dealt k (omega (arith, inside, all)) ∙ ap (λ n. share n k 0 came.inlets_now) (sym all)) in
    subst (λ xs. Works hub c.into_hub-hub.result (lane_views g.E.Endpoint lanes) (lane_views g.E.Endpoint xs) (inlet_views g.S.Source inlets) (inlet_views g.S.Source c.gather.new.inlets.items) registry) (sym ls)
    (subst (λ ys. Works hub c.into_hub-hub.result (lane_views g.E.Endpoint lanes) (lane_views g.E.Endpoint came.lanes_now) (inlet_views g.S.Source inlets) (inlet_views g.S.Source ys) registry) (sym is) came.works)
