-- The tables behind each entry of a source.
use Rattle.std.proofs.Common.{◌≡◌, ℕ, ◌+◌, ◌-◌, ◌<◌, ◌≤◌, List, ◌∷◌, length, set as put_at, Some, refl, arith, eq-eqb, add-zero}
use Rattle.eip_route.specs.declared.route.RouteSet.{RouteSet}
use Rattle.eip_ledger.specs.declared.entry.Kind.{Kind}
use Rattle.eip_ledger.specs.declared.entry.Kind.TheVariants.{Pull, Refuse, SourceEnd, SourceFault}
use Rattle.eip_ledger.specs.declared.entry.Refused.{Refused}
use Rattle.eip_history.specs.Own.{Past, source_state, moved, Idle, Out, Done}
use Rattle.eip_history.specs.Rules.{May}
use Rattle.eip_history.specs.Stop.{or_else}
use Rattle.eip_plan.specs.Plan.{plan_of}
use Rattle.eip_tables.specs.declared.row.SourceState.TheVariants as kept
use Rattle.eip_tables.specs.Stands.{Tables, Stands}
use Rattle.eip_table_laws.proofs.SourceEvents.{stands-source, pulled-here, or_else-none, of-pull, of-refuse, of-end, of-fault}

module _ {routes : RouteSet} {workers limit : ℕ} {past : Past} (t : Tables) (w r : ℕ) (st : Stands routes workers limit past t) (lw : w ≤ workers) where
  pub stands-pull : May (plan_of routes) limit past w (Pull r) → Stands routes workers limit ((record { worker = w; kind = Pull r }) ∷ past) (record t { sources = put_at t.sources r (kept.Out w); pulled = t.pulled + 1 })
  stands-pull may =
      let now : moved w r (Pull r) (source_state r past) ≡ Out w = rw (eq-eqb r r refl) refl in
      rw (add-zero t.turns, or_else-none t.fault) at
      (stands-source routes workers limit past t w r (Pull r) Idle (Out w) (t.pulled + 1) st lw may may.0.0 may.0.1 (of-pull w r) refl refl may.1 now (omega arith))

  -- a source that is out has been counted
  out-counted : (k : Kind) → r < (plan_of routes).routes → source_state r past ≡ Out w → 1 ≤ t.pulled
  out-counted k l out =
      let idle : moved w r (SourceEnd r) (source_state r past) ≡ Done = rw (eq-eqb r r refl) refl in
      let c = pulled-here (plan_of routes) w r (SourceEnd r) past (Out w) Done l (of-end w r) out idle in
      omega (arith, c, st.pulled)

  pub stands-refuse : (item : List ℕ) (cause : Refused) → May (plan_of routes) limit past w (Refuse r item cause)
      → Stands routes workers limit ((record { worker = w; kind = Refuse r item cause }) ∷ past) (record t { sources = put_at t.sources r kept.Idle; turns = t.turns + 1; pulled = t.pulled - 1 })
  stands-refuse item cause may =
      let now : moved w r (Refuse r item cause) (source_state r past) ≡ Idle = rw (eq-eqb r r refl) refl in
      rw (or_else-none t.fault) at
      (stands-source routes workers limit past t w r (Refuse r item cause) (Out w) Idle (t.pulled - 1) st lw may may.0.0 may.0.1 (of-refuse w r item cause) refl refl may.1 now (omega (arith, out-counted (SourceEnd r) may.0.0 may.1)))

  pub stands-end : May (plan_of routes) limit past w (SourceEnd r) → Stands routes workers limit ((record { worker = w; kind = SourceEnd r }) ∷ past) (record t { sources = put_at t.sources r kept.Done; pulled = t.pulled - 1 })
  stands-end may =
      let now : moved w r (SourceEnd r) (source_state r past) ≡ Done = rw (eq-eqb r r refl) refl in
      rw (add-zero t.turns, or_else-none t.fault) at
      (stands-source routes workers limit past t w r (SourceEnd r) (Out w) Done (t.pulled - 1) st lw may may.0.0 may.0.1 (of-end w r) refl refl may.1 now (omega (arith, out-counted (SourceEnd r) may.0.0 may.1)))

  pub stands-fault : May (plan_of routes) limit past w (SourceFault r)
      → Stands routes workers limit ((record { worker = w; kind = SourceFault r }) ∷ past) (record t { sources = put_at t.sources r kept.Done; fault = or_else t.fault (Some r); pulled = t.pulled - 1 })
  stands-fault may =
      let now : moved w r (SourceFault r) (source_state r past) ≡ Done = rw (eq-eqb r r refl) refl in
      rw (add-zero t.turns) at
      (stands-source routes workers limit past t w r (SourceFault r) (Out w) Done (t.pulled - 1) st lw may may.0.0 may.0.1 (of-fault w r) refl refl may.1 now (omega (arith, out-counted (SourceEnd r) may.0.0 may.1)))

  pub out-pulled : r < (plan_of routes).routes → source_state r past ≡ Out w → 1 ≤ t.pulled
  out-pulled l out = out-counted (SourceEnd r) l out

  -- a route of the plan has its place among the sources
  pub source-within : r < (plan_of routes).routes → r < length t.sources
  source-within l = omega (arith, l, st.sources.many)
