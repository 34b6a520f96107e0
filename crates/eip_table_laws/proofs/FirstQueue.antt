-- The first queue that may start somebody, as the table of queues finds it.
use Rattle.std.proofs.Common.{◌≡◌, ℕ, ◌<◌, Bool, true, false, ◌&&◌, nat_lt, List, [], ◌∷◌, length, Some, None, refl, sym, ap, ◌∙◌, arith}
use Rattle.std.specs.List.{slice_get, position_from}
use Rattle.std.specs.Prelude.{option_map}
use Rattle.std.proofs.lemmas.Option.{slice_get_within}
use Rattle.eip_route.specs.declared.route.RouteSet.{RouteSet}
use Rattle.eip_seda.specs.Consuming as seda
use Rattle.eip_seda.specs.Consuming.{QueueView, queue_after, can_start, somebody}
use Rattle.eip_history.specs.Own.{Past}
use Rattle.eip_history.specs.Place.{waiting, busy, is_some_first, is_startable}
use Rattle.eip_history.specs.Rules.{startable}
use Rattle.eip_history.proofs.Lists.{slice_get-some}
use Rattle.eip_plan.specs.Plan.{plan_of}
use Rattle.eip_tables.specs.Queues.{QueuesStand, limit_of}
use Rattle.eip_table_laws.proofs.StopCalls.{position-some, position-none}
use Rattle.eip_table_laws.proofs.QueueCalls.{limits-at, queues-many}
use Rattle.eip_table_laws.proofs.QueueStarts.{none-startable}

some-waits : (xs : List ℕ) → somebody xs ≡ is_some_first xs
some-waits [] = refl
some-waits (x ∷ xs) = refl

-- a queue of the set that may be startable
pub record FoundQueue (set : RouteSet) (past : Past) (q : ℕ) : Type 0 where
  pub within : q < (plan_of set).routes
  pub is : is_startable (plan_of set) past q ≡ true
  pub first : (r : ℕ) → r < q → is_startable (plan_of set) past r ≡ false

pub queue-small : (set : RouteSet) (past : Past) (q : ℕ) → FoundQueue set past q → q < length set.routes
unfolding plan_of
queue-small set past q f = f.within

module _ (set : RouteSet) (past : Past) (queues : List QueueView) (st : QueuesStand set past queues) where
  -- the table's test of a queue is that of the past
  test-is : (q : ℕ) (v : QueueView) → q < (plan_of set).routes → slice_get queues q ≡ Some v → can_start v ≡ is_startable (plan_of set) past q
  test-is q v l at =
      let here = st.stands.each q ∙ ap (option_map (queue_after st.calls q)) (limits-at set q l) in
      let same : v ≡ queue_after st.calls q (limit_of ((plan_of set).queue q)) = cc in
      ap can_start same
      ∙ (ap (λ (xs : List ℕ). somebody xs && nat_lt (seda.busy st.calls q) ((plan_of set).queue q).consumers) (st.waits q)
      ∙ (ap (λ (n : ℕ). somebody (waiting (plan_of set) past q) && nat_lt n ((plan_of set).queue q).consumers) (st.works q)
      ∙ ap (λ (v : Bool). v && nat_lt (busy (plan_of set) past q) ((plan_of set).queue q).consumers) (some-waits (waiting (plan_of set) past q))))

  queue-at : (q : ℕ) → q < (plan_of set).routes → (v : QueueView) × (slice_get queues q ≡ Some v)
  queue-at q l = slice_get-some queues q (omega (arith, l, queues-many queues st))

  pub queue-found : (q : ℕ) → position_from can_start 0 queues ≡ Some q → FoundQueue set past q
  queue-found q h =
      let f = position-some can_start 0 queues q h in
      let same : q ≡ f.index = let i = f.is in omega (arith, i) in
      let l : f.index < (plan_of set).routes = omega (arith, slice_get_within queues f.index f.it f.at, queues-many queues st) in
      rw same (record {
        within = l;
        is = sym (test-is f.index f.it l f.at) ∙ f.passes;
        first = λ r m.
            let k : r < (plan_of set).routes = omega (arith, l, m) in
            let v = queue-at r k in
            sym (test-is r v.0 k v.1) ∙ f.first r v.0 m v.1;
      })

  pub queue-none : position_from can_start 0 queues ≡ None → startable (plan_of set) past ≡ []
  queue-none h = none-startable set past (λ r l. let v = queue-at r l in sym (test-is r v.0 l v.1) ∙ position-none can_start 0 queues h r v.0 v.1)
