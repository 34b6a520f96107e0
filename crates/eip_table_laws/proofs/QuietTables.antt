-- What the tables say of a past in which nobody may act.
use Rattle.std.proofs.Common.{◌≡◌, ℕ, ◌+◌, Bool, true, ◌&&◌, nat_lt, List, [], ◌∷◌, Option, Some, None, refl, sym, ap, ◌∙◌}
use Rattle.std.specs.List.{position_from}
use Rattle.std.proofs.lemmas.Bool.{and_parts, ltb-true}
use Rattle.eip_route.specs.declared.route.RouteSet.{RouteSet}
use Rattle.eip_history.specs.Own.{Past}
use Rattle.eip_history.specs.Place.{waiting, busy, is_some_first}
use Rattle.eip_history.specs.Rules.{IsQuiet, first, unfinished}
use Rattle.eip_history.specs.Stop.{no_numbers}
use Rattle.eip_plan.specs.Plan.{plan_of}
use Rattle.eip_seda.specs.Consuming.{can_start}
use Rattle.eip_tables.specs.Rows.{are_done}
use Rattle.eip_tables.specs.Stands.{Tables, Stands}
use Rattle.eip_table_laws.proofs.Bounds.{hands-are, ready-are}
use Rattle.eip_table_laws.proofs.FirstQueue.{queue-found, queue-none}
use Rattle.eip_table_laws.proofs.QueueStarts.{first-startable}
use Rattle.eip_table_laws.proofs.StopCalls.{sources-over}

first-none : (xs : List ℕ) → first xs ≡ None → xs ≡ []
first-none [] h = refl
first-none (x ∷ xs) h = absurd (cc h)

none-left : (xs : List ℕ) → no_numbers xs ≡ true → xs ≡ []
none-left [] h = refl
none-left (x ∷ xs) h = absurd (cc h)

somebody : (xs : List ℕ) (v : Bool) → is_some_first xs && v ≡ true → (x : ℕ) × (first xs ≡ Some x)
somebody [] v h = absurd (cc h)
somebody (x ∷ xs) v h = (x, refl)

module _ {set : RouteSet} {workers limit : ℕ} {past : Past} (t : Tables) (st : Stands set workers limit past t) where
  pub quiet-when : first t.ready ≡ None → t.pulled + t.taken ≡ 0 → position_from can_start 0 t.queues ≡ None → are_done t.sources ≡ true → IsQuiet (plan_of set) past
  quiet-when ready hand queues sources = record {
    none_ready = sym (ready-are t st) ∙ first-none t.ready ready;
    no_hand = hands-are t st ∙ hand;
    none_startable = queue-none set past t.queues st.queues queues;
    sources_done = none-left (unfinished (plan_of set) past) (sources-over (plan_of set) past t.sources st.sources ∙ sources);
  }

  pub quiet-ready : IsQuiet (plan_of set) past → first t.ready ≡ None
  quiet-ready q = ap first (ready-are t st ∙ q.none_ready)

  pub quiet-hands : IsQuiet (plan_of set) past → t.pulled + t.taken ≡ 0
  quiet-hands q = sym (hands-are t st) ∙ q.no_hand

  pub quiet-queues : IsQuiet (plan_of set) past → position_from can_start 0 t.queues ≡ None
  quiet-queues q = by_position (position_from can_start 0 t.queues) refl
    where
      by_position : (o : Option ℕ) → position_from can_start 0 t.queues ≡ o → o ≡ None
      by_position None h = refl
      by_position (Some k) h =
          let f = queue-found set past t.queues st.queues k h in
          let who = somebody (waiting (plan_of set) past k) (nat_lt (busy (plan_of set) past k) ((plan_of set).queue k).consumers) f.is in
          let free = ltb-true (busy (plan_of set) past k) ((plan_of set).queue k).consumers (and_parts (is_some_first (waiting (plan_of set) past k)) (nat_lt (busy (plan_of set) past k) ((plan_of set).queue k).consumers) f.is).1 in
          absurd (let none = ap first q.none_startable in let some = first-startable set past k who.0 who.1 free f.first in cc (sym none ∙ some))

  pub quiet-sources : IsQuiet (plan_of set) past → are_done t.sources ≡ true
  quiet-sources q = sym (sources-over (plan_of set) past t.sources st.sources) ∙ ap no_numbers q.sources_done
