-- A group that grows by one more part where it stands.
use Rattle.std.proofs.Common.{◌≡◌, ℕ, true, List, Option, Some, None, Result, Ok, Err, IsSome, refl, sym, ap, subst, ◌∙◌, true≢false}
use Rattle.std.specs.Prelude.{IfOk, OnOk}
use Rattle.eip_exchange.specs.declared.message.Message.{Message}
use Rattle.eip_exchange.specs.declared.setting.Strategy.{Strategy}
use Rattle.eip_exchange.specs.Pairs.{Pairs}
use Rattle.eip_frames.specs.declared.answer.Completion.{Completion}
use Rattle.eip_route.specs.declared.step.Aggregate.{Aggregate}
use Rattle.eip_strategy.specs.Adding.{kept, added, IsReadyBody}
use Rattle.eip_strategy.proofs.InPlace.{added_properties}
use Rattle.eip_aggregator.specs.declared.closed.ArriveFault.{ArriveFault}
use Rattle.eip_aggregator.specs.Arrivals.{Key, Arrival, Group, labels, cause_at, after}
use Rattle.eip_ordered.specs.Numbered.{value_at, Puts}
use Rattle.eip_aggregator.specs.Tables.{AreFound, Times, Forgets, Takes, Grows, GrowsAt, IsDueOf}
use Rattle.eip_aggregator.proofs.Found.{moved_back, own_of, replaced_one}

due_is : (due : Option ℕ) (o : Option Group) (g : Group) → o ≡ Some g → IsDueOf due o → due ≡ g.due
due_is due o g e h = subst (λ (p : Option Group). IsDueOf due p) e h

-- how the group of a number is found when it has grown
pub grown_found : (a : Aggregate) (p : Arrival) (n : ℕ) (cause : Option Completion) (groups later : List (ℕ × Group)) (numbers : List (Key × ℕ)) (dues more left : List (ℕ × ℕ)) (due old : Option ℕ)
    → GrowsAt a p n groups later cause → due ≡ after p.at a.timeout → IsDueOf old (value_at groups n) → Times dues more due n true → Forgets more left old due n → AreFound groups numbers dues → AreFound later numbers left
grown_found a p n cause groups later numbers dues more left due old grows is was add forget found =
    let key : grows.was.key ≡ grows.group.key = ap (λ (g : Group). g.key) (sym grows.grows.2) in
    let same : due ≡ grows.group.due = is ∙ ap (λ (g : Group). g.due) (sym grows.grows.2) in
    replaced_one groups later numbers dues more left n grows.was grows.group
    (own_of groups numbers dues n grows.was grows.group.key found grows.open_group key)
    grows.open_group grows.puts
    (subst (λ (d : Option ℕ). Times dues more d n true) same add)
    (subst (λ (d : Option ℕ). Forgets more left grows.was.due d n) same
    (subst (λ (d : Option ℕ). Forgets more left d due n) (due_is old (value_at groups n) grows.was grows.open_group was) forget))
    found

some_of : (o : Option Group) → IsSome o → (g : Group) × (o ≡ Some g)
some_of None h = absurd (true≢false (sym h))
some_of (Some g) h = (g, refl)

-- and when it can't grow
pub refused_found : (n : ℕ) (groups : List (ℕ × Group)) (numbers : List (Key × ℕ)) (dues more left : List (ℕ × ℕ)) (due old : Option ℕ) → IsSome (value_at groups n) → IsDueOf old (value_at groups n)
    → Times dues more due n true → Forgets more left due old n → AreFound groups numbers dues → AreFound groups numbers left
refused_found n groups numbers dues more left due old there was add forget found =
    let its = some_of (value_at groups n) there in
    moved_back groups numbers dues more left n its.0 due found its.1 add
    (subst (λ (d : Option ℕ). Forgets more left due d n) (due_is old (value_at groups n) its.0 its.1 was) forget)

-- a message that has taken a part in, and says of how many it is
pub takes_is : (s : Strategy) (n : ℕ) (key : List ℕ) (old part m : Message) (properties : Pairs) → properties ≡ labels n key (kept s old part).properties → added s (Some old) part ≡ Ok m
    → Takes s n key old part (record m { properties = properties })
takes_is s n key old part m properties labelled_so takes = (
  m,
  takes,
  ap (λ (ps : Pairs). record m { properties = ps }) (labelled_so ∙ ap (labels n key) (sym (added_properties s old part m takes))),
)

-- a group of a table that has grown
pub grows_at : (a : Aggregate) (p : Arrival) (n : ℕ) (old new : List (ℕ × Group)) (was group : Group) (res : Result (Option Completion) ArriveFault) → value_at old n ≡ Some was → Puts old new n (Some group)
    → OnOk res (Grows a was.key (Some was) p.message p.hops p.at (Ok group)) → IfOk res (λ c. c ≡ cause_at a group.message group.count p.number p.route) → OnOk res (IsReadyBody a.strategy group.message.body)
    → IfOk res (λ c. GrowsAt a p n old new c)
grows_at a p n old new was group (Ok c) there puts grows caused ready = record { was = was; group = group; open_group = there; grows = grows; ready = ready; caused = caused; puts = puts }
grows_at a p n old new was group (Err e) there puts grows caused ready = tt
