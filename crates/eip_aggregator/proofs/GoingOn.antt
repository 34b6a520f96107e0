-- An arrival at a group that is open, which grows where it stands.
use Rattle.std.proofs.Common.{◌≡◌, ℕ, ◌∷◌, List, Option, Some, Result, Ok, Err, refl, sym, ap, subst, ◌∙◌}
use Rattle.std.specs.Prelude.{IfOk, IfErr, OnOk}
use Rattle.std.proofs.lemmas.Option.{same_Some}
use Rattle.eip_route.specs.declared.step.Aggregate.{Aggregate}
use Rattle.eip_aggregator.specs.declared.closed.Arrived.{Arrived}
use Rattle.eip_aggregator.specs.declared.closed.ArriveFault.{ArriveFault}
use Rattle.eip_aggregator.specs.Arrivals.{Key, Arrival, Call, Came, Settings, Group}
use Rattle.eip_ordered.specs.Numbered.{value_at}
use Rattle.eip_aggregator.specs.Tables.{Table, Stands, IsOf, Grows, GoesOn, IsRefused, Answers}
use Rattle.eip_aggregator.proofs.Arriving.{own_some, answers_own, stands_own, refused_as}

-- the group that was there is the one of the key
grows_own : (a : Aggregate) (k : Key) (p : Arrival) (n : ℕ) (old new : List (ℕ × Group)) (r : Arrived) → IsOf old k n → (goes : GoesOn a p n old new r) → Grows a k (value_at old n) p.message p.hops p.at (Ok goes.group)
grows_own a k p n old new r own goes =
    let same : goes.was ≡ own.group = same_Some goes.was own.group (sym goes.open_group ∙ own.open_group) in
    subst (λ (o : Option Group). Grows a k o p.message p.hops p.at (Ok goes.group)) (sym goes.open_group)
    (subst (λ (l : Key). Grows a l (Some goes.was) p.message p.hops p.at (Ok goes.group)) (ap (λ (g : Group). g.key) same ∙ own.keyed) goes.grows)

pub answers_grown : (s : Settings) (calls : List Call) (t new : Table) (k : Key) (p : Arrival) (a : Aggregate) (n : ℕ) (res : Result Arrived ArriveFault) → s k.0 ≡ a → Stands s calls t → IsOf t.open_groups k n
    → IfOk res (λ r. GoesOn a p n t.open_groups new.open_groups r) → IfErr res (λ e. IsRefused a p.message p.hops p.at (value_at t.open_groups n) e) → Answers s calls k p res
answers_grown s calls t new k p a n (Ok r) same stands own goes refused =
    answers_own s calls t new k p goes.group a same stands goes.ready n own (grows_own a k p n t.open_groups new.open_groups r own goes) (Ok r) goes.settles
answers_grown s calls t new k p a n (Err e) same stands own goes refused =
    refused_as s calls k p a (Some (n, own.group)) (Some own.group) e same (own_some s calls t k n stands own) refl
    (subst (λ (l : Key). Grows a l (Some own.group) p.message p.hops p.at (Err e)) own.keyed (subst (λ (o : Option Group). IsRefused a p.message p.hops p.at o e) own.open_group refused))

pub stands_grown : (t new : Table) (k : Key) (p : Arrival) (a : Aggregate) (n : ℕ) (res : Result Arrived ArriveFault) → IsOf t.open_groups k n → new.begun ≡ t.begun
    → IfOk res (λ r. GoesOn a p n t.open_groups new.open_groups r) → OnOk res ((s : Settings) (calls : List Call) → Stands s calls t → s k.0 ≡ a → Stands s (Came k p ∷ calls) new)
stands_grown t new k p a n (Ok r) own begins goes = λ s calls stands same.
    stands_own s calls t new k p goes.group a same stands goes.ready n own (grows_own a k p n t.open_groups new.open_groups r own goes) (Ok r) goes.settles begins
stands_grown t new k p a n (Err e) own begins goes = tt
