-- What an arrival is answered, and what it makes of a table.
use Rattle.std.proofs.Common.{◌≡◌, ℕ, ◌+◌, ◌<◌, ◌≤◌, List, [], ◌∷◌, length, Option, Some, None, option_map, Result, Ok, Err, OnOk, cond, refl, sym, ap, subst, ◌∙◌, arith}
use Rattle.std.proofs.lemmas.Option.{none-some, same_Some}
use Rattle.eip_exchange.specs.declared.message.Message.{Message}
use Rattle.eip_frames.specs.declared.answer.Completion.{Completion}
use Rattle.eip_route.specs.declared.step.Aggregate.{Aggregate}
use Rattle.eip_strategy.specs.Adding.{added, IsReady, IsReadyBody}
use Rattle.eip_aggregator.specs.declared.closed.Arrived.{Arrived}
use Rattle.eip_aggregator.specs.declared.closed.ArriveFault.{ArriveFault}
use Rattle.eip_aggregator.specs.declared.closed.ArriveFault.TheVariants.{Unfit, NoMemory}
use Rattle.eip_aggregator.specs.Arrivals.{Key, same_key, Arrival, Call, Came, Settings, Group, message_of, cause_at, cause_of, parts_of, next_begun, begun, next_number, number_of, group_of, numbered, open_at}
use Rattle.eip_ordered.specs.Numbered.{value_at, Puts}
use Rattle.eip_aggregator.specs.Tables.{Table, Stands, IsSetSo, IsFree, IsOf, count_in, message_in, grown, Grows, left_in, closed_by, added_at, Settles, Answers}
use Rattle.eip_aggregator.proofs.Standing.{few_parts, few_begun, opened, open_key, message_at, grown_by, with_number, left_at_arrival, open_behind, stands_put, unused}

-- ---- what the condition gives

pub set_few : (a : Aggregate) (t : Table) → IsSetSo a t → t.begun < 18446744073709551615
set_few a t set =
    let few : begun set.settings set.calls ≤ length set.calls = few_begun set.settings set.calls in
    let same : t.begun ≡ begun set.settings set.calls = set.stands.as_many in
    let fits : length set.calls < 18446744073709551615 = set.few in
    omega arith

pub set_unused : (a : Aggregate) (t : Table) → IsSetSo a t → value_at t.open_groups (t.begun + 1) ≡ None
set_unused a t set = unused set.settings set.calls t set.stands

pub set_ready : (a : Aggregate) (t : Table) (text : List ℕ) (n : ℕ) → IsSetSo a t → IsOf t.open_groups (a.block, text) n → IsReady a.strategy (message_in (value_at t.open_groups n))
set_ready a t text n set own =
    subst (λ (o : Option Group). IsReady a.strategy (message_in o)) (sym own.open_group)
    (subst (λ (b : Aggregate). IsReadyBody b.strategy own.group.message.body) set.same
    (subst (λ (k : Key). IsReadyBody (set.settings k.0).strategy own.group.message.body) own.keyed
    (set.stands.ready n own.group own.open_group)))

pub set_count : (a : Aggregate) (t : Table) (k : Key) (n : ℕ) → IsSetSo a t → IsOf t.open_groups k n → count_in (value_at t.open_groups n) < 18446744073709551615
set_count a t k n set own =
    let at = (set.stands.each n own.group).0 own.open_group in
    let made = (opened (set.settings own.group.key.0) own.group.key (number_of set.settings set.calls own.group.key) n (parts_of set.settings set.calls own.group.key) own.group at).1 in
    let few : length (parts_of set.settings set.calls own.group.key) ≤ length set.calls = few_parts set.settings set.calls own.group.key in
    let same : length (parts_of set.settings set.calls own.group.key) ≡ own.group.count = ap (λ (g : Group). g.count) made in
    let fits : length set.calls < 18446744073709551615 = set.few in
    subst (λ (o : Option Group). count_in o < 18446744073709551615) (sym own.open_group) (omega arith)

-- ---- the open group of a key, as a table has it

none_by : {X : Type 0} (o : Option X) → ((x : X) → o ≡ Some x → ⊥) → o ≡ None
none_by None h = refl
none_by (Some x) h = absurd (h x refl)

pub free_none : (s : Settings) (calls : List Call) (t : Table) (k : Key) → Stands s calls t → IsFree t.open_groups k → open_at s calls k ≡ None
free_none s calls t k stands free = none_by (open_at s calls k) (λ e at.
    let own = open_key s calls k e.0 e.1 at in
    free e.0 e.1 ((stands.each e.0 e.1).1 (subst (λ (l : Key). open_at s calls l ≡ Some e) own at)) (sym own))

pub own_some : (s : Settings) (calls : List Call) (t : Table) (k : Key) (n : ℕ) → Stands s calls t → (own : IsOf t.open_groups k n) → open_at s calls k ≡ Some (n, own.group)
own_some s calls t k n stands own = subst (λ (l : Key). open_at s calls l ≡ Some (n, own.group)) own.keyed ((stands.each n own.group).0 own.open_group)

-- the number of an arrival's group, and how many have begun behind it
abbrev pub number_in : ℕ → Option (ℕ × Group) → ℕ
number_in b None = b + 1
number_in b (Some e) = e.0

abbrev pub begun_in : ℕ → Option (ℕ × Group) → ℕ
begun_in b None = b + 1
begun_in b (Some e) = b

number_by : (a : Aggregate) (k : Key) (last b : ℕ) (ps : List Arrival) → next_number ps last b ≡ number_in b (numbered a k last ps)
number_by a k last b [] = refl
number_by a k last b (p ∷ ps) = refl

begun_by : (a : Aggregate) (k : Key) (last b : ℕ) (ps : List Arrival) → next_begun ps b ≡ begun_in b (numbered a k last ps)
begun_by a k last b [] = refl
begun_by a k last b (p ∷ ps) = refl

-- ---- an arrival

module _ (s : Settings) (calls : List Call) (k : Key) (p : Arrival) (e : Option (ℕ × Group)) (at : open_at s calls k ≡ e) where
  -- what the strategy adds to
  adds_to : message_of (s k.0) k.1 (parts_of s calls k) ≡ message_in (option_map (λ (x : ℕ × Group). x.1) e)
  adds_to = sym (message_at s calls k) ∙ ap (λ (x : Option (ℕ × Group)). message_in (option_map (λ (y : ℕ × Group). y.1) x)) at

  pub added_to : added_at s calls k p ≡ added (s k.0).strategy (message_in (option_map (λ (x : ℕ × Group). x.1) e)) p.message
  added_to = ap (λ (o : Option Message). added (s k.0).strategy o p.message) adds_to

  -- an arrival that joined no group
  pub answers_refused : (f : ArriveFault) → Grows (s k.0) k (option_map (λ (x : ℕ × Group). x.1) e) p.message p.hops p.at (Err f) → Answers s calls k p (Err f)
  answers_refused NoMemory h = tt
  answers_refused (Unfit f) h = added_to ∙ h

module _ (s : Settings) (calls : List Call) (old new : Table) (k : Key) (p : Arrival) (e : Option (ℕ × Group)) (g : Group)
    (stands : Stands s calls old)
    (at : open_at s calls k ≡ e)
    (grows : Grows (s k.0) k (option_map (λ (x : ℕ × Group). x.1) e) p.message p.hops p.at (Ok g))
    (own : (n : ℕ) (h : Group) → value_at old.open_groups n ≡ Some h → h.key ≡ k → n ≡ number_in old.begun e)
    (its : (h : Group) → value_at old.open_groups (number_in old.begun e) ≡ Some h → h.key ≡ k)
    (ready : IsReadyBody (s k.0).strategy g.message.body) where
  number : next_number (parts_of s calls k) (number_of s calls k) (begun s calls) ≡ number_in old.begun e
  number =
      number_by (s k.0) k (number_of s calls k) (begun s calls) (parts_of s calls k)
      ∙ ap (number_in (begun s calls)) at
      ∙ ap (λ (b : ℕ). number_in b e) (sym stands.as_many)

  adds_at : added_at s calls k p ≡ Ok grows.0
  adds_at = added_to s calls k p e at ∙ grows.1

  grows_at : g ≡ group_of (s k.0) k (p ∷ parts_of s calls k)
  grows_at =
      grows.2
      ∙ ap (λ (x : Option (ℕ × Group)). grown (s k.0) k (option_map (λ (y : ℕ × Group). y.1) x) p.hops p.at grows.0) (sym at)
      ∙ grown_by s calls k p grows.0 adds_at

  cause : cause_at (s k.0) g.message g.count p.number p.route ≡ cause_of (s k.0) k.1 p (parts_of s calls k)
  cause = ap (λ (h : Group). cause_at (s k.0) h.message h.count p.number p.route) grows_at

  pub answers_any : (res : Result Arrived ArriveFault) → Settles old.open_groups new.open_groups (number_in old.begun e) g (cause_at (s k.0) g.message g.count p.number p.route) res → Answers s calls k p res
  answers_any (Ok r) settles = (
    (grows.0, adds_at),
    settles.0
        ∙ ap (λ (c : Option Completion). record { group = number_in old.begun e; closed = closed_by c (number_in old.begun e) g }) cause
        ∙ ap (λ (h : Group). record { group = number_in old.begun e; closed = closed_by (cause_of (s k.0) k.1 p (parts_of s calls k)) (number_in old.begun e) h }) grows_at
        ∙ ap (λ (n : ℕ). record { group = n; closed = closed_by (cause_of (s k.0) k.1 p (parts_of s calls k)) n (group_of (s k.0) k (p ∷ parts_of s calls k)) }) (sym number),
  )
  answers_any (Err f) settles = subst (λ (x : ArriveFault). Answers s calls k p (Err x)) (sym settles) tt

  left : left_in (cause_at (s k.0) g.message g.count p.number p.route) g ≡ left_at_arrival s calls k p
  left =
      ap (λ (c : Option Completion). left_in c g) cause
      ∙ ap (left_in (cause_of (s k.0) k.1 p (parts_of s calls k))) grows_at

  opens : (l : Key) → open_at s (Came k p ∷ calls) l
      ≡ cond (same_key k l) (with_number (number_in old.begun e) (left_in (cause_at (s k.0) g.message g.count p.number p.route) g)) (open_at s calls l)
  opens l =
      open_behind s calls k l p
      ∙ ap (λ (n : ℕ). cond (same_key k l) (with_number n (left_at_arrival s calls k p)) (open_at s calls l)) number
      ∙ ap (λ (o : Option Group). cond (same_key k l) (with_number (number_in old.begun e) o) (open_at s calls l)) (sym left)

  left_by : (c : Option Completion) (h : Group) → left_in c g ≡ Some h → g ≡ h
  left_by None h x = same_Some g h x
  left_by (Some c) h x = absurd (none-some h x)

  g_key : g.key ≡ k
  g_key = ap (λ (h : Group). h.key) grows_at

  stands_arrived : Puts old.open_groups new.open_groups (number_in old.begun e) (left_in (cause_at (s k.0) g.message g.count p.number p.route) g) → new.begun ≡ begun_in old.begun e → Stands s (Came k p ∷ calls) new
  stands_arrived puts begins =
      stands_put s calls (Came k p ∷ calls) old new k (number_in old.begun e) (left_in (cause_at (s k.0) g.message g.count p.number p.route) g)
      opens puts
      (λ h x. sym (ap (λ (f : Group). f.key) (left_by (cause_at (s k.0) g.message g.count p.number p.route) h x)) ∙ g_key)
      own its stands
      (λ h x. subst (λ (f : Group). IsReadyBody (s f.key.0).strategy f.message.body) (left_by (cause_at (s k.0) g.message g.count p.number p.route) h x)
      (subst (λ (l : Key). IsReadyBody (s l.0).strategy g.message.body) (sym g_key) ready))
      (begins
      ∙ ap (λ (b : ℕ). begun_in b e) stands.as_many
      ∙ ap (begun_in (begun s calls)) (sym at)
      ∙ sym (begun_by (s k.0) k (number_of s calls k) (begun s calls) (parts_of s calls k)))

  pub stands_any : (res : Result Arrived ArriveFault) → Settles old.open_groups new.open_groups (number_in old.begun e) g (cause_at (s k.0) g.message g.count p.number p.route) res
      → OnOk res (new.begun ≡ begun_in old.begun e) → OnOk res (Stands s (Came k p ∷ calls) new)
  stands_any (Ok r) settles begins = stands_arrived settles.1 begins
  stands_any (Err f) settles begins = tt

on_any : {P : Type 0} (res : Result Arrived ArriveFault) → P → OnOk res P
on_any (Ok r) h = h
on_any (Err f) h = tt

-- ---- an arrival whose key has no group, and one whose key has one

module _ (s : Settings) (calls : List Call) (old new : Table) (k : Key) (p : Arrival) (g : Group) (a : Aggregate) (same : s k.0 ≡ a) (stands : Stands s calls old) (ready : IsReadyBody a.strategy g.message.body) where
  is_ready : IsReadyBody (s k.0).strategy g.message.body
  is_ready = subst (λ (b : Aggregate). IsReadyBody b.strategy g.message.body) (sym same) ready

  are_grown : (o : Option Group) → Grows a k o p.message p.hops p.at (Ok g) → Grows (s k.0) k o p.message p.hops p.at (Ok g)
  are_grown o grows = subst (λ (b : Aggregate). Grows b k o p.message p.hops p.at (Ok g)) (sym same) grows

  abbrev Settled : ℕ → Aggregate → Result Arrived ArriveFault → Type 0
  Settled n b res = Settles old.open_groups new.open_groups n g (cause_at b g.message g.count p.number p.route) res

  are_settled : (n : ℕ) (res : Result Arrived ArriveFault) → Settled n a res → Settled n (s k.0) res
  are_settled n res settles = subst (λ (b : Aggregate). Settled n b res) (sym same) settles

  pub answers_new : IsFree old.open_groups k → value_at old.open_groups (old.begun + 1) ≡ None → Grows a k None p.message p.hops p.at (Ok g) → (res : Result Arrived ArriveFault) → Settled (old.begun + 1) a res → Answers s calls k p res
  answers_new free none grows res settles =
      answers_any s calls old new k p None g stands (free_none s calls old k stands free) (are_grown None grows)
      (λ n h at key. absurd (free n h at key)) (λ h at. absurd (none-some h (sym none ∙ at))) is_ready res (are_settled (old.begun + 1) res settles)

  pub stands_new : IsFree old.open_groups k → value_at old.open_groups (old.begun + 1) ≡ None → Grows a k None p.message p.hops p.at (Ok g) → (res : Result Arrived ArriveFault) → Settled (old.begun + 1) a res
      → OnOk res (new.begun ≡ old.begun + 1) → OnOk res (Stands s (Came k p ∷ calls) new)
  stands_new free none grows res settles begins =
      stands_any s calls old new k p None g stands (free_none s calls old k stands free) (are_grown None grows)
      (λ n h at key. absurd (free n h at key)) (λ h at. absurd (none-some h (sym none ∙ at))) is_ready res (are_settled (old.begun + 1) res settles) begins

  its_own : (n : ℕ) (own : IsOf old.open_groups k n) (h : Group) → value_at old.open_groups n ≡ Some h → h.key ≡ k
  its_own n own h at = ap (λ (f : Group). f.key) (same_Some h own.group (sym at ∙ own.open_group)) ∙ own.keyed

  pub answers_own : (n : ℕ) (own : IsOf old.open_groups k n) → Grows a k (value_at old.open_groups n) p.message p.hops p.at (Ok g) → (res : Result Arrived ArriveFault) → Settled n a res → Answers s calls k p res
  answers_own n own grows res settles =
      answers_any s calls old new k p (Some (n, own.group)) g stands (own_some s calls old k n stands own)
      (are_grown (Some own.group) (subst (λ (o : Option Group). Grows a k o p.message p.hops p.at (Ok g)) own.open_group grows))
      own.alone (its_own n own) is_ready res (are_settled n res settles)

  pub stands_own : (n : ℕ) (own : IsOf old.open_groups k n) → Grows a k (value_at old.open_groups n) p.message p.hops p.at (Ok g) → (res : Result Arrived ArriveFault) → Settled n a res
      → new.begun ≡ old.begun → OnOk res (Stands s (Came k p ∷ calls) new)
  stands_own n own grows res settles begins =
      stands_any s calls old new k p (Some (n, own.group)) g stands (own_some s calls old k n stands own)
      (are_grown (Some own.group) (subst (λ (o : Option Group). Grows a k o p.message p.hops p.at (Ok g)) own.open_group grows))
      own.alone (its_own n own) is_ready res (are_settled n res settles) (on_any res begins)

pub on_each : (res : Result Arrived ArriveFault) (S : Settings → List Call → Type 0) (E : Settings → Type 0) (P : Settings → List Call → Type 0) → ((s : Settings) (calls : List Call) → S s calls → E s → OnOk res (P s calls))
    → OnOk res ((s : Settings) (calls : List Call) → S s calls → E s → P s calls)
on_each (Ok r) S E P h = h
on_each (Err f) S E P h = tt

pub refused_as : (s : Settings) (calls : List Call) (k : Key) (p : Arrival) (a : Aggregate) (e : Option (ℕ × Group)) (o : Option Group) (f : ArriveFault) → s k.0 ≡ a → open_at s calls k ≡ e → o ≡ option_map (λ (x : ℕ × Group). x.1) e
    → Grows a k o p.message p.hops p.at (Err f) → Answers s calls k p (Err f)
refused_as s calls k p a e o f same at is h = answers_refused s calls k p e at f
    (subst (λ (b : Aggregate). Grows b k (option_map (λ (x : ℕ × Group). x.1) e) p.message p.hops p.at (Err f)) (sym same)
    (subst (λ (w : Option Group). Grows a k w p.message p.hops p.at (Err f)) is h))
