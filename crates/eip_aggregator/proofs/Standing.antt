-- What a call does to a table that stands for the calls so far.
use Rattle.std.proofs.Common.{◌≡◌, ℕ, ◌+◌, ◌≤◌, inl, inr, Bool, true, false, cond, ◌==◌, List, [], ◌∷◌, length, Option, Some, None, option_map, Ok, refl, sym, ap, subst, ◌∙◌, arith, eqb-true, eq-eqb, true≢false}
use Rattle.std.proofs.lemmas.Bool.{cases_Bool}
use Rattle.std.proofs.lemmas.Option.{none-some, same_Some}
use Rattle.eip_exchange.specs.declared.message.Message.{Message}
use Rattle.eip_frames.specs.declared.answer.Completion.{Completion}
use Rattle.eip_route.specs.declared.step.Aggregate.{Aggregate}
use Rattle.eip_strategy.specs.Adding.{added, IsReadyBody}
use Rattle.eip_strategy.specs.Answers.{Answer}
use Rattle.eip_aggregator.specs.Arrivals.{Key, same_key, Arrival, Call, Came, Ticked, Forced, Settings, Group, labelled, or_old, message_of, is_at_most, due_of, left_open, cause_of, parts_of, next_begun, begun, next_number, number_of, group_of, numbered, open_at}
use Rattle.eip_ordered.specs.Numbered.{value_at, Puts}
use Rattle.eip_aggregator.specs.Tables.{Table, Stands, message_in, grown, left_in, IsFirstDue, IsLeastDue}
use Rattle.eip_aggregator.proofs.Keys.{key_same, same_of, other_key}

-- ---- how many

kept_length : (t : Bool) (ps : List Arrival) (n : ℕ) → length ps ≤ n → length (cond t [] ps) ≤ n + 1
kept_length true ps n h = omega arith
kept_length false ps n h = omega arith

left_length : (c : Option Completion) (p : Arrival) (ps : List Arrival) (n : ℕ) → length ps ≤ n → length (left_open c (p ∷ ps)) ≤ n + 1
left_length None p ps n h = omega arith
left_length (Some c) p ps n h = omega arith

came_length : (t : Bool) (qs ps : List Arrival) (n : ℕ) → length qs ≤ n + 1 → length ps ≤ n → length (cond t qs ps) ≤ n + 1
came_length true qs ps n h k = h
came_length false qs ps n h k = omega arith

-- a group has no more parts than there were calls
pub few_parts : (s : Settings) (calls : List Call) (k : Key) → length (parts_of s calls k) ≤ length calls
few_parts s [] k = omega arith
few_parts s (Came key p ∷ calls) k =
    let few : length (parts_of s calls k) ≤ length calls = few_parts s calls k in
    let more : length (cond (same_key key k) (left_open (cause_of (s k.0) k.1 p (parts_of s calls k)) (p ∷ parts_of s calls k)) (parts_of s calls k)) ≤ length calls + 1 =
    came_length (same_key key k) (left_open (cause_of (s k.0) k.1 p (parts_of s calls k)) (p ∷ parts_of s calls k)) (parts_of s calls k) (length calls)
    (left_length (cause_of (s k.0) k.1 p (parts_of s calls k)) p (parts_of s calls k) (length calls) few) few in
    omega arith
few_parts s (Ticked t ∷ calls) k =
    let more : length (cond (is_at_most (due_of (s k.0) (parts_of s calls k)) t) [] (parts_of s calls k)) ≤ length calls + 1 =
    kept_length (is_at_most (due_of (s k.0) (parts_of s calls k)) t) (parts_of s calls k) (length calls) (few_parts s calls k) in
    omega arith
few_parts s (Forced ∷ calls) k =
    let more : length (cond (s k.0).force [] (parts_of s calls k)) ≤ length calls + 1 =
    kept_length (s k.0).force (parts_of s calls k) (length calls) (few_parts s calls k) in
    omega arith

one_more_begun : (ps : List Arrival) (b n : ℕ) → b ≤ n → next_begun ps b ≤ n + 1
one_more_begun [] b n h = omega arith
one_more_begun (p ∷ ps) b n h = omega arith

-- no more groups have begun than there were calls
pub few_begun : (s : Settings) (calls : List Call) → begun s calls ≤ length calls
few_begun s [] = omega arith
few_begun s (Came key p ∷ calls) =
    let more : next_begun (parts_of s calls key) (begun s calls) ≤ length calls + 1 = one_more_begun (parts_of s calls key) (begun s calls) (length calls) (few_begun s calls) in
    omega arith
few_begun s (Ticked t ∷ calls) = let few : begun s calls ≤ length calls = few_begun s calls in omega arith
few_begun s (Forced ∷ calls) = let few : begun s calls ≤ length calls = few_begun s calls in omega arith

-- ---- the numbers of groups

begun_before : (ps : List Arrival) (b n : ℕ) → n ≤ b → n ≤ next_begun ps b
begun_before [] b n h = omega arith
begun_before (p ∷ ps) b n h = h

numbered_within : (ps : List Arrival) (last b : ℕ) → last ≤ b → next_number ps last b ≤ next_begun ps b
numbered_within [] last b h = omega arith
numbered_within (p ∷ ps) last b h = h

came_number : (t : Bool) (key k : Key) (next last b : ℕ) → (t ≡ true → next ≤ b) → last ≤ b → cond t next last ≤ b
came_number true key k next last b h l = h refl
came_number false key k next last b h l = l

-- a group's number is no greater than the count of groups
pub number_within : (s : Settings) (calls : List Call) (k : Key) → number_of s calls k ≤ begun s calls
number_within s [] k = omega arith
number_within s (Came key p ∷ calls) k =
    came_number (same_key key k) key k (next_number (parts_of s calls k) (number_of s calls k) (begun s calls)) (number_of s calls k) (next_begun (parts_of s calls key) (begun s calls))
    (λ t. subst (λ (l : Key). next_number (parts_of s calls l) (number_of s calls l) (begun s calls) ≤ next_begun (parts_of s calls key) (begun s calls)) (key_same key k t)
    (numbered_within (parts_of s calls key) (number_of s calls key) (begun s calls) (number_within s calls key)))
    (begun_before (parts_of s calls key) (begun s calls) (number_of s calls k) (number_within s calls k))
number_within s (Ticked t ∷ calls) k = number_within s calls k
number_within s (Forced ∷ calls) k = number_within s calls k

-- ---- an open group

-- it has parts, and is made of them
pub opened : (a : Aggregate) (k : Key) (m n : ℕ) (ps : List Arrival) (g : Group) → numbered a k m ps ≡ Some (n, g) → (m ≡ n) × (group_of a k ps ≡ g)
opened a k m n [] g e = absurd (none-some (n, g) e)
opened a k m n (p ∷ ps) g e =
    let same : (m, group_of a k (p ∷ ps)) ≡ (n, g) = same_Some (m, group_of a k (p ∷ ps)) (n, g) e in
    (ap (λ (x : ℕ × Group). x.0) same, ap (λ (x : ℕ × Group). x.1) same)

pub open_key : (s : Settings) (calls : List Call) (k : Key) (n : ℕ) (g : Group) → open_at s calls k ≡ Some (n, g) → k ≡ g.key
open_key s calls k n g e = ap (λ (h : Group). h.key) (opened (s k.0) k (number_of s calls k) n (parts_of s calls k) g e).1

pub open_within : (s : Settings) (calls : List Call) (k : Key) (n : ℕ) (g : Group) → open_at s calls k ≡ Some (n, g) → n ≤ begun s calls
open_within s calls k n g e = subst (λ (m : ℕ). m ≤ begun s calls) (opened (s k.0) k (number_of s calls k) n (parts_of s calls k) g e).0 (number_within s calls k)

-- the open group of a key, as an arrival finds it
abbrev pub group_at : Settings → List Call → Key → Option Group
group_at s calls k = option_map (λ (e : ℕ × Group). e.1) (open_at s calls k)

message_by : (a : Aggregate) (k : Key) (n : ℕ) (ps : List Arrival) → message_in (option_map (λ (e : ℕ × Group). e.1) (numbered a k n ps)) ≡ message_of a k.1 ps
message_by a k n [] = refl
message_by a k n (p ∷ ps) = refl

pub message_at : (s : Settings) (calls : List Call) (k : Key) → message_in (group_at s calls k) ≡ message_of (s k.0) k.1 (parts_of s calls k)
message_at s calls k = message_by (s k.0) k (number_of s calls k) (parts_of s calls k)

grown_old : (a : Aggregate) (k : Key) (n : ℕ) (ps : List Arrival) (p : Arrival) (m : Message) → grown a k (option_map (λ (e : ℕ × Group). e.1) (numbered a k n ps)) p.hops p.at m
    ≡ record { key = k; message = labelled (length ps + 1) k.1 m; count = length (p ∷ ps); hops = (group_of a k (p ∷ ps)).hops; due = (group_of a k (p ∷ ps)).due; force = a.force }
grown_old a k n [] p m = refl
grown_old a k n (q ∷ ps) p m =
    ap (λ (c : ℕ). record { key = k; message = labelled (length (q ∷ ps) + 1) k.1 m; count = c; hops = (group_of a k (p ∷ (q ∷ ps))).hops; due = (group_of a k (p ∷ (q ∷ ps))).due; force = a.force })
    (let one : length (q ∷ ps) + 1 ≡ length (p ∷ (q ∷ ps)) = omega arith in one)

-- a group with an arrival that the strategy could add is the group of its parts with this one
pub grown_by : (s : Settings) (calls : List Call) (k : Key) (p : Arrival) (m : Message) → added (s k.0).strategy (message_of (s k.0) k.1 (parts_of s calls k)) p.message ≡ Ok m
    → grown (s k.0) k (group_at s calls k) p.hops p.at m ≡ group_of (s k.0) k (p ∷ parts_of s calls k)
grown_by s calls k p m h =
    grown_old (s k.0) k (number_of s calls k) (parts_of s calls k) p m
    ∙ ap (λ (x : Answer Message). record {
      key = k;
      message = labelled (length (parts_of s calls k) + 1) k.1 (or_old (message_of (s k.0) k.1 (parts_of s calls k)) p.message x);
      count = length (p ∷ parts_of s calls k);
      hops = (group_of (s k.0) k (p ∷ parts_of s calls k)).hops;
      due = (group_of (s k.0) k (p ∷ parts_of s calls k)).due;
      force = (s k.0).force;
    }) (sym h)

-- ---- the groups behind an arrival

abbrev pub with_number : ℕ → Option Group → Option (ℕ × Group)
with_number n o = option_map (λ g. (n, g)) o

came_own : (a : Aggregate) (k : Key) (n : ℕ) (c : Option Completion) (p : Arrival) (ps : List Arrival) → numbered a k n (left_open c (p ∷ ps)) ≡ with_number n (left_in c (group_of a k (p ∷ ps)))
came_own a k n None p ps = refl
came_own a k n (Some c) p ps = refl

came_by : (t : Bool) (s : Settings) (calls : List Call) (k l : Key) (p : Arrival) (own : Option (ℕ × Group)) → same_key k l ≡ t
    → (t ≡ true → numbered (s l.0) l (next_number (parts_of s calls l) (number_of s calls l) (begun s calls)) (left_open (cause_of (s l.0) l.1 p (parts_of s calls l)) (p ∷ parts_of s calls l)) ≡ own)
    → open_at s (Came k p ∷ calls) l ≡ cond t own (open_at s calls l)
came_by true s calls k l p own e h =
    ap (λ (b : Bool). numbered (s l.0) l (cond b (next_number (parts_of s calls l) (number_of s calls l) (begun s calls)) (number_of s calls l))
    (cond b (left_open (cause_of (s l.0) l.1 p (parts_of s calls l)) (p ∷ parts_of s calls l)) (parts_of s calls l))) e
    ∙ h refl
came_by false s calls k l p own e h =
    ap (λ (b : Bool). numbered (s l.0) l (cond b (next_number (parts_of s calls l) (number_of s calls l) (begun s calls)) (number_of s calls l))
    (cond b (left_open (cause_of (s l.0) l.1 p (parts_of s calls l)) (p ∷ parts_of s calls l)) (parts_of s calls l))) e

-- the number of an arrival's group, and what becomes of the group
abbrev pub number_at_arrival : Settings → List Call → Key → ℕ
number_at_arrival s calls k = next_number (parts_of s calls k) (number_of s calls k) (begun s calls)

abbrev pub left_at_arrival : Settings → List Call → Key → Arrival → Option Group
left_at_arrival s calls k p = left_in (cause_of (s k.0) k.1 p (parts_of s calls k)) (group_of (s k.0) k (p ∷ parts_of s calls k))

pub open_behind : (s : Settings) (calls : List Call) (k l : Key) (p : Arrival)
    → open_at s (Came k p ∷ calls) l ≡ cond (same_key k l) (with_number (number_at_arrival s calls k) (left_at_arrival s calls k p)) (open_at s calls l)
open_behind s calls k l p = came_by (same_key k l) s calls k l p (with_number (number_at_arrival s calls k) (left_at_arrival s calls k p)) refl
    (λ t. subst (λ (m : Key). numbered (s m.0) m (number_at_arrival s calls m) (left_open (cause_of (s m.0) m.1 p (parts_of s calls m)) (p ∷ parts_of s calls m)) ≡ with_number (number_at_arrival s calls k) (left_at_arrival s calls k p))
    (key_same k l t)
    (came_own (s k.0) k (number_at_arrival s calls k) (cause_of (s k.0) k.1 p (parts_of s calls k)) p (parts_of s calls k)))

-- ---- a table with one group changed

module _ (s : Settings) (calls after : List Call) (old new : Table) (k : Key) (n : ℕ) (w : Option Group)
    (opens : (l : Key) → open_at s after l ≡ cond (same_key k l) (with_number n w) (open_at s calls l))
    (puts : Puts old.open_groups new.open_groups n w)
    (keyed : (g : Group) → w ≡ Some g → g.key ≡ k)
    (own : (m : ℕ) (g : Group) → value_at old.open_groups m ≡ Some g → g.key ≡ k → m ≡ n)
    (its : (g : Group) → value_at old.open_groups n ≡ Some g → g.key ≡ k)
    (stands : Stands s calls old) where
  was : (m : ℕ) (g : Group) → value_at old.open_groups m ≡ Some g → open_at s calls g.key ≡ Some (m, g)
  was m g h = (stands.each m g).0 h

  opens_own : (l : Key) → same_key k l ≡ true → open_at s after l ≡ with_number n w
  opens_own l t = opens l ∙ ap (λ (b : Bool). cond b (with_number n w) (open_at s calls l)) t

  opens_other : (l : Key) → same_key k l ≡ false → open_at s after l ≡ open_at s calls l
  opens_other l f = opens l ∙ ap (λ (b : Bool). cond b (with_number n w) (open_at s calls l)) f

  puts_own : (m : ℕ) → (n == m) ≡ true → value_at new.open_groups m ≡ w
  puts_own m t = puts m ∙ ap (λ (b : Bool). cond b w (value_at old.open_groups m)) t

  puts_other : (m : ℕ) → (n == m) ≡ false → value_at new.open_groups m ≡ value_at old.open_groups m
  puts_other m f = puts m ∙ ap (λ (b : Bool). cond b w (value_at old.open_groups m)) f

  there_own : (m : ℕ) (g : Group) → (n == m) ≡ true → value_at new.open_groups m ≡ Some g → open_at s after g.key ≡ Some (m, g)
  there_own m g t h =
      let is : w ≡ Some g = sym (puts_own m t) ∙ h in
      opens_own g.key (same_of k g.key (sym (keyed g is)))
      ∙ ap (with_number n) is
      ∙ ap (λ (x : ℕ). Some (x, g)) (eqb-true n m t)

  there_other : (m : ℕ) (g : Group) → (n == m) ≡ false → value_at new.open_groups m ≡ Some g → open_at s after g.key ≡ Some (m, g)
  there_other m g f h =
      let is : value_at old.open_groups m ≡ Some g = sym (puts_other m f) ∙ h in
      elim (cases_Bool (same_key k g.key)) [
        | inl t ↦ absurd (true≢false (sym (eq-eqb n m (sym (own m g is (sym (key_same k g.key t))))) ∙ f))
        | inr d ↦ opens_other g.key d ∙ was m g is
      ]

  there : (m : ℕ) (g : Group) → value_at new.open_groups m ≡ Some g → open_at s after g.key ≡ Some (m, g)
  there m g h =
      elim (cases_Bool (n == m)) [
        | inl t ↦ there_own m g t h
        | inr f ↦ there_other m g f h
      ]

  back_own : (o : Option Group) (m : ℕ) (g : Group) → w ≡ o → with_number n o ≡ Some (m, g) → value_at new.open_groups m ≡ Some g
  back_own None m g e h = absurd (none-some (m, g) h)
  back_own (Some f) m g e h =
      let same : (n, f) ≡ (m, g) = same_Some (n, f) (m, g) h in
      puts_own m (eq-eqb n m (ap (λ (x : ℕ × Group). x.0) same)) ∙ e ∙ ap (λ (x : ℕ × Group). Some x.1) same

  back_other : (m : ℕ) (g : Group) → same_key k g.key ≡ false → open_at s after g.key ≡ Some (m, g) → value_at new.open_groups m ≡ Some g
  back_other m g d h =
      let is : value_at old.open_groups m ≡ Some g = (stands.each m g).1 (sym (opens_other g.key d) ∙ h) in
      elim (cases_Bool (n == m)) [
        | inl t ↦ absurd (other_key k g.key d (sym (its g (subst (λ (x : ℕ). value_at old.open_groups x ≡ Some g) (sym (eqb-true n m t)) is))))
        | inr f ↦ puts_other m f ∙ is
      ]

  back : (m : ℕ) (g : Group) → open_at s after g.key ≡ Some (m, g) → value_at new.open_groups m ≡ Some g
  back m g h =
      elim (cases_Bool (same_key k g.key)) [
        | inl t ↦ back_own w m g refl (sym (opens_own g.key t) ∙ h)
        | inr d ↦ back_other m g d h
      ]

  pub stands_put : ((g : Group) → w ≡ Some g → IsReadyBody (s g.key.0).strategy g.message.body) → new.begun ≡ begun s after → Stands s after new
  stands_put ready as_many = record {
    as_many = as_many;
    each = λ m g. (there m g, back m g);
    ready = λ m g h. elim (cases_Bool (n == m)) [
      | inl t ↦ ready g (sym (puts_own m t) ∙ h)
      | inr f ↦ stands.ready m g (sym (puts_other m f) ∙ h)
    ];
  }

-- ---- what a table tells

none_by : {X : Type 0} (o : Option X) → ((x : X) → o ≡ Some x → ⊥) → o ≡ None
none_by None h = refl
none_by (Some x) h = absurd (h x refl)

-- a number that no group has had is no open group's
pub unused : (s : Settings) (calls : List Call) (t : Table) → Stands s calls t → value_at t.open_groups (t.begun + 1) ≡ None
unused s calls t stands = none_by (value_at t.open_groups (t.begun + 1)) (λ g e.
    let low : t.begun + 1 ≤ begun s calls = open_within s calls g.key (t.begun + 1) g ((stands.each (t.begun + 1) g).0 e) in
    let same : t.begun ≡ begun s calls = stands.as_many in
    omega arith)

pub first_due : (s : Settings) (calls : List Call) (t : Table) (first : Option ℕ) → Stands s calls t → IsLeastDue t.open_groups first → IsFirstDue s calls first
first_due s calls t None stands none = λ k n g e. none n g ((stands.each n g).1 (subst (λ (l : Key). open_at s calls l ≡ Some (n, g)) (open_key s calls k n g e) e))
first_due s calls t (Some due) stands least =
    let its = least.0 in (
      (its.1.key, its.0, its.1, (stands.each its.0 its.1).0 its.2, its.3),
      λ k n d g e. least.1 n d g ((stands.each n g).1 (subst (λ (l : Key). open_at s calls l ≡ Some (n, g)) (open_key s calls k n g e) e)),
    )
