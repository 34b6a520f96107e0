-- Groups that close together.
use Rattle.std.proofs.Common.{◌≡◌, ℕ, zero, suc, ◌+◌, ◌<◌, ◌≤◌, inl, inr, Bool, true, false, cond, ◌==◌, ◌&&◌, ◌||◌, not, List, [], ◌∷◌, ◌++◌, length, map, get_or, append_assoc, length-append, Option, Some, None, IsSome, is_some, is_eq, nat_cmp, BTreeSet, refl, sym, ap, subst, ◌∙◌, arith, eqb-true, eq-eqb, true≢false}
use Rattle.std.specs.List.{list_any, IsAmong}
use Rattle.std.specs.List.Sorted.{IsStrictlySortedBy}
use Rattle.std.specs.Option.{unwrap_or}
use Rattle.std.specs.BTreeSet.{contains, IsOrdered}
use Rattle.std.proofs.lemmas.Bool.{cases_Bool}
use Rattle.std.proofs.lemmas.Option.{none-some, same_Some}
use Rattle.eip_frames.specs.declared.answer.Completion.{Completion}
use Rattle.eip_route.specs.declared.step.Aggregate.{Aggregate}
use Rattle.eip_aggregator.specs.declared.closed.Closed.{Closed}
use Rattle.eip_aggregator.specs.Arrivals.{Key, Arrival, Call, Ticked, Forced, Settings, Group, is_at_most, due_of, parts_of, number_of, group_of, numbered, open_at, begun}
use Rattle.eip_aggregator.specs.declared.closed.OpenGroup.{OpenGroup}
use Rattle.eip_ordered.specs.Numbered.{value_at, Puts}
use Rattle.eip_aggregator.specs.Tables.{Table, Stands, closed_as, AreOpen, AreAsMany, Shows, ShowsBehind, IsBeyond, IsNext, AreClosed, passes, ArePassing, AllOpen, no_group, closing}
use Rattle.eip_ordered.proofs.Lookups.{numbers_tied}
use Rattle.eip_aggregator.proofs.Standing.{open_key}
use Rattle.eip_aggregator.proofs.Gathering.{or_left, or_right, passing}

-- ---- members of a list

tied_self : (n : ℕ) → is_eq (nat_cmp n n) ≡ true
tied_self n = numbers_tied n n ∙ eq-eqb n n refl

tied_same : (a b : ℕ) → is_eq (nat_cmp a b) ≡ true → a ≡ b
tied_same a b h = eqb-true a b (sym (numbers_tied a b) ∙ h)

among_at : {X : Type 0} (f : ℕ → X) (ks : List ℕ) (x : X) (i : ℕ) → i < length (map f ks) → x ≡ get_or (map f ks) i x → (n : ℕ) × (list_any (λ k. is_eq (nat_cmp n k)) ks ≡ true) × (x ≡ f n)
among_at f [] x i lt e = absurd (omega arith)
among_at f (k ∷ ks) x zero lt e = (k, or_left (is_eq (nat_cmp k k)) (list_any (λ l. is_eq (nat_cmp k l)) ks) (tied_self k), e)
among_at f (k ∷ ks) x (suc i) lt e =
    let rest = among_at f ks x i (omega arith) e in
    (rest.0, or_right (is_eq (nat_cmp rest.0 k)) (list_any (λ l. is_eq (nat_cmp rest.0 l)) ks) rest.1, rest.2)

among_map : {X : Type 0} (f : ℕ → X) (ks : List ℕ) (n : ℕ) → list_any (λ k. is_eq (nat_cmp n k)) ks ≡ true → IsAmong (map f ks) (f n)
among_map f [] n h = absurd (true≢false (sym h))
among_map {X} f (k ∷ ks) n h = elim (cases_Bool (is_eq (nat_cmp n k))) [
  | inl t ↦ (0, (omega arith, ap f (tied_same n k t)))
  | inr d ↦ let rest = among_map f ks n (sym (ap (λ (b : Bool). b || list_any (λ l. is_eq (nat_cmp n l)) ks) d) ∙ h) in (suc rest.0, ((let lt : rest.0 < length (map f ks) = rest.1.0 in omega arith), rest.1.1))
]

-- ---- the closed groups

groups_of : (c : Completion) (groups : List (ℕ × Group)) (ks : List ℕ) → map (λ (x : Closed). x.group) (map (closing c groups) ks) ≡ ks
groups_of c groups [] = refl
groups_of c groups (k ∷ ks) = ap (λ (ns : List ℕ). k ∷ ns) (groups_of c groups ks)

pub are_closed : (s : Settings) (calls : List Call) (t : Table) (test : Group → Bool) (c : Completion) (numbers : BTreeSet ℕ) (closed : List Closed) → Stands s calls t → ArePassing test t.open_groups numbers
    → IsOrdered nat_cmp numbers → closed ≡ map (closing c t.open_groups) numbers.keys → AreClosed s calls test c closed
are_closed s calls t test c numbers closed stands pass ordered e =
    subst (λ (xs : List Closed). AreClosed s calls test c xs) (sym e) (record {
      rising = subst (λ (ns : List ℕ). IsStrictlySortedBy nat_cmp ns) (sym (groups_of c t.open_groups numbers.keys)) ordered;
      each = λ x. (
        (λ h.
            let at = among_at (closing c t.open_groups) numbers.keys x h.0 h.1.0 h.1.1 in
            let its = passing test (value_at t.open_groups at.0) (sym (pass at.0) ∙ at.1) in
            (its.0.key, at.0, its.0, (stands.each at.0 its.0).0 its.1, its.2, at.2 ∙ ap (λ (o : Option Group). closed_as c at.0 (unwrap_or o no_group)) its.1)),
        (λ h.
            let own = open_key s calls h.0 h.1 h.2 h.3 in
            let there = (stands.each h.1 h.2).1 (subst (λ (l : Key). open_at s calls l ≡ Some (h.1, h.2)) own h.3) in
            subst (λ (y : Closed). IsAmong (map (closing c t.open_groups) numbers.keys) y)
            (ap (λ (o : Option Group). closed_as c h.1 (unwrap_or o no_group)) there ∙ sym h.5)
            (among_map (closing c t.open_groups) numbers.keys h.1 (pass h.1 ∙ ap (passes test) there ∙ h.4))),
      );
    })

-- ---- what is left

abbrev pub unless : {X : Type 0} → (X → Bool) → Option X → Option X
unless test None = None
unless test (Some x) = cond (test x) None (Some x)

kept_by : (test : Group → Bool) (o : Option Group) → cond (passes test o) None o ≡ unless test o
kept_by test None = refl
kept_by test (Some g) = refl

unless_some : {X : Type 0} (t : Bool) (x y : X) → cond t None (Some x) ≡ Some y → (t ≡ false) × (x ≡ y)
unless_some true x y h = absurd (none-some y h)
unless_some false x y h = (refl, same_Some x y h)

unless_both : {X : Type 0} (test : X → Bool) (o : Option X) (y : X) → unless test o ≡ Some y → (o ≡ Some y) × (test y ≡ false)
unless_both test None y h = absurd (none-some y h)
unless_both {X} test (Some x) y h =
    let p = unless_some (test x) x y h in
    (ap (λ (z : X). Some z) p.1, ap test (sym p.1) ∙ p.0)

unless_of : {X : Type 0} (test : X → Bool) (o : Option X) (y : X) → o ≡ Some y → test y ≡ false → unless test o ≡ Some y
unless_of {X} test o y e f = ap (unless test) e ∙ ap (λ (b : Bool). cond b None (Some y)) f

pub stands_closed : (s : Settings) (calls after : List Call) (old new : Table) (test : Group → Bool) (numbers : BTreeSet ℕ) → ArePassing test old.open_groups numbers
    → ((n : ℕ) → value_at new.open_groups n ≡ cond (contains nat_cmp numbers n) None (value_at old.open_groups n))
    → ((k : Key) → open_at s after k ≡ unless (λ (e : ℕ × Group). test e.1) (open_at s calls k))
    → new.begun ≡ old.begun → begun s after ≡ begun s calls → Stands s calls old → Stands s after new
stands_closed s calls after old new test numbers pass rest opens same begun_same stands =
    let left : (n : ℕ) → value_at new.open_groups n ≡ unless test (value_at old.open_groups n) = λ n.
    rest n ∙ ap (λ (b : Bool). cond b None (value_at old.open_groups n)) (pass n) ∙ kept_by test (value_at old.open_groups n) in
    record {
      as_many = same ∙ stands.as_many ∙ sym begun_same;
      each = λ n g. (
        (λ h.
            let was = unless_both test (value_at old.open_groups n) g (sym (left n) ∙ h) in
            opens g.key ∙ unless_of (λ (e : ℕ × Group). test e.1) (open_at s calls g.key) (n, g) ((stands.each n g).0 was.0) was.1),
        (λ h.
            let was = unless_both (λ (e : ℕ × Group). test e.1) (open_at s calls g.key) (n, g) (sym (opens g.key) ∙ h) in
            left n ∙ unless_of test (value_at old.open_groups n) g ((stands.each n g).1 was.0) was.1),
      );
      ready = λ n g h. stands.ready n g (unless_both test (value_at old.open_groups n) g (sym (left n) ∙ h)).0;
    }

closed_by : (b : Bool) (test : ℕ × Group → Bool) (a : Aggregate) (k : Key) (n : ℕ) (ps : List Arrival) → (numbered a k n ps ≡ Some (n, group_of a k ps) → test (n, group_of a k ps) ≡ b)
    → numbered a k n (cond b [] ps) ≡ unless test (numbered a k n ps)
closed_by true test a k n [] h = refl
closed_by false test a k n [] h = refl
closed_by true test a k n (p ∷ ps) h = ap (λ (b : Bool). cond b None (Some (n, group_of a k (p ∷ ps)))) (sym (h refl))
closed_by false test a k n (p ∷ ps) h = ap (λ (b : Bool). cond b None (Some (n, group_of a k (p ∷ ps)))) (sym (h refl))

pub open_ticked : (s : Settings) (calls : List Call) (t : ℕ) (k : Key) → open_at s (Ticked t ∷ calls) k ≡ unless (λ (e : ℕ × Group). is_at_most e.1.due t) (open_at s calls k)
open_ticked s calls t k =
    closed_by (is_at_most (due_of (s k.0) (parts_of s calls k)) t) (λ (e : ℕ × Group). is_at_most e.1.due t) (s k.0) k (number_of s calls k) (parts_of s calls k) (λ e. refl)

pub open_forced : (s : Settings) (calls : List Call) (k : Key) → open_at s (Forced ∷ calls) k ≡ unless (λ (e : ℕ × Group). e.1.force) (open_at s calls k)
open_forced s calls k =
    closed_by (s k.0).force (λ (e : ℕ × Group). e.1.force) (s k.0) k (number_of s calls k) (parts_of s calls k) (λ e. refl)

-- ---- one after the other

-- the groups of the numbers that are gone have been taken out
abbrev pub IsTaken : BTreeSet ℕ → BTreeSet ℕ → List (ℕ × Group) → List (ℕ × Group) → Type 0
IsTaken all left old new = (n : ℕ) → value_at new n ≡ cond (contains nat_cmp all n && not (contains nat_cmp left n)) None (value_at old n)

taken_by : (same all left : Bool) (o : Option Group) → (same ≡ true → all ≡ true) → cond same None (cond (all && not left) None o) ≡ cond (all && not (cond same false left)) None o
taken_by true true left o h = refl
taken_by true false left o h = absurd (true≢false (sym (h refl)))
taken_by false all left o h = refl

pub taken_more : (all left after : BTreeSet ℕ) (old new later : List (ℕ × Group)) (k : ℕ) → IsTaken all left old new → contains nat_cmp all k ≡ true
    → ((n : ℕ) → contains nat_cmp after n ≡ cond (is_eq (nat_cmp k n)) false (contains nat_cmp left n)) → Puts new later k None → IsTaken all after old later
taken_more all left after old new later k taken has shrank puts n =
    puts n
    ∙ ap (λ (o : Option Group). cond (k == n) None o) (taken n)
    ∙ taken_by (k == n) (contains nat_cmp all n) (contains nat_cmp left n) (value_at old n) (λ t. subst (λ (m : ℕ). contains nat_cmp all m ≡ true) (eqb-true k n t) has)
    ∙ ap (λ (b : Bool). cond (contains nat_cmp all n && not b) None (value_at old n)) (sym (shrank n ∙ ap (λ (t : Bool). cond t false (contains nat_cmp left n)) (numbers_tied k n)))

none_taken : (b : Bool) (o : Option Group) → o ≡ cond (b && not b) None o
none_taken true o = refl
none_taken false o = refl

pub taken_none : (all : BTreeSet ℕ) (old : List (ℕ × Group)) → IsTaken all all old old
taken_none all old n = none_taken (contains nat_cmp all n) (value_at old n)

still_by : (b c : Bool) (o : Option Group) → c ≡ true → cond (b && not c) None o ≡ o
still_by true true o h = refl
still_by false true o h = refl
still_by b false o h = absurd (true≢false (sym h))

pub still_there : (all left : BTreeSet ℕ) (old new : List (ℕ × Group)) (k : ℕ) → IsTaken all left old new → contains nat_cmp left k ≡ true → value_at new k ≡ value_at old k
still_there all left old new k taken has = taken k ∙ still_by (contains nat_cmp all k) (contains nat_cmp left k) (value_at old k) has

-- ---- one group after the other

-- what has been closed and what is left
pub record IsClosing (c : Completion) (all left : BTreeSet ℕ) (old new : List (ℕ × Group)) (closed : List Closed) : Type 0 where
  pub so_far : closed ++ map (closing c old) left.keys ≡ map (closing c old) all.keys
  pub within : (n : ℕ) → contains nat_cmp left n ≡ true → contains nat_cmp all n ≡ true
  pub taken : IsTaken all left old new

pub closing_none : (c : Completion) (all : BTreeSet ℕ) (old : List (ℕ × Group)) (closed : List Closed) → closed ≡ [] → IsClosing c all all old old closed
closing_none c all old closed e = record {
  so_far = ap (λ (xs : List Closed). xs ++ map (closing c old) all.keys) e;
  within = λ n h. h;
  taken = taken_none all old;
}

pub closing_is : (c : Completion) (groups : List (ℕ × Group)) (n : ℕ) (g : Group) (x : Closed) → Some g ≡ value_at groups n → x ≡ closed_as c n g → x ≡ closing c groups n
closing_is c groups n g x e is = is ∙ ap (λ (o : Option Group). closed_as c n (unwrap_or o no_group)) e

shrunk_by : (t b : Bool) → cond t false b ≡ true → b ≡ true
shrunk_by true b h = absurd (true≢false (sym h))
shrunk_by false b h = h

pub closing_more : (c : Completion) (all left after : BTreeSet ℕ) (old new later : List (ℕ × Group)) (closed more : List Closed) (x : Closed) (k : ℕ) → IsClosing c all left old new closed
    → left.keys ≡ k ∷ after.keys → contains nat_cmp left k ≡ true → ((n : ℕ) → contains nat_cmp after n ≡ cond (is_eq (nat_cmp k n)) false (contains nat_cmp left n))
    → x ≡ closing c new k → Puts new later k None → more ≡ closed ++ x ∷ [] → IsClosing c all after old later more
closing_more c all left after old new later closed more x k so next has shrank is puts grows =
    let same : closing c new k ≡ closing c old k = ap (λ (o : Option Group). closed_as c k (unwrap_or o no_group)) (still_there all left old new k so.taken has) in
    record {
      so_far =
          ap (λ (xs : List Closed). xs ++ map (closing c old) after.keys) grows
          ∙ append_assoc closed (x ∷ []) (map (closing c old) after.keys)
          ∙ ap (λ (y : Closed). closed ++ y ∷ map (closing c old) after.keys) (is ∙ same)
          ∙ ap (λ (ks : List ℕ). closed ++ map (closing c old) ks) (sym next)
          ∙ so.so_far;
      within = λ n h. so.within n (shrunk_by (is_eq (nat_cmp k n)) (contains nat_cmp left n) (sym (shrank n) ∙ h));
      taken = taken_more all left after old new later k so.taken (so.within k has) shrank puts;
    }

pub open_still : (c : Completion) (all left : BTreeSet ℕ) (old new : List (ℕ × Group)) (closed : List Closed) (k : ℕ) → IsClosing c all left old new closed → AllOpen old all → contains nat_cmp left k ≡ true → IsSome (value_at new k)
open_still c all left old new closed k so open_all has = ap is_some (still_there all left old new k so.taken has) ∙ open_all k (so.within k has)

pub spare_more : (closed more : List Closed) (x : Closed) (left after : List ℕ) (k room later : ℕ) → more ≡ closed ++ x ∷ [] → left ≡ k ∷ after → length closed + length left ≤ room → room ≤ later → length more + length after ≤ later
spare_more closed more x left after k room later grows next fits wide =
    let longer : length more ≡ length closed + 1 = ap length grows ∙ length-append closed (x ∷ []) in
    let shorter : length left ≡ suc (length after) = ap length next in
    omega arith

passes_some : (test : Group → Bool) (o : Option Group) → passes test o ≡ true → IsSome o
passes_some test None h = absurd (true≢false (sym h))
passes_some test (Some g) h = refl

pub all_open : (test : Group → Bool) (groups : List (ℕ × Group)) (numbers : BTreeSet ℕ) → ArePassing test groups numbers → AllOpen groups numbers
all_open test groups numbers pass n has = passes_some test (value_at groups n) (sym (pass n) ∙ has)

-- ---- what is open

pub are_open : (s : Settings) (calls : List Call) (t : Table) → Stands s calls t → IsStrictlySortedBy nat_cmp (map (λ (e : ℕ × Group). e.0) t.open_groups) → AreOpen s calls t.open_groups
are_open s calls t stands rising = record { rising = rising; each = stands.each }

pub as_many : (s : Settings) (calls : List Call) (t : Table) (n : ℕ) → Stands s calls t → IsStrictlySortedBy nat_cmp (map (λ (e : ℕ × Group). e.0) t.open_groups) → n ≡ length t.open_groups → AreAsMany s calls n
as_many s calls t n stands rising e = (t.open_groups, are_open s calls t stands rising, e)

pub shows_next : (s : Settings) (calls : List Call) (t : Table) (number : ℕ) (x : OpenGroup) (e : ℕ × Group) → Stands s calls t → IsNext t.open_groups number e → Shows x e → ShowsBehind s calls number (Some x)
shows_next s calls t number x e stands next shows = (
  (e.1.key, e.0, e.1, (stands.each e.0 e.1).0 next.0, next.1, shows),
  λ k n g at behind.
      subst (λ (m : ℕ). m ≤ n) (sym shows.number)
      (next.2 n g ((stands.each n g).1 (subst (λ (l : Key). open_at s calls l ≡ Some (n, g)) (open_key s calls k n g at) at)) behind),
)

pub shows_none : (s : Settings) (calls : List Call) (t : Table) (number : ℕ) → Stands s calls t → IsBeyond t.open_groups number → ShowsBehind s calls number None
shows_none s calls t number stands beyond = λ k n g at. beyond n g ((stands.each n g).1 (subst (λ (l : Key). open_at s calls l ≡ Some (n, g)) (open_key s calls k n g at) at))
