-- The calls that a journal gives a table of groups have the journal's groups.
use Rattle.std.proofs.Common.{suc, ◌≡◌, ℕ, ◌+◌, ◌≤◌, Bool, true, false, ◌==◌, ◌&&◌, cond, List, [], ◌∷◌, ◌++◌, length, Option, Some, None, option_map, bytes_eq, refl, sym, ap, subst, ◌∙◌, arith, eq-eqb, inl, inr, length-append}
use Rattle.std.specs.Prelude.{is_none}
use Rattle.std.specs.List.{find}
use Rattle.std.proofs.lemmas.Bool.{and_parts, cases_Bool, eqb-true}
use Rattle.std.proofs.lemmas.Slice.Eq.{bytes_eq-Decides}
use Rattle.eip_exchange.specs.declared.message.Message.{Message}
use Rattle.eip_frames.specs.declared.answer.Answer.{Answer as Reply}
use Rattle.eip_frames.specs.declared.answer.Answer.TheVariants as reply
use Rattle.eip_frames.specs.declared.answer.Completion.{Completion}
use Rattle.eip_frames.specs.declared.answer.Completion.TheVariants as by
use Rattle.eip_frames.specs.declared.request.Request.{Request}
use Rattle.eip_frames.specs.declared.request.Request.TheVariants as request
use Rattle.eip_frames.specs.Fits.{fits}
use Rattle.eip_ledger.specs.declared.entry.Entry.{Entry}
use Rattle.eip_ledger.specs.declared.entry.Kind.{Kind}
use Rattle.eip_ledger.specs.declared.entry.Kind.TheVariants.{Answer, Tick, Force}
use Rattle.eip_route.specs.declared.route.RouteSet.{RouteSet}
use Rattle.eip_route.specs.declared.step.Aggregate.{Aggregate}
use Rattle.eip_aggregator.specs.Arrivals as table
use Rattle.eip_aggregator.specs.Arrivals.{Key, Call, Came, Ticked, Forced, same_key, left_open, cause_of, parts_of, begun, next_begun, number_of, next_number, open_at, group_of}
use Rattle.eip_history.specs.Own.{Past}
use Rattle.eip_history.specs.Groups.{Arrival, Group, is_open, is_for, arrived, put_group, closed_by, is_due, is_forced, due_of, cause_at, last_at, after, is_at_most, message_of, greatest_hops, or_empty, folded}
use Rattle.eip_history.specs.Births.{Asked, story, groups, asked, arrival_of}
use Rattle.eip_history.specs.Rules.{KeepsRules, May}
use Rattle.eip_history.specs.TableWords.{is_arrival, moves_groups}
use Rattle.eip_history.proofs.GroupNumbers.{GroupsFrom, groups-numbered}
use Rattle.eip_history.proofs.GroupTable.{groups-same, groups-own, groups-closed, groups-tick, groups-force}
use Rattle.eip_history.proofs.Unborn.{legal-tail, legal-may}
use Rattle.eip_plan.specs.Plan.{plan_of, setting_of}
use Rattle.eip_tables.specs.Groups.{told, calls_for, calls_by, calls_in, group_calls, settings}
use Rattle.eip_table_laws.proofs.GroupLists.{OnlyOne, only-one, found-passes, left_by, found-closed, arrived_at, arrived-is, left_of, found-own, found-other, more_by, put-many, closed-many}
use Rattle.eip_table_laws.proofs.GroupParts.{told_parts, told-push, told-many, same-folded, same-cause, same-due, same-hops, same-or_empty, force-is}

-- the open group of a key
abbrev pub open_for : List Group → Key → Option Group
open_for gs k = find (is_for k.0 k.1) gs

-- its parts as the table is told of them
abbrev pub parts_in : RouteSet → Option Group → List table.Arrival
parts_in set None = []
parts_in set (Some g) = told_parts set g.parts

-- a group has a part, and has the number by which the table knows it
pub record IsKept (set : RouteSet) (calls : List Call) (k : Key) (g : Group) : Type 0 where
  pub first : Arrival
  pub rest : List Arrival
  pub filled : g.parts ≡ first ∷ rest
  pub number : number_of (settings set) calls k ≡ g.number

-- these calls have these groups
pub record Gathers (set : RouteSet) (gs : List Group) (calls : List Call) : Type 0 where
  pub many : begun (settings set) calls ≡ length gs
  pub parts : (k : Key) → parts_of (settings set) calls k ≡ parts_in set (open_for gs k)
  pub kept : (k : Key) (g : Group) → open_for gs k ≡ Some g → IsKept set calls k g

none-is : {A : Type 0} (o : Option A) → is_none o ≡ true → o ≡ None
none-is None h = refl
none-is (Some x) h = absurd (cc h)

-- an open group as the table has it
abbrev pub kept_group : RouteSet → Group → ℕ × table.Group
kept_group set g = (
  g.number,
  record {
    key = (g.aggregator, g.key);
    message = message_of (plan_of set) g;
    count = length g.parts;
    hops = greatest_hops g.parts;
    due = due_of (plan_of set) g;
    force = ((plan_of set).group g.aggregator).force;
  },
)

-- ---- an arrival

pushed : {A : Type 0} (xs : List A) (x : A) → (y : A) × (ys : List A) × (xs ++ x ∷ [] ≡ y ∷ ys)
pushed [] x = (x, [], refl)
pushed (y ∷ ys) x = (y, ys ++ x ∷ [], refl)

-- the group of an arrival has the arrival behind the parts that were there
arrived-parts : (set : RouteSet) (n a : ℕ) (key : List ℕ) (p : Arrival) (o : Option Group) → told_parts set (arrived_at n a key p o).parts ≡ told set p ∷ parts_in set o
arrived-parts set n a key p None = refl
arrived-parts set n a key p (Some g) = told-push set g.parts p

arrived-filled : (n a : ℕ) (key : List ℕ) (p : Arrival) (o : Option Group) → (y : Arrival) × (ys : List Arrival) × ((arrived_at n a key p o).parts ≡ y ∷ ys)
arrived-filled n a key p None = (p, [], refl)
arrived-filled n a key p (Some g) = pushed g.parts p

-- the open group of an aggregator and key is theirs
pub found-key : (a : ℕ) (key : List ℕ) (gs : List Group) (g : Group) → find (is_for a key) gs ≡ Some g → (is_open g ≡ true) × (g.aggregator ≡ a) × (g.key ≡ key)
found-key a key gs g h =
    let its = and_parts (is_open g) ((g.aggregator == a) && bytes_eq g.key key) (found-passes (is_for a key) gs g h) in
    let both = and_parts (g.aggregator == a) (bytes_eq g.key key) its.1 in
    (its.0, eqb-true g.aggregator a both.0, (bytes_eq-Decides g.key key).0 both.1)

-- and stands for the same aggregator and key
arrived-of : (n a : ℕ) (key : List ℕ) (p : Arrival) (gs : List Group) (o : Option Group) → find (is_for a key) gs ≡ o → ((arrived_at n a key p o).aggregator ≡ a) × ((arrived_at n a key p o).key ≡ key)
arrived-of n a key p gs None h = (refl, refl)
arrived-of n a key p gs (Some g) h = let of = found-key a key gs g h in (of.1, of.2)

left-parts : (set : RouteSet) (c : Option Completion) (g : Group) → parts_in set (left_of c (record g { closed = c })) ≡ left_open c (told_parts set g.parts)
left-parts set None g = refl
left-parts set (Some c) g = refl

begun-by : (set : RouteSet) (gs : List Group) (calls : List Call) (o : Option Group) (k : Key) (n : ℕ) → ((g : Group) → o ≡ Some g → IsKept set calls k g) → next_begun (parts_in set o) n ≡ n + more_by o
begun-by set gs calls None k n kept = refl
begun-by set gs calls (Some g) k n kept =
    let h = kept g refl in
    by_parts (told_parts set g.parts) (told-many set g.parts ∙ ap (λ (ps : List Arrival). length ps) h.filled)
  where
    by_parts : (ps : List table.Arrival) {m : ℕ} → length ps ≡ suc m → next_begun ps n ≡ n + 0
    by_parts [] h = absurd (omega (arith, h))
    by_parts (p ∷ ps) h = omega arith

number-by : (set : RouteSet) (calls : List Call) (k : Key) (a : ℕ) (key : List ℕ) (p : Arrival) (n : ℕ) (o : Option Group) → ((g : Group) → o ≡ Some g → IsKept set calls k g)
    → next_number (parts_in set o) (number_of (settings set) calls k) n ≡ (arrived_at (n + 1) a key p o).number
number-by set calls k a key p n None kept = refl
number-by set calls k a key p n (Some g) kept =
    let h = kept g refl in
    by_parts (told_parts set g.parts) (told-many set g.parts ∙ ap (λ (ps : List Arrival). length ps) h.filled) h.number
  where
    by_parts : (ps : List table.Arrival) {m : ℕ} → length ps ≡ suc m → number_of (settings set) calls k ≡ g.number → next_number ps (number_of (settings set) calls k) n ≡ g.number
    by_parts [] h e = absurd (omega (arith, h))
    by_parts (q ∷ qs) h e = e

message-told : (set : RouteSet) (a : ℕ) (key : List ℕ) (g : Group) → g.aggregator ≡ a → g.key ≡ key → table.or_empty (table.message_of (setting_of set a) key (told_parts set g.parts)) ≡ message_of (plan_of set) g
message-told set a key g is of =
    same-or_empty (table.message_of (setting_of set a) key (told_parts set g.parts))
    ∙ (ap or_empty (same-folded set a key g.parts)
    ∙ (ap (λ (b : ℕ). or_empty (folded ((plan_of set).group b) key 0 None g.parts)) (sym is) ∙ ap (λ (l : List ℕ). or_empty (folded ((plan_of set).group g.aggregator) l 0 None g.parts)) (sym of)))

arrived-open : (n a : ℕ) (key : List ℕ) (p : Arrival) (gs : List Group) (o : Option Group) → find (is_for a key) gs ≡ o → (arrived_at n a key p o).closed ≡ None
arrived-open n a key p gs None h = refl
arrived-open n a key p gs (Some g) h = none-is g.closed (found-key a key gs g h).0

open-key : (a b : ℕ) (key l : List ℕ) → (a == b) && bytes_eq key l ≡ true → (a ≡ b) × (key ≡ l)
open-key a b key l h = let both = and_parts (a == b) (bytes_eq key l) h in (eqb-true a b both.0, (bytes_eq-Decides key l).0 both.1)

module _ (set : RouteSet) (gs : List Group) (calls : List Call) (ns : GroupsFrom 1 gs) (a : ℕ) (key : List ℕ) (one : OnlyOne a key gs) (st : Gathers set gs calls) (p : Arrival) where
  abbrev pub its_group : Group
  its_group = arrived 1 gs a key p

  is-arrived : arrived 1 gs a key p ≡ arrived_at (length gs + 1) a key p (open_for gs (a, key))
  is-arrived = arrived-is 1 gs a key p ∙ ap (λ (n : ℕ). arrived_at n a key p (open_for gs (a, key))) (omega arith)

  -- its parts
  pub its-parts : told_parts set (arrived 1 gs a key p).parts ≡ told set p ∷ parts_of (settings set) calls (a, key)
  its-parts =
      ap (λ (g : Group). told_parts set g.parts) is-arrived
      ∙ (arrived-parts set (length gs + 1) a key p (open_for gs (a, key)) ∙ ap (λ (ps : List table.Arrival). told set p ∷ ps) (sym (st.parts (a, key))))

  pub its-own : ((arrived 1 gs a key p).aggregator ≡ a) × ((arrived 1 gs a key p).key ≡ key)
  its-own = rw is-arrived (arrived-of (length gs + 1) a key p gs (open_for gs (a, key)) refl)

  -- its number, as the table gives it
  pub its-number : next_number (parts_of (settings set) calls (a, key)) (number_of (settings set) calls (a, key)) (begun (settings set) calls) ≡ (arrived 1 gs a key p).number
  its-number =
      ap (λ (ps : List table.Arrival). next_number ps (number_of (settings set) calls (a, key)) (begun (settings set) calls)) (st.parts (a, key))
      ∙ (ap (next_number (parts_in set (open_for gs (a, key))) (number_of (settings set) calls (a, key))) st.many
      ∙ (number-by set calls (a, key) a key p (length gs) (open_for gs (a, key)) (λ g h. st.kept (a, key) g h)
      ∙ ap (λ (g : Group). g.number) (sym is-arrived)))

  its-filled : (y : Arrival) × (ys : List Arrival) × ((arrived 1 gs a key p).parts ≡ y ∷ ys)
  its-filled = rw is-arrived (arrived-filled (length gs + 1) a key p (open_for gs (a, key)))

  pub still-open : (arrived 1 gs a key p).closed ≡ None
  still-open = ap (λ (g : Group). g.closed) is-arrived ∙ arrived-open (length gs + 1) a key p gs (open_for gs (a, key)) refl

  -- its message
  pub its-message : table.or_empty (table.message_of (setting_of set a) key (told set p ∷ parts_of (settings set) calls (a, key))) ≡ message_of (plan_of set) (arrived 1 gs a key p)
  its-message = ap (λ (ps : List table.Arrival). table.or_empty (table.message_of (setting_of set a) key ps)) (sym its-parts) ∙ message-told set a key (arrived 1 gs a key p) its-own.0 its-own.1

  pub its-count : length (told set p ∷ parts_of (settings set) calls (a, key)) ≡ length (arrived 1 gs a key p).parts
  its-count = ap (λ (ps : List table.Arrival). length ps) (sym its-parts) ∙ told-many set (arrived 1 gs a key p).parts

  -- what closes it
  pub its-cause : cause_of (setting_of set a) key (told set p) (parts_of (settings set) calls (a, key)) ≡ cause_at (plan_of set) (arrived 1 gs a key p) p
  its-cause =
      ap (λ (m : Message). table.cause_at (setting_of set a) m (length (told set p ∷ parts_of (settings set) calls (a, key))) p.number (told set p).route) its-message
      ∙ (ap (λ (n : ℕ). table.cause_at (setting_of set a) (message_of (plan_of set) (arrived 1 gs a key p)) n p.number (told set p).route) its-count
      ∙ same-cause set a key (arrived 1 gs a key p) p its-own.0)

  module _ (c : Option Completion) (caused : cause_at (plan_of set) (arrived 1 gs a key p) p ≡ c) where
    abbrev grouped : List Group
    grouped = put_group (record (arrived 1 gs a key p) { closed = c }) gs

    parts-own : left_open (cause_of (setting_of set a) key (told set p) (parts_of (settings set) calls (a, key))) (told set p ∷ parts_of (settings set) calls (a, key)) ≡ parts_in set (open_for grouped (a, key))
    parts-own =
        ap (λ (o : Option Completion). left_open o (told set p ∷ parts_of (settings set) calls (a, key))) (its-cause ∙ caused)
        ∙ (ap (left_open c) (sym its-parts)
        ∙ (sym (left-parts set c (arrived 1 gs a key p)) ∙ ap (parts_in set) (sym (found-own 1 gs a key p c ns one))))

    parts-now : (b : ℕ) (l : List ℕ) (v : Bool) → same_key (a, key) (b, l) ≡ v
        → cond v (left_open (cause_of (setting_of set b) l (told set p) (parts_of (settings set) calls (b, l))) (told set p ∷ parts_of (settings set) calls (b, l))) (parts_of (settings set) calls (b, l)) ≡ parts_in set (open_for grouped (b, l))
    parts-now b l true h =
        let same = open-key a b key l h in
        subst (λ (d : ℕ). left_open (cause_of (setting_of set d) l (told set p) (parts_of (settings set) calls (d, l))) (told set p ∷ parts_of (settings set) calls (d, l)) ≡ parts_in set (open_for grouped (d, l))) same.0
        (subst (λ (m : List ℕ). left_open (cause_of (setting_of set a) m (told set p) (parts_of (settings set) calls (a, m))) (told set p ∷ parts_of (settings set) calls (a, m)) ≡ parts_in set (open_for grouped (a, m))) same.1 parts-own)
    parts-now b l false h = st.parts (b, l) ∙ ap (parts_in set) (sym (found-other 1 gs a b key l p c ns h))

    number-own : number_of (settings set) (Came (a, key) (told set p) ∷ calls) (a, key) ≡ (arrived 1 gs a key p).number
    number-own = rw (eq-eqb a a refl, (bytes_eq-Decides key key).1 refl) its-number

    kept-own : (o : Option Completion) (g : Group) → left_of o (record (arrived 1 gs a key p) { closed = o }) ≡ Some g → IsKept set (Came (a, key) (told set p) ∷ calls) (a, key) g
    kept-own None g h =
        let same : record (arrived 1 gs a key p) { closed = None } ≡ g = cc in
        record {
          first = its-filled.0;
          rest = its-filled.1;
          filled = ap (λ (d : Group). d.parts) (sym same) ∙ its-filled.2;
          number = number-own ∙ ap (λ (d : Group). d.number) same;
        }
    kept-own (Some d) g h = absurd (cc h)

    kept-now : (b : ℕ) (l : List ℕ) (g : Group) (v : Bool) → same_key (a, key) (b, l) ≡ v → open_for grouped (b, l) ≡ Some g → IsKept set (Came (a, key) (told set p) ∷ calls) (b, l) g
    kept-now b l g true h at =
        let same = open-key a b key l h in
        let there : open_for grouped (a, key) ≡ Some g = subst (λ (d : ℕ). open_for grouped (d, key) ≡ Some g) (sym same.0) (subst (λ (m : List ℕ). open_for grouped (b, m) ≡ Some g) (sym same.1) at) in
        subst (λ (d : ℕ). IsKept set (Came (a, key) (told set p) ∷ calls) (d, l) g) same.0
        (subst (λ (m : List ℕ). IsKept set (Came (a, key) (told set p) ∷ calls) (a, m) g) same.1 (kept-own c g (sym (found-own 1 gs a key p c ns one) ∙ there)))
    kept-now b l g false h at =
        let k = st.kept (b, l) g (sym (found-other 1 gs a b key l p c ns h) ∙ at) in
        record { first = k.first; rest = k.rest; filled = k.filled; number = rw h k.number }

    pub gathers-came : Gathers set (put_group (record (arrived 1 gs a key p) { closed = c }) gs) (Came (a, key) (told set p) ∷ calls)
    gathers-came = record {
      many =
          ap (λ (ps : List table.Arrival). next_begun ps (begun (settings set) calls)) (st.parts (a, key))
          ∙ (ap (next_begun (parts_in set (open_for gs (a, key)))) st.many
          ∙ (begun-by set gs calls (open_for gs (a, key)) (a, key) (length gs) (λ g h. st.kept (a, key) g h) ∙ sym (put-many 1 gs a key p c ns)));
      parts = λ k. parts-now k.0 k.1 (same_key (a, key) k) refl;
      kept = λ k g at. kept-now k.0 k.1 g (same_key (a, key) k) refl at;
    }

-- ---- groups that close together

module _ (set : RouteSet) (gs : List Group) (calls : List Call) (one : (a : ℕ) (key : List ℕ) → OnlyOne a key gs) (st : Gathers set gs calls) where
  left-some : (test : Group → Bool) (o : Option Group) (g : Group) → left_by test o ≡ Some g → o ≡ Some g
  left-some test None g h = absurd (cc h)
  left-some test (Some d) g h = by_test (test d) h
    where
      by_test : (v : Bool) → cond v None (Some d) ≡ Some g → Some d ≡ Some g
      by_test true e = absurd (cc e)
      by_test false e = e

  left-told : (test : Group → Bool) (g : Group) → cond (test g) [] (told_parts set g.parts) ≡ parts_in set (left_by test (Some g))
  left-told test g = elim (test g) as (λ v. cond v [] (told_parts set g.parts) ≡ parts_in set (cond v None (Some g))) [ true ↦ refl | false ↦ refl ]

  parts-left : (test : Group → Bool) (k : Key) (v : List table.Arrival → Bool) → v [] ≡ false → ((g : Group) → open_for gs k ≡ Some g → v (told_parts set g.parts) ≡ test g) → (o : Option Group) → open_for gs k ≡ o
      → cond (v (parts_in set o)) [] (parts_in set o) ≡ parts_in set (left_by test o)
  parts-left test k v none some None h = rw none refl
  parts-left test k v none some (Some g) h = rw (some g h) (left-told test g)

  same-most : (o : Option ℕ) (t : ℕ) → table.is_at_most o t ≡ is_at_most o t
  same-most None t = refl
  same-most (Some d) t = refl

  found-of : (k : Key) (g : Group) → open_for gs k ≡ Some g → (is_open g ≡ true) × (g.aggregator ≡ k.0) × (g.key ≡ k.1)
  found-of k g h = found-key k.0 k.1 gs g h

  pub due-told : (k : Key) (g : Group) → open_for gs k ≡ Some g → table.due_of (setting_of set k.0) (told_parts set g.parts) ≡ due_of (plan_of set) g
  due-told k g h =
      let of = found-of k g h in
      let kept = st.kept k g h in
      ap (λ (ps : List Arrival). table.due_of (setting_of set k.0) (told_parts set ps)) kept.filled
      ∙ (same-due set k.0 k.1 kept.first kept.rest
      ∙ (ap (λ (ps : List Arrival). after (last_at ps) ((plan_of set).group k.0).timeout) (sym kept.filled)
      ∙ (ap (λ (b : ℕ). after (last_at g.parts) ((plan_of set).group b).timeout) (sym of.1)
      ∙ ap (λ (v : Bool). cond v (after (last_at g.parts) ((plan_of set).group g.aggregator).timeout) None) (sym of.0))))

  closed-kept : (c : Completion) (test : Group → Bool) (k : Key) (g : Group) → open_for (closed_by c test gs) k ≡ Some g → IsKept set calls k g
  closed-kept c test k g h = st.kept k g (left-some test (open_for gs k) g (sym (found-closed c test k.0 k.1 gs (one k.0 k.1)) ∙ h))

  pub gathers-ticked : (t : ℕ) → Gathers set (closed_by by.Timeout (is_due (plan_of set) t) gs) (Ticked t ∷ calls)
  gathers-ticked t = record {
    many = st.many ∙ sym (closed-many by.Timeout (is_due (plan_of set) t) gs);
    parts = λ k.
        ap (λ (ps : List table.Arrival). cond (table.is_at_most (table.due_of (setting_of set k.0) ps) t) [] ps) (st.parts k)
        ∙ (parts-left (is_due (plan_of set) t) k (λ (ps : List table.Arrival). table.is_at_most (table.due_of (setting_of set k.0) ps) t) refl
        (λ g h. ap (λ (o : Option ℕ). table.is_at_most o t) (due-told k g h) ∙ same-most (due_of (plan_of set) g) t) (open_for gs k) refl
        ∙ ap (parts_in set) (sym (found-closed by.Timeout (is_due (plan_of set) t) k.0 k.1 gs (one k.0 k.1))));
    kept = λ k g h. let was = closed-kept by.Timeout (is_due (plan_of set) t) k g h in record { first = was.first; rest = was.rest; filled = was.filled; number = was.number };
  }

  force-told : (k : Key) (g : Group) → open_for gs k ≡ Some g → (setting_of set k.0).force ≡ is_forced (plan_of set) g
  force-told k g h =
      let of = found-of k g h in
      force-is set k.0 k.1
      ∙ (ap (λ (b : ℕ). ((plan_of set).group b).force) (sym of.1) ∙ ap (λ (v : Bool). v && ((plan_of set).group g.aggregator).force) (sym of.0))

  forced-by : (k : Key) (o : Option Group) → open_for gs k ≡ o → cond (setting_of set k.0).force [] (parts_in set o) ≡ parts_in set (left_by (is_forced (plan_of set)) o)
  forced-by k None h = elim (setting_of set k.0).force as (λ v. cond v [] (parts_in set None) ≡ []) [ true ↦ refl | false ↦ refl ]
  forced-by k (Some g) h = rw (force-told k g h) (left-told (is_forced (plan_of set)) g)

  pub gathers-forced : Gathers set (closed_by by.Force (is_forced (plan_of set)) gs) (Forced ∷ calls)
  gathers-forced = record {
    many = st.many ∙ sym (closed-many by.Force (is_forced (plan_of set)) gs);
    parts = λ k.
        ap (λ (ps : List table.Arrival). cond (setting_of set k.0).force [] ps) (st.parts k)
        ∙ (forced-by k (open_for gs k) refl ∙ ap (parts_in set) (sym (found-closed by.Force (is_forced (plan_of set)) k.0 k.1 gs (one k.0 k.1))));
    kept = λ k g h. let was = closed-kept by.Force (is_forced (plan_of set)) k g h in record { first = was.first; rest = was.rest; filled = was.filled; number = was.number };
  }

  -- ---- the open group of a key

  some-numbered : (a : Aggregate) (k : Key) (n m : ℕ) (ps : List table.Arrival) → length ps ≡ suc m → table.numbered a k n ps ≡ Some (n, group_of a k ps)
  some-numbered a k n m [] h = absurd (omega (arith, h))
  some-numbered a k n m (p ∷ ps) h = refl

  group-is : (k : Key) (g : Group) → open_for gs k ≡ Some g → group_of (setting_of set k.0) k (told_parts set g.parts) ≡ (kept_group set g).1
  group-is k g h =
      let of = found-of k g h in
      let m = message-told set k.0 k.1 g of.1 of.2 in
      let n = told-many set g.parts in
      let u = same-hops set g.parts in
      let d = due-told k g h in
      let f : (setting_of set k.0).force ≡ ((plan_of set).group g.aggregator).force = force-is set k.0 k.1 ∙ ap (λ (b : ℕ). ((plan_of set).group b).force) (sym of.1) in
      rw (m, n, u, d, f) (ap (λ (b : ℕ). record { key = (b, k.1); message = message_of (plan_of set) g; count = length g.parts; hops = greatest_hops g.parts; due = due_of (plan_of set) g; force = ((plan_of set).group g.aggregator).force }) (sym of.1)
      ∙ ap (λ (l : List ℕ). record { key = (g.aggregator, l); message = message_of (plan_of set) g; count = length g.parts; hops = greatest_hops g.parts; due = due_of (plan_of set) g; force = ((plan_of set).group g.aggregator).force }) (sym of.2))

  pub open-is : (k : Key) → open_at (settings set) calls k ≡ option_map (kept_group set) (open_for gs k)
  open-is k = ap (table.numbered (setting_of set k.0) k (number_of (settings set) calls k)) (st.parts k) ∙ by_group (open_for gs k) refl
    where
      by_group : (o : Option Group) → open_for gs k ≡ o → table.numbered (setting_of set k.0) k (number_of (settings set) calls k) (parts_in set o) ≡ option_map (kept_group set) o
      by_group None h = refl
      by_group (Some g) h =
          let kept = st.kept k g h in
          some-numbered (setting_of set k.0) k (number_of (settings set) calls k) (length kept.rest) (told_parts set g.parts) (told-many set g.parts ∙ ap (λ (ps : List Arrival). length ps) kept.filled)
          ∙ (ap (λ (n : ℕ). Some (n, group_of (setting_of set k.0) k (told_parts set g.parts))) kept.number ∙ ap (λ (d : table.Group). Some (g.number, d)) (group-is k g h))

-- ---- by the entries of a journal

no-call-for : (set : RouteSet) (past : Past) (k : Asked) (q : Request) (a : Reply) → is_arrival a ≡ false → calls_for set past k q a ≡ []
no-call-for set past k (request.Arrive b key m) (reply.Arrived n) h = absurd (cc h)
no-call-for set past k (request.Arrive b key m) (reply.Closed g c n) h = absurd (cc h)
no-call-for set past k _ _ h = refl

no-call-by : (set : RouteSet) (past : Past) (o : Option Asked) (a : Reply) → is_arrival a ≡ false → calls_by set past o a ≡ []
no-call-by set past None a h = refl
no-call-by set past (Some k) a h = no-call-for set past k k.request a h

pub calls-more : (set : RouteSet) (e : Entry) (past : Past) → group_calls set (e ∷ past) ≡ calls_in set past e.kind ++ group_calls set past
unfolding group_calls
calls-more set e past = refl

-- each entry is one call at most
one-for : (set : RouteSet) (past : Past) (k : Asked) (q : Request) (a : Reply) → length (calls_for set past k q a) ≤ 1
one-for set past k (request.Arrive b key m) (reply.Arrived n) = omega arith
one-for set past k (request.Arrive b key m) (reply.Closed g c n) = omega arith
one-for set past k _ _ = omega arith

one-by : (set : RouteSet) (past : Past) (o : Option Asked) (a : Reply) → length (calls_by set past o a) ≤ 1
one-by set past None a = omega arith
one-by set past (Some k) a = one-for set past k k.request a

one-in : (set : RouteSet) (past : Past) (k : Kind) → length (calls_in set past k) ≤ 1
one-in set past (Answer x a) = one-by set past (asked (plan_of set) past x) a
one-in set past (Tick t) = omega arith
one-in set past Force = omega arith
one-in set past _ = omega arith

pub calls-few : (set : RouteSet) (past : Past) → length (group_calls set past) ≤ length past
unfolding group_calls
calls-few set [] = omega arith
calls-few set (e ∷ past) = let ih = calls-few set past in let one = one-in set past e.kind in let many = length-append (calls_in set past e.kind) (group_calls set past) in omega (arith, ih, one, many)

-- an entry by which no group grows or closes is no call
pub calls-same : (set : RouteSet) (w : ℕ) (k : Kind) (past : Past) → moves_groups k ≡ false → group_calls set ((record { worker = w; kind = k }) ∷ past) ≡ group_calls set past
calls-same set w k past h = calls-more set (record { worker = w; kind = k }) past ∙ ap (λ (cs : List Call). cs ++ group_calls set past) (by_kind k h)
  where
    by_kind : (k : Kind) → moves_groups k ≡ false → calls_in set past k ≡ []
    by_kind (Answer x a) h = no-call-by set past (asked (plan_of set) past x) a h
    by_kind (Tick t) h = absurd (cc h)
    by_kind Force h = absurd (cc h)
    by_kind _ h = refl

module _ (set : RouteSet) (past : Past) (x : ℕ) (k : Asked) (a : ℕ) (key : List ℕ) (m : Message) (at : asked (plan_of set) past x ≡ Some k) (is : k.request ≡ request.Arrive a key m) where
  pub calls-arrived : (w n : ℕ) → group_calls set ((record { worker = w; kind = Answer x (reply.Arrived n) }) ∷ past) ≡ Came (a, key) (told set (arrival_of past k m)) ∷ group_calls set past
  calls-arrived w n =
      calls-more set (record { worker = w; kind = Answer x (reply.Arrived n) }) past
      ∙ (ap (λ (o : Option Asked). calls_by set past o (reply.Arrived n) ++ group_calls set past) at ∙ ap (λ (q : Request). calls_for set past k q (reply.Arrived n) ++ group_calls set past) is)

  pub calls-shut : (w g n : ℕ) (c : Completion) → group_calls set ((record { worker = w; kind = Answer x (reply.Closed g c n) }) ∷ past) ≡ Came (a, key) (told set (arrival_of past k m)) ∷ group_calls set past
  calls-shut w g n c =
      calls-more set (record { worker = w; kind = Answer x (reply.Closed g c n) }) past
      ∙ (ap (λ (o : Option Asked). calls_by set past o (reply.Closed g c n) ++ group_calls set past) at ∙ ap (λ (q : Request). calls_for set past k q (reply.Closed g c n) ++ group_calls set past) is)

-- what such an answer fits
pub arrives : (q : Request) (a : Reply) → is_arrival a ≡ true → fits q a ≡ true → (b : ℕ) × (key : List ℕ) × (m : Message) × (q ≡ request.Arrive b key m)
arrives (request.Arrive b key m) a i h = (b, key, m, refl)
arrives q (reply.Arrived n) i h = absurd (cc h)
arrives q (reply.Closed g c n) i h = absurd (cc h)
arrives q _ i h = absurd (cc i)

gathers-same : (set : RouteSet) (w : ℕ) (k : Kind) (past : Past) → moves_groups k ≡ false → Gathers set (groups (plan_of set) past) (group_calls set past)
    → Gathers set (groups (plan_of set) ((record { worker = w; kind = k }) ∷ past)) (group_calls set ((record { worker = w; kind = k }) ∷ past))
gathers-same set w k past h st = rw (groups-same (plan_of set) w k past h, calls-same set w k past h) st

-- the calls that a journal gives have its groups
pub gathers : (set : RouteSet) (workers limit : ℕ) (past : Past) → KeepsRules (plan_of set) workers limit past → Gathers set (groups (plan_of set) past) (group_calls set past)
unfolding story group_calls
gathers set workers limit [] legal = record { many = refl; parts = λ k. refl; kept = λ k g h. absurd (cc h) }
gathers set workers limit (e ∷ past) legal =
    let s = plan_of set in
    let st = gathers set workers limit past (legal-tail s workers limit e past legal) in
    elim (cases_Bool (moves_groups e.kind)) [
      | inl t ↦ by_kind e.kind t (legal-may s workers limit e past legal) st
      | inr f ↦ gathers-same set e.worker e.kind past f st
    ]
  where
    by_kind : (k : Kind) → moves_groups k ≡ true → May (plan_of set) limit past e.worker k → Gathers set (groups (plan_of set) past) (group_calls set past)
        → Gathers set (groups (plan_of set) ((record { worker = e.worker; kind = k }) ∷ past)) (group_calls set ((record { worker = e.worker; kind = k }) ∷ past))
    by_kind (Answer x (reply.Arrived n)) h may st =
        let q = arrives may.asks.request (reply.Arrived n) refl may.fitting in
        let p = arrival_of past may.asks q.2 in
        let content = rw q.3 at may.content in
        let ns = groups-numbered (plan_of set) past in
        let one = only-one (plan_of set) past q.0 q.1 in
        let still = still-open set (groups (plan_of set) past) (group_calls set past) ns q.0 q.1 one st p in
        let came = gathers-came set (groups (plan_of set) past) (group_calls set past) ns q.0 q.1 one st p None content.2 in
        let same : record (arrived 1 (groups (plan_of set) past) q.0 q.1 p) { closed = None } ≡ arrived 1 (groups (plan_of set) past) q.0 q.1 p =
        ap (λ (o : Option Completion). record (arrived 1 (groups (plan_of set) past) q.0 q.1 p) { closed = o }) (sym still) in
        rw (groups-own (plan_of set) e.worker x n past may.asks q.0 q.1 q.2 may.asked_is q.3, calls-arrived set past x may.asks q.0 q.1 q.2 may.asked_is q.3 e.worker n)
        (subst (λ (g : Group). Gathers set (put_group g (groups (plan_of set) past)) (Came (q.0, q.1) (told set p) ∷ group_calls set past)) same came)
    by_kind (Answer x (reply.Closed g c n)) h may st =
        let q = arrives may.asks.request (reply.Closed g c n) refl may.fitting in
        let p = arrival_of past may.asks q.2 in
        let content = rw q.3 at may.content in
        rw (groups-closed (plan_of set) e.worker x g n c past may.asks q.0 q.1 q.2 may.asked_is q.3, calls-shut set past x may.asks q.0 q.1 q.2 may.asked_is q.3 e.worker g n c)
        (gathers-came set (groups (plan_of set) past) (group_calls set past) (groups-numbered (plan_of set) past) q.0 q.1 (only-one (plan_of set) past q.0 q.1) st p (Some c) content.2)
    by_kind (Tick t) h may st =
        rw (groups-tick (plan_of set) e.worker t past, calls-more set (record { worker = e.worker; kind = Tick t }) past) (gathers-ticked set (groups (plan_of set) past) (group_calls set past) (λ a key. only-one (plan_of set) past a key) st t)
    by_kind Force h may st =
        rw (groups-force (plan_of set) e.worker past, calls-more set (record { worker = e.worker; kind = Force }) past) (gathers-forced set (groups (plan_of set) past) (group_calls set past) (λ a key. only-one (plan_of set) past a key) st)
    by_kind (Answer x _) h may st = absurd (cc h)
    by_kind _ h may st = absurd (cc h)
