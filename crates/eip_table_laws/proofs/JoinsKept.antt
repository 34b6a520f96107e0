-- What the entries of a journal make of the table of joins.
use Rattle.std.proofs.Common.{◌≡◌, ◌≢◌, ℕ, zero, suc, ◌+◌, ◌<◌, ◌≤◌, Bool, true, false, ◌&&◌, ◌==◌, nat_le, nat_lt, cond, List, [], ◌∷◌, length, Option, Some, None, is_some, option_map, inl, inr, refl, sym, ap, subst, ◌∙◌, arith, eq-eqb}
use Rattle.std.proofs.lemmas.Bool.{cases_Bool, eqb-true, ne_eqb, lt-ltb, leb-true, le-leb}
use Rattle.eip_exchange.specs.declared.birth.Birth.{Birth}
use Rattle.eip_exchange.specs.declared.end.Ended.{Ended as Finished}
use Rattle.eip_route.specs.declared.route.RouteSet.{RouteSet}
use Rattle.eip_frames.specs.declared.answer.Answer.{Answer as Reply}
use Rattle.eip_frames.specs.declared.answer.Answer.TheVariants as reply
use Rattle.eip_ledger.specs.declared.entry.Entry.{Entry}
use Rattle.eip_ledger.specs.declared.entry.Kind.{Kind}
use Rattle.eip_ledger.specs.declared.entry.Kind.TheVariants.{Answer, Starve}
use Rattle.eip_join.specs.Parts as join
use Rattle.eip_join.specs.Parts.{Call, Began, PartEnded, Took, Open, IsPart, IsFree, AreNew, IsOpenPart, IsComplete, is_between, is_ready, ends_at, ends_from, all_of, join_over, join_of, complete}
use Rattle.eip_history.specs.Plan.{Plan}
use Rattle.eip_history.specs.Own.{Past, own, concerns, answer_in, is_starve, last_answer, numbered}
use Rattle.eip_history.specs.Births.{births}
use Rattle.eip_history.specs.Place as place_of_all
use Rattle.eip_history.specs.Place.{ended, end_at, joined, all_ended}
use Rattle.eip_history.specs.Rules.{KeepsRules, next}
use Rattle.eip_history.specs.TableWords.{unless_ended, born_by, born_last, open_parts, moves_joins}
use Rattle.eip_history.proofs.Unborn.{legal-tail, numbered-within, own-none}
use Rattle.eip_history.proofs.Parts.{AreParts, parts-of}
use Rattle.eip_history.proofs.Places.{ended-other}
use Rattle.eip_history.proofs.Final.{ended-keeps}
use Rattle.eip_history.proofs.Moves.{ends-nobody}
use Rattle.eip_history.proofs.Acting.{ended-beside}
use Rattle.eip_history.proofs.JoinTable.{parts-same, parts-own, parts-stay}
use Rattle.eip_history.proofs.Limit.{not-same}
use Rattle.eip_plan.specs.Plan.{plan_of}
use Rattle.eip_plan.proofs.Laws.{plan-laws}
use Rattle.eip_tables.specs.Joins.{JoinsStand}
use Rattle.eip_table_laws.proofs.PartFacts.{unless-none}

-- ---- an open join

abbrev first_in : Option (ℕ × ℕ) → ℕ
first_in (Some p) = p.0
first_in None = 0

abbrev count_in : Option (ℕ × ℕ) → ℕ
count_in (Some p) = p.1
count_in None = 0

pub record IsOpenFor (s : Plan) (past : Past) (p first count : ℕ) : Type 0 where
  pub last : last_answer (own p past) ≡ Some (reply.Born first count)
  pub lives : ended s past p ≡ None

-- an exchange with an open join has parts by its last answer, and lives
pub open-for : (s : Plan) (past : Past) (p first count : ℕ) → open_parts s past p ≡ Some (first, count) → IsOpenFor s past p first count
unfolding open_parts
open-for s past p first count h = by_both (ended s past p) (last_answer (own p past)) refl refl h
  where
    by_both : (o : Option Finished) (a : Option Reply) → ended s past p ≡ o → last_answer (own p past) ≡ a → unless_ended o (born_last a) ≡ Some (first, count) → IsOpenFor s past p first count
    by_both None (Some (reply.Born f c)) e l g =
        let f_is : f ≡ first = ap first_in g in
        let c_is : c ≡ count = ap count_in g in
        record { last = l ∙ (ap (λ (n : ℕ). Some (reply.Born n c)) f_is ∙ ap (λ (n : ℕ). Some (reply.Born first n)) c_is); lives = e }
    by_both None (Some _) e l g = absurd (cc g)
    by_both None None e l g = absurd (cc g)
    by_both (Some f) a e l g = absurd (cc g)

pub opens : (s : Plan) (past : Past) (p first count : ℕ) → last_answer (own p past) ≡ Some (reply.Born first count) → ended s past p ≡ None → open_parts s past p ≡ Some (first, count)
unfolding open_parts
opens s past p first count last lives = rw (last, lives) refl

-- who has ended has none
pub closed-end : (s : Plan) (past : Past) (p : ℕ) → is_some (ended s past p) ≡ true → open_parts s past p ≡ None
unfolding open_parts
closed-end s past p h = by_end (ended s past p) h
  where
    by_end : (o : Option Finished) → is_some o ≡ true → unless_ended o (born_last (last_answer (own p past))) ≡ None
    by_end (Some f) g = refl
    by_end None g = absurd (cc g)

pub awaits : (s : Plan) (w limit : ℕ) (past : Past) (p first count : ℕ) → KeepsRules s w limit past → open_parts s past p ≡ Some (first, count) → AreParts s past p first count
awaits s w limit past p first count legal h = parts-of s w limit past p first count legal (open-for s past p first count h).last

-- a number that is not born has not ended
pub unborn-lives : (s : Plan) (past : Past) (x : ℕ) → length (births s past) < x → ended s past x ≡ None
unfolding ended
unborn-lives s past x l = ap (end_at s past) (none (births s past) x l)
  where
    none : (bs : List Birth) (x : ℕ) → length bs < x → numbered bs x ≡ None
    none bs zero l = absurd (omega (arith, l))
    none [] (suc i) l = refl
    none (b ∷ bs) (suc zero) l = absurd (omega (arith, l))
    none (b ∷ bs) (suc (suc i)) l = none bs (suc i) (omega (arith, l))

-- who lives behind an entry has lived before it
pub lived : (s : Plan) (w limit : ℕ) (e : Entry) (past : Past) (x : ℕ) → KeepsRules s w limit (e ∷ past) → ended s (e ∷ past) x ≡ None → ended s past x ≡ None
lived s w limit e past x legal h = by_end (ended s past x) refl
  where
    by_end : (o : Option Finished) → ended s past x ≡ o → ended s past x ≡ None
    by_end None g = g
    by_end (Some f) g = absurd (let k = ended-keeps s w limit e past x legal (ap is_some g) in let m = rw h at k in cc m)

-- ---- how all parts ended

same-cons : (o : Option Finished) (l : Option (List Finished)) → join.cons_option o l ≡ place_of_all.cons_option o l
same-cons (Some x) (Some xs) = refl
same-cons (Some x) None = refl
same-cons None (Some xs) = refl
same-cons None None = refl

-- the ends of parts that ended as they did
all-joined : (s : Plan) (past : Past) (calls : List Call) (first count : ℕ) → ((i : ℕ) → i < count → join.end_of calls (first + i) ≡ ended s past (first + i)) → all_of (ends_from calls first count) ≡ joined s past first count
all-joined s past calls first zero h = refl
all-joined s past calls first (suc k) h =
    let z : first + 0 ≡ first = omega arith in
    let here : join.end_of calls first ≡ ended s past first = rw z at (h 0 (omega arith)) in
    let there = all-joined s past calls (first + 1) k (λ i l. let e : first + suc i ≡ first + 1 + i = omega arith in rw e at (h (suc i) (omega (arith, l)))) in
    same-cons (join.end_of calls first) (all_of (ends_from calls (first + 1) k))
    ∙ (ap (λ (o : Option Finished). place_of_all.cons_option o (all_of (ends_from calls (first + 1) k))) here ∙ ap (place_of_all.cons_option (ended s past first)) there)

module _ {set : RouteSet} {past : Past} {joins : List (ℕ × Open)} (st : JoinsStand set past joins) where
  join-is : (p first count : ℕ) → open_parts (plan_of set) past p ≡ Some (first, count) → join_of st.calls p ≡ Some (join_over st.calls (first, count))
  join-is p first count h = ap (option_map (join_over st.calls)) (st.parts p ∙ h)

  pub ends-are : (p first count : ℕ) → open_parts (plan_of set) past p ≡ Some (first, count) → ends_at st.calls p ≡ joined (plan_of set) past first count
  ends-are p first count h = ap complete (join-is p first count h) ∙ all-joined (plan_of set) past st.calls first count (st.ends p first count h)

  -- a parent's join is complete where all its parts have ended
  pub ready-is : (p first count : ℕ) → open_parts (plan_of set) past p ≡ Some (first, count) → is_ready st.calls p ≡ all_ended (plan_of set) past first count
  ready-is p first count h = ap is_some (ends-are p first count h)

-- ---- nothing has happened

pub joins-none : (set : RouteSet) (joins : List (ℕ × Open)) → join.Stands [] joins → JoinsStand set [] joins
unfolding open_parts
joins-none set joins st = record {
  calls = [];
  stands = st;
  parts = λ p. sym (none p);
  ends = λ p first count h i l. absurd (let g = sym (none p) ∙ h in cc g);
}
  where
    none : (p : ℕ) → open_parts (plan_of set) [] p ≡ None
    none p = ap (λ (o : Past). unless_ended (ended (plan_of set) [] p) (born_last (last_answer o))) (own-none p) ∙ unless-none (ended (plan_of set) [] p)

-- ---- entries by which no join moves

no-answer : (k : Kind) → moves_joins k ≡ false → answer_in k ≡ []
no-answer (Answer x a) h = absurd (cc h)
no-answer _ h = refl

no-starve : (k : Kind) → moves_joins k ≡ false → is_starve k ≡ false
no-starve (Starve x) h = absurd (cc h)
no-starve _ h = refl

pub joins-stay : (set : RouteSet) (workers limit w : ℕ) (k : Kind) (past : Past) (joins : List (ℕ × Open))
    → KeepsRules (plan_of set) workers limit ((record { worker = w; kind = k }) ∷ past) → moves_joins k ≡ false → JoinsStand set past joins → JoinsStand set ((record { worker = w; kind = k }) ∷ past) joins
joins-stay set workers limit w k past joins legal h st = record {
  calls = st.calls;
  stands = st.stands;
  parts = λ p. st.parts p ∙ sym (same p);
  ends = λ p first count opened i l.
      let was = sym (same p) ∙ opened in
      let b = (awaits s workers limit past p first count (legal-tail s workers limit e past legal) was).part i l in
      st.ends p first count was i l ∙ sym (ends-nobody s e past (no-answer k h) (no-starve k h) (first + i) b.0 b.1);
}
  where
    s : Plan
    s = plan_of set

    e : Entry
    e = record { worker = w; kind = k }

    same : (p : ℕ) → open_parts s (e ∷ past) p ≡ open_parts s past p
    same p = parts-stay s (plan-laws set) workers limit w k past p legal h

-- ---- an entry of exchange x

module _ (set : RouteSet) (workers limit : ℕ) (e : Entry) (past : Past) (x : ℕ) (legal : KeepsRules (plan_of set) workers limit (e ∷ past)) (mine : concerns x e.kind ≡ true) (only : (y : ℕ) → y ≢ x → concerns y e.kind ≡ false) where
  tail : KeepsRules (plan_of set) workers limit past
  tail = legal-tail (plan_of set) workers limit e past legal

  -- the table behind calls by which the joins of others and the ends of others are as before
  module _ {joins : List (ℕ × Open)} (new : List (ℕ × Open)) (calls : List Call) (st : JoinsStand set past joins) (stands : join.Stands calls new)
      (own_parts : join.parts_of calls x ≡ open_parts (plan_of set) (e ∷ past) x)
      (other_parts : (p : ℕ) → p ≢ x → join.parts_of calls p ≡ join.parts_of st.calls p)
      (own_end : (p first count i : ℕ) → open_parts (plan_of set) past p ≡ Some (first, count) → i < count → first + i ≡ x → join.end_of calls x ≡ ended (plan_of set) (e ∷ past) x)
      (other_ends : (y : ℕ) → y ≢ x → y ≤ length (births (plan_of set) past) → join.end_of calls y ≡ join.end_of st.calls y)
      (own_ends : (first count : ℕ) → open_parts (plan_of set) (e ∷ past) x ≡ Some (first, count) → (i : ℕ) → i < count → join.end_of calls (first + i) ≡ ended (plan_of set) (e ∷ past) (first + i)) where
    abbrev s : Plan
    s = plan_of set

    apart : (p : ℕ) → (p == x) ≡ false → p ≢ x
    apart p f same = let k = eq-eqb p x same in let g = sym k ∙ f in cc g

    same : (p : ℕ) → p ≢ x → open_parts s (e ∷ past) p ≡ open_parts s past p
    same p ne = parts-same s (plan-laws set) workers limit e past p legal (only p ne)

    each-parts : (p : ℕ) → join.parts_of calls p ≡ open_parts s (e ∷ past) p
    each-parts p = elim (cases_Bool (p == x)) [
      | inl t ↦ subst (λ (n : ℕ). join.parts_of calls n ≡ open_parts s (e ∷ past) n) (sym (eqb-true p x t)) own_parts
      | inr f ↦ other_parts p (apart p f) ∙ (st.parts p ∙ sym (same p (apart p f)))
    ]

    other-join : (p : ℕ) → p ≢ x → (first count : ℕ) → open_parts s (e ∷ past) p ≡ Some (first, count) → (i : ℕ) → i < count → join.end_of calls (first + i) ≡ ended s (e ∷ past) (first + i)
    other-join p ne first count opened i l =
        let was = sym (same p ne) ∙ opened in
        let b = (awaits s workers limit past p first count tail was).part i l in
        elim (cases_Bool ((first + i) == x)) [
          | inl t ↦ subst (λ (n : ℕ). join.end_of calls n ≡ ended s (e ∷ past) n) (sym (eqb-true (first + i) x t)) (own_end p first count i was l (eqb-true (first + i) x t))
          | inr f ↦ other_ends (first + i) (apart (first + i) f) (numbered-within (births s past) (first + i) b.0 b.1)
              ∙ (st.ends p first count was i l ∙ sym (ended-other s e past (first + i) b.0 b.1 (only (first + i) (apart (first + i) f))))
        ]

    pub joins-own : JoinsStand set (e ∷ past) new
    joins-own = record {
      calls = calls;
      stands = stands;
      parts = each-parts;
      ends = λ p first count opened i l. elim (cases_Bool (p == x)) [
        | inl t ↦ own_ends first count (subst (λ (n : ℕ). open_parts s (e ∷ past) n ≡ Some (first, count)) (eqb-true p x t) opened) i l
        | inr f ↦ other-join p (apart p f) first count opened i l
      ];
    }

-- nobody waits for the parts of who has no open join
pub none-open : {P : Type 0} (o : Option (ℕ × ℕ)) (first count : ℕ) → o ≡ None → o ≡ Some (first, count) → P
none-open o first count h g = absurd (let k = sym h ∙ g in cc k)

-- an answer of x by which it goes on
module _ (set : RouteSet) (workers limit w x : ℕ) (a : Reply) (past : Past) (legal : KeepsRules (plan_of set) workers limit ((record { worker = w; kind = Answer x a }) ∷ past))
    (lives : ended (plan_of set) ((record { worker = w; kind = Answer x a }) ∷ past) x ≡ None) where
  answer : Entry
  answer = record { worker = w; kind = Answer x a }

  mine : (x == x) ≡ true
  mine = eq-eqb x x refl

  only : (y : ℕ) → y ≢ x → concerns y (Answer x a) ≡ false
  only y ne = not-same y x ne

  was-alive : ended (plan_of set) past x ≡ None
  was-alive = lived (plan_of set) workers limit (record { worker = w; kind = Answer x a }) past x legal lives

  -- its own join behind its answer
  open-now : open_parts (plan_of set) ((record { worker = w; kind = Answer x a }) ∷ past) x ≡ born_by a
  open-now = parts-own (plan_of set) workers limit (record { worker = w; kind = Answer x a }) past x legal mine ∙ ap (λ (o : Option Finished). unless_ended o (born_by a)) lives

  -- where it has none before and behind it
  pub joins-on : {joins : List (ℕ × Open)} → born_by a ≡ None → open_parts (plan_of set) past x ≡ None → JoinsStand set past joins → JoinsStand set ((record { worker = w; kind = Answer x a }) ∷ past) joins
  joins-on {joins} none closed st =
      joins-own set workers limit (record { worker = w; kind = Answer x a }) past x legal mine only joins st.calls st st.stands
      (st.parts x ∙ (closed ∙ sym (open-now ∙ none)))
      (λ p ne. refl)
      (λ p first count i opened l same. let h = st.ends p first count opened i l in rw same at h ∙ (was-alive ∙ sym lives))
      (λ y ne l. refl)
      (λ first count opened i l. none-open _ first count (open-now ∙ none) opened)

  -- its join is closed: it is told how its parts ended
  pub joins-closed : {joins : List (ℕ × Open)} (new : List (ℕ × Open)) → born_by a ≡ None → ((calls : List Call) → join.Stands calls joins → join.Stands (Took x ∷ calls) new)
      → JoinsStand set past joins → JoinsStand set ((record { worker = w; kind = Answer x a }) ∷ past) new
  joins-closed {joins} new none took st =
      joins-own set workers limit (record { worker = w; kind = Answer x a }) past x legal mine only new (Took x ∷ st.calls) st (took st.calls st.stands)
      (ap (λ (t : Bool). cond t None (join.parts_of st.calls x)) mine ∙ sym (open-now ∙ none))
      (λ p ne. ap (λ (t : Bool). cond t None (join.parts_of st.calls p)) (ne_eqb x p (λ same. ne (sym same))))
      (λ p first count i opened l same. let h = st.ends p first count opened i l in rw same at h ∙ (was-alive ∙ sym lives))
      (λ y ne l. refl)
      (λ first count opened i l. none-open _ first count (open-now ∙ none) opened)

  -- its parts are born
  pub joins-born : {joins : List (ℕ × Open)} (first count : ℕ) (new : List (ℕ × Open)) → a ≡ reply.Born first count → first ≡ next (plan_of set) past
      → ((calls : List Call) → join.Stands calls joins → join.Stands (Began x first count ∷ calls) new)
      → x ≤ length (births (plan_of set) past) → JoinsStand set past joins → JoinsStand set ((record { worker = w; kind = Answer x a }) ∷ past) new
  joins-born {joins} first count new is content began born st =
      joins-own set workers limit (record { worker = w; kind = Answer x a }) past x legal mine only new (Began x first count ∷ st.calls) st (began st.calls st.stands)
      (ap (λ (t : Bool). cond t (Some (first, count)) (join.parts_of st.calls x)) mine ∙ sym open-born)
      (λ p ne. ap (λ (t : Bool). cond t (Some (first, count)) (join.parts_of st.calls p)) (ne_eqb x p (λ same. ne (sym same))))
      (λ p f c i opened l same. outside x born ∙ (let h = st.ends p f c opened i l in rw same at h ∙ (was-alive ∙ sym lives)))
      (λ y ne l. outside y l)
      (λ f c opened i l. inside f c (sym open-born ∙ opened) i l)
    where
      open-born : open_parts (plan_of set) ((record { worker = w; kind = Answer x a }) ∷ past) x ≡ Some (first, count)
      open-born = open-now ∙ ap born_by is

      outside : (y : ℕ) → y ≤ length (births (plan_of set) past) → join.end_of (Began x first count ∷ st.calls) y ≡ join.end_of st.calls y
      outside y l = ap (λ (t : Bool). cond t None (join.end_of st.calls y)) (not-between y (omega (arith, content, l)))
        where
          not-between : (y : ℕ) → y < first → is_between first count y ≡ false
          not-between y l = ap (λ (t : Bool). t && nat_lt y (first + count)) (by_test (nat_le first y) refl)
            where
              by_test : (t : Bool) → nat_le first y ≡ t → nat_le first y ≡ false
              by_test false h = h
              by_test true h = absurd (let k = leb-true first y h in omega (arith, k, l))

      inside : (f c : ℕ) → ◌≡◌ {A = Option (ℕ × ℕ)} (Some (first, count)) (Some (f, c)) → (i : ℕ) → i < c → join.end_of (Began x first count ∷ st.calls) (f + i) ≡ ended (plan_of set) ((record { worker = w; kind = Answer x a }) ∷ past) (f + i)
      inside f c same i l =
          let f_is : first ≡ f = ap first_in same in
          let c_is : count ≡ c = ap count_in same in
          let from : nat_le first (f + i) ≡ true = le-leb first (f + i) (omega (arith, f_is)) in
          let to : nat_lt (f + i) (first + count) ≡ true = lt-ltb (f + i) (first + count) (omega (arith, f_is, c_is, l)) in
          let newborn : length (births (plan_of set) past) < f + i = omega (arith, f_is, content) in
          let alone : concerns (f + i) (Answer x a) ≡ false = only (f + i) (λ same. omega (arith, same, newborn, born)) in
          rw (from, to) (sym (ended-beside (plan_of set) (plan-laws set) workers limit (record { worker = w; kind = Answer x a }) past (f + i) legal alone ∙ unborn-lives (plan_of set) past (f + i) newborn))
