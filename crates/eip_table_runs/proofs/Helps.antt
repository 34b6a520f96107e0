-- What the runs stand on.
use Rattle.std.proofs.Common.{◌≡◌, ℕ, zero, suc, ◌+◌, ◌-◌, ◌*◌, ◌/◌, ◌%◌, ◌<◌, ◌≤◌, Bool, true, false, cond, eqb, List, [], ◌∷◌, length, slice_get, Option, Some, None, is_some, option_map, refl, sym, ap, subst, ◌∙◌, arith, eq-eqb, ne_eqb, eqb-true, true≢false, ⊎_elim}
use Rattle.std.proofs.lemmas.Bool.{cond-false, cases_lt, eqb-false}
use Rattle.std.proofs.lemmas.Option.{slice_get-get_or, none-some, same_Some}
use Rattle.eip_redelivery.specs.Sleep as sleep
use Rattle.eip_exchange.specs.declared.end.Ended.{Ended}
use Rattle.eip_seda.specs.Consuming.{Call, Started, starts, endings, fresh, QueueView, IsInTurn, queue_after, busy_in, busy_at, Stands}
use Rattle.eip_join.specs.Parts as parts
use Rattle.eip_join.proofs.Standing.{length-ends, end_at_index}
use Rattle.eip_route.specs.declared.step.Aggregate.{Aggregate}
use Rattle.eip_aggregator.specs.Arrivals as arrivals
use Rattle.eip_aggregator.specs.Arrivals.{Key, Arrival, Came, Ticked, Forced, Settings}
use Rattle.eip_aggregator.specs.Tables as groups
use Rattle.eip_table_runs.specs.Arriving.{AreOf}
use Rattle.eip_table_runs.specs.Backwards.{AreLeft, HavePairs, AreBegun, ArePairs}

-- who comes behind the one that fell asleep last hasn't slept
pub later_awake : (calls : List sleep.Call) (number due : ℕ) → ((x : ℕ) → number < x + 1 → sleep.sleeps calls x ≡ None) → (x : ℕ) → number < x → sleep.sleeps (sleep.Slept number due ∷ calls) x ≡ None
later_awake calls number due h x lt = cond-false (eqb number x) (Some due) (sleep.sleeps calls x) (ne_eqb number x (λ e. omega arith)) ∙ h x (omega arith)

-- ---- queues

busy_by : (calls : List Call) (q : ℕ) (o : Option (ℕ × ℕ)) (g : Option QueueView) → g ≡ option_map (queue_after (Started q ∷ calls) q) o → is_some g ≡ true → IsInTurn calls q → 0 < busy_in g
busy_by calls q None g e some turn = absurd (true≢false (sym some ∙ ap is_some e))
busy_by calls q (Some limit) g e some turn =
    let began : endings calls q ≤ starts calls q = turn.began in
    subst (λ (h : Option QueueView). 0 < busy_in h) (sym e)
    (subst (λ (b : Bool). 0 < cond b (starts calls q + 1) (starts calls q) - endings calls q) (sym (eq-eqb q q refl)) (omega arith))

-- who has started is at work
pub busy_after : (limits : List (ℕ × ℕ)) (calls : List Call) (v : List QueueView) (q : ℕ) → q < length v → IsInTurn calls q → Stands limits (Started q ∷ calls) v → 0 < busy_at v q
busy_after limits calls v q within turn stands = busy_by calls q (slice_get limits q) (slice_get v q) (stands.each q) (ap is_some (slice_get-get_or v q (fresh (0, 0)) within)) turn

-- ---- joins

none_both : (b : Bool) → cond {A = Option Ended} b None None ≡ None
none_both true = refl
none_both false = refl

pub begun : (joins : List (ℕ × parts.Open)) (first count : ℕ) → parts.Stands (parts.Began 1 first count ∷ []) joins → AreLeft first count count joins
begun joins first count stands = record {
  calls = parts.Began 1 first count ∷ [];
  stands = stands;
  parts = refl;
  unended = λ x low high. none_both (parts.is_between first count x);
}

-- a part of an open join that hasn't ended
open_part : (joins : List (ℕ × parts.Open)) (calls : List parts.Call) (p first count x : ℕ) → parts.Stands calls joins → parts.parts_of calls p ≡ Some (first, count) → first ≤ x → x < first + count → parts.end_of calls x ≡ None
    → parts.IsOpenPart x joins
open_part joins calls p first count x stands its low high unended =
    let n : length (parts.ends_from calls first count) ≡ count = length-ends calls first count in
    let same : first + (x - first) ≡ x = omega arith in
    record {
      parent = p;
      join = parts.join_over calls (first, count);
      opened = stands p ∙ ap (option_map (parts.join_over calls)) its;
      part = (low, omega arith);
      unended =
          end_at_index calls first count (x - first) (omega arith)
          ∙ ap (λ (y : ℕ). Some (parts.end_of calls y)) same
          ∙ ap (λ (o : Option Ended). Some o) unended;
    }

pub last_open : (joins : List (ℕ × parts.Open)) (first count index : ℕ) → index < count → AreLeft first count (index + 1) joins → parts.IsOpenPart (first + index) joins
last_open joins first count index within left =
    open_part joins left.calls 1 first count (first + index) left.stands left.parts (omega arith) (omega arith) (left.unended (first + index) (omega arith) (omega arith))

pub one_fewer : (joins after : List (ℕ × parts.Open)) (first count index : ℕ) (ended : Ended) → (left : AreLeft first count (index + 1) joins)
    → ((calls : List parts.Call) → parts.Stands calls joins → parts.Stands (parts.PartEnded (first + index) ended ∷ calls) after) → AreLeft first count index after
one_fewer joins after first count index ended left stands = record {
  calls = parts.PartEnded (first + index) ended ∷ left.calls;
  stands = stands left.calls left.stands;
  parts = left.parts;
  unended = λ x low high.
      cond-false (eqb (first + index) x) (Some ended) (parts.end_of left.calls x) (ne_eqb (first + index) x (λ e. omega arith)) ∙ left.unended x low (omega arith);
}

-- ---- joins of two parts each

pub no_pairs : (joins : List (ℕ × parts.Open)) → parts.Stands [] joins → AreBegun 0 joins
no_pairs joins stands = record {
  calls = [];
  stands = stands;
  pairs = record { pairs = λ p pos le. absurd (omega arith); first = refl; others = λ p above. refl };
  unended = λ x. refl;
}

pub pair_free : (before : ℕ) (joins : List (ℕ × parts.Open)) → AreBegun before joins → parts.IsFree (before + 1) joins
pair_free before joins begun = begun.stands (before + 1) ∙ ap (option_map (parts.join_over begun.calls)) (begun.pairs.others (before + 1) (omega arith))

-- an exchange whose parts are told has no others
its_parts : (calls : List parts.Call) (p first : ℕ) (join : parts.Open) (x : ℕ) → parts.parts_of calls p ≡ Some (first, 2) → parts.join_of calls p ≡ Some join → parts.IsPart x join → x < first + 2
its_parts calls p first join x its at part =
    let same : parts.join_over calls (first, 2) ≡ join = same_Some (parts.join_over calls (first, 2)) join (sym (ap (option_map (parts.join_over calls)) its) ∙ at) in
    let n : length (parts.ends_from calls first 2) ≡ 2 = length-ends calls first 2 in
    let part_too : parts.IsPart x (parts.join_over calls (first, 2)) = subst (parts.IsPart x) (sym same) part in
    let high : x < first + length (parts.ends_from calls first 2) = part_too.1 in
    omega arith

no_join : (calls : List parts.Call) (p : ℕ) (join : parts.Open) → parts.parts_of calls p ≡ None → parts.join_of calls p ≡ Some join → ⊥
no_join calls p join none at = none-some join (sym (ap (option_map (parts.join_over calls)) none) ∙ at)

pub pair_new : (before : ℕ) (joins : List (ℕ × parts.Open)) → AreBegun before joins → parts.AreNew (2 * (before + 1)) 2 joins
pair_new before joins begun zero x join at part low high = no_join begun.calls 0 join begun.pairs.first (sym (begun.stands 0) ∙ at)
pair_new before joins begun (suc q) x join at part low high = ⊎_elim
    (λ (above : before < suc q). no_join begun.calls (suc q) join (begun.pairs.others (suc q) above) (sym (begun.stands (suc q)) ∙ at))
    (λ (le : suc q ≤ before).
    let top : x < 2 * suc q + 2 = its_parts begun.calls (suc q) (2 * suc q) join x (begun.pairs.pairs (suc q) (omega arith) le) (sym (begun.stands (suc q)) ∙ at) part in
    omega arith)
    (cases_lt before (suc q))

pair_at : (b : Bool) (before p : ℕ) (calls : List parts.Call) → eqb (before + 1) p ≡ b → HavePairs before calls → 0 < p → p ≤ before + 1 → cond b (Some (2 * (before + 1), 2)) (parts.parts_of calls p) ≡ Some (2 * p, 2)
pair_at true before p calls e have pos le = ap (λ (n : ℕ). Some (2 * n, 2)) (eqb-true (before + 1) p e)
pair_at false before p calls e have pos le = have.pairs p pos (let apart : before + 1 ≡ p → ⊥ = eqb-false (before + 1) p e in omega arith)

one_more : (before : ℕ) (calls : List parts.Call) → HavePairs before calls → HavePairs (before + 1) (parts.Began (before + 1) (2 * (before + 1)) 2 ∷ calls)
one_more before calls have = record {
  pairs = λ p pos le. pair_at (eqb (before + 1) p) before p calls refl have pos le;
  first = cond-false (eqb (before + 1) 0) (Some (2 * (before + 1), 2)) (parts.parts_of calls 0) (ne_eqb (before + 1) 0 (λ e. omega arith)) ∙ have.first;
  others = λ p above. cond-false (eqb (before + 1) p) (Some (2 * (before + 1), 2)) (parts.parts_of calls p) (ne_eqb (before + 1) p (λ e. omega arith)) ∙ have.others p (omega arith);
}

pub pair_begun : (before : ℕ) (joins after : List (ℕ × parts.Open)) → (begun : AreBegun before joins)
    → ((calls : List parts.Call) → parts.Stands calls joins → parts.Stands (parts.Began (before + 1) (2 * (before + 1)) 2 ∷ calls) after) → AreBegun (before + 1) after
pair_begun before joins after begun stands = record {
  calls = parts.Began (before + 1) (2 * (before + 1)) 2 ∷ begun.calls;
  stands = stands begun.calls begun.stands;
  pairs = one_more before begun.calls begun.pairs;
  unended = λ x.
      ap (λ (o : Option Ended). cond (parts.is_between (2 * (before + 1)) 2 x) None o) (begun.unended x) ∙ none_both (parts.is_between (2 * (before + 1)) 2 x);
}

pub all_begun : (count : ℕ) (joins : List (ℕ × parts.Open)) → AreBegun count joins → ArePairs count (2 * count) joins
all_begun count joins begun = record { calls = begun.calls; stands = begun.stands; pairs = begun.pairs; unended = λ x within. begun.unended x }

pub pair_open : (joins : List (ℕ × parts.Open)) (count index : ℕ) → index < 2 * count → ArePairs count (index + 1) joins → parts.IsOpenPart (index + 2) joins
pair_open joins count index within left =
    let whole : 2 * ((index + 2) / 2) + (index + 2) % 2 ≡ index + 2 = omega arith in
    let rest : (index + 2) % 2 < 2 = omega arith in
    open_part joins left.calls ((index + 2) / 2) (2 * ((index + 2) / 2)) 2 (index + 2) left.stands (left.pairs.pairs ((index + 2) / 2) (omega arith) (omega arith)) (omega arith) (omega arith)
    (left.unended (index + 2) (omega arith))

pub pair_fewer : (joins after : List (ℕ × parts.Open)) (count index : ℕ) (ended : Ended) → (left : ArePairs count (index + 1) joins)
    → ((calls : List parts.Call) → parts.Stands calls joins → parts.Stands (parts.PartEnded (index + 2) ended ∷ calls) after) → ArePairs count index after
pair_fewer joins after count index ended left stands = record {
  calls = parts.PartEnded (index + 2) ended ∷ left.calls;
  stands = stands left.calls left.stands;
  pairs = record { pairs = left.pairs.pairs; first = left.pairs.first; others = left.pairs.others };
  unended = λ x within.
      cond-false (eqb (index + 2) x) (Some ended) (parts.end_of left.calls x) (ne_eqb (index + 2) x (λ e. omega arith)) ∙ left.unended x (omega arith);
}

-- ---- groups

pub none_came : (a : Aggregate) (t : groups.Table) → ((s : Settings) → groups.Stands s [] t) → AreOf a 0 t
none_came a t stands = record { calls = []; stands = stands (λ block. a); few = omega arith }

-- an arrival can come
pub may_come : (a : Aggregate) (most : ℕ) (t : groups.Table) → most < 4294967296 → AreOf a most t → groups.IsSetSo a t
may_come a most t fits of = record {
  settings = λ block. a;
  calls = of.calls;
  stands = of.stands;
  same = refl;
  few = let few : length of.calls ≤ most = of.few in omega arith;
}

pub one_came : (a : Aggregate) (most : ℕ) (old new : groups.Table) (k : Key) (p : Arrival) → AreOf a most old
    → ((s : Settings) (calls : List arrivals.Call) → groups.Stands s calls old → s a.block ≡ a → groups.Stands s (Came k p ∷ calls) new) → AreOf a (most + 1) new
one_came a most old new k p of stands = record {
  calls = Came k p ∷ of.calls;
  stands = stands (λ block. a) of.calls of.stands refl;
  few = let few : length of.calls ≤ most = of.few in omega arith;
}

pub one_ticked : (a : Aggregate) (most tick : ℕ) (old new : groups.Table) → AreOf a most old
    → ((s : Settings) (calls : List arrivals.Call) → groups.Stands s calls old → groups.Stands s (Ticked tick ∷ calls) new) → AreOf a (most + 1) new
one_ticked a most tick old new of stands = record {
  calls = Ticked tick ∷ of.calls;
  stands = stands (λ block. a) of.calls of.stands;
  few = let few : length of.calls ≤ most = of.few in omega arith;
}

pub one_forced : (a : Aggregate) (most : ℕ) (old new : groups.Table) → AreOf a most old
    → ((s : Settings) (calls : List arrivals.Call) → groups.Stands s calls old → groups.Stands s (Forced ∷ calls) new) → AreOf a (most + 1) new
one_forced a most old new of stands = record {
  calls = Forced ∷ of.calls;
  stands = stands (λ block. a) of.calls of.stands;
  few = let few : length of.calls ≤ most = of.few in omega arith;
}

-- behind a question nothing has changed
pub none_more : (a : Aggregate) (most : ℕ) (t : groups.Table) → AreOf a most t → AreOf a (most + 1) t
none_more a most t of = record { calls = of.calls; stands = of.stands; few = let few : length of.calls ≤ most = of.few in omega arith }
