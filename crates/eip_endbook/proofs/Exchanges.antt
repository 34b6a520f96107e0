-- The exchanges of a run, counted and printed one by one.
use Rattle.std.proofs.Common.{◌≡◌, ℕ, suc, ◌+◌, ◌<◌, ◌≤◌, Bool, true, false, take, Some, None, refl, ap, arith}
use Rattle.std.specs.Prelude.{option_map}
use Rattle.std.proofs.lemmas.List.{length-take}
use Rattle.eip_exchange.specs.declared.birth.Birth.{Birth}
use Rattle.eip_exchange.specs.declared.birth.Origin.{Origin}
use Rattle.eip_exchange.specs.declared.end.End.TheVariants as end
use Rattle.eip_ledger.specs.declared.place.Place.{Place}
use Rattle.eip_ledger.specs.declared.place.Place.TheVariants as place_is
use Rattle.eip_history.specs.Plan.{Plan}
use Rattle.eip_history.specs.Own.{Past, numbered}
use Rattle.eip_history.specs.Births.{births}
use Rattle.eip_history.specs.Place.{place, place_of}
use Rattle.eip_history.specs.Tables.{bit}
use Rattle.eip_history.specs.Texts.{is_completed, is_handled}
use Rattle.eip_history.specs.Counts.{is_failed, is_waiting, total_count, count_of_first}
use Rattle.eip_history.specs.BookText.{origin_of, origin_at}
use Rattle.eip_history.proofs.Lists.{filter-length, slice_get-some}
use Rattle.eip_history.proofs.Totals.{count-first-more}
use Rattle.eip_tables.specs.Origin.{ending_at}
use Rattle.eip_endbook.specs.declared.counts.Ends.{Ends}
use Rattle.eip_endbook.specs.Totals.{counted, CountsFirst}

-- the birth behind the first k
born-at : (s : Plan) (past : Past) (k : ℕ) → k < total_count s past → (b : Birth) × (numbered (births s past) (k + 1) ≡ Some b)
born-at s past k l =
    let b = slice_get-some (births s past) k l in
    let e : k + 1 ≡ suc k = omega arith in
    (b.0, rw e b.1)

pub placed : (s : Plan) (past : Past) (k : ℕ) → k < total_count s past → (q : Place) × (place s past (k + 1) ≡ Some q)
unfolding place
placed s past k l = let b = born-at s past k l in (place_of s past b.0, ap (option_map (place_of s past)) b.1)

pub from-somewhere : (s : Plan) (past : Past) (k : ℕ) → k < total_count s past → (o : Origin) × (origin_at s past (k + 1) ≡ Some o)
from-somewhere s past k l = let b = born-at s past k l in (b.0.origin, ap (option_map origin_of) b.1)

module _ (s : Plan) (past : Past) (k : ℕ) (q : Place) (at : place s past (k + 1) ≡ Some q) where
  rises : (p : Place → Bool) (n : ℕ) → p q ≡ true → n ≡ count_of_first s past p k → n + 1 ≡ count_of_first s past p (k + 1)
  rises p n t h = let m = count-first-more s past p k q at in let b : bit (p q) ≡ 1 = ap bit t in omega (arith, m, b, h)

  stays : (p : Place → Bool) (n : ℕ) → p q ≡ false → n ≡ count_of_first s past p k → n ≡ count_of_first s past p (k + 1)
  stays p n f h = let m = count-first-more s past p k q at in let b : bit (p q) ≡ 0 = ap bit f in omega (arith, m, b, h)

  waits : (e : Ends) → is_completed q ≡ false → is_handled q ≡ false → is_failed q ≡ false → is_waiting q ≡ true → CountsFirst s past k e → CountsFirst s past (k + 1) (counted None e)
  waits e c h f w first = record {
    completed = stays is_completed e.completed c first.completed;
    handled = stays is_handled e.handled h first.handled;
    failed = stays is_failed e.failed f first.failed;
    waiting = rises is_waiting e.waiting w first.waiting;
  }

-- one more exchange, which stands here
pub counts-more : (s : Plan) (past : Past) (k : ℕ) (q : Place) (e : Ends) → place s past (k + 1) ≡ Some q → CountsFirst s past k e → CountsFirst s past (k + 1) (counted (ending_at (Some q)) e)
counts-more s past k (place_is.Ended end.Completed) e at first =
    let q = place_is.Ended end.Completed in
    record {
      completed = rises s past k q at is_completed e.completed refl first.completed;
      handled = stays s past k q at is_handled e.handled refl first.handled;
      failed = stays s past k q at is_failed e.failed refl first.failed;
      waiting = stays s past k q at is_waiting e.waiting refl first.waiting;
    }
counts-more s past k (place_is.Ended end.Handled) e at first =
    let q = place_is.Ended end.Handled in
    record {
      completed = stays s past k q at is_completed e.completed refl first.completed;
      handled = rises s past k q at is_handled e.handled refl first.handled;
      failed = stays s past k q at is_failed e.failed refl first.failed;
      waiting = stays s past k q at is_waiting e.waiting refl first.waiting;
    }
counts-more s past k (place_is.Ended (end.Failed f)) e at first =
    let q = place_is.Ended (end.Failed f) in
    record {
      completed = stays s past k q at is_completed e.completed refl first.completed;
      handled = stays s past k q at is_handled e.handled refl first.handled;
      failed = rises s past k q at is_failed e.failed refl first.failed;
      waiting = stays s past k q at is_waiting e.waiting refl first.waiting;
    }
counts-more s past k (place_is.Queue r) e at first = waits s past k (place_is.Queue r) at e refl refl refl refl first
counts-more s past k (place_is.InHand w) e at first = waits s past k (place_is.InHand w) at e refl refl refl refl first
counts-more s past k (place_is.Retry d) e at first = waits s past k (place_is.Retry d) at e refl refl refl refl first
counts-more s past k place_is.Joining e at first = waits s past k place_is.Joining at e refl refl refl refl first
counts-more s past k place_is.Ready e at first = waits s past k place_is.Ready at e refl refl refl refl first

-- the same by what is told of the exchange
pub counts-next : (s : Plan) (past : Past) (k : ℕ) (e : Ends) (o : _) → k < total_count s past → o ≡ ending_at (place s past (k + 1)) → CountsFirst s past k e → CountsFirst s past (k + 1) (counted o e)
counts-next s past k e o l told first =
    let q = placed s past k l in
    rw (told, q.1) (counts-more s past k q.0 e q.1 first)

-- no more pass than there are
pub count-within : (s : Plan) (past : Past) (p : Place → Bool) (k : ℕ) → count_of_first s past p k ≤ k
unfolding count_of_first
count-within s past p k = omega (arith, filter-length (λ (b : Birth). p (place_of s past b)) (take k (births s past)), length-take k (births s past))
