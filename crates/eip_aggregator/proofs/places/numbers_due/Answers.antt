use Rattle.std.proofs.Common.{◌≡◌, ℕ, List, sym, subst, ◌∙◌}
use Rattle.std.specs.List.Sorted.{IsStrictlySortedBy}
use Rattle.std.proofs.lemmas.Bool.{le-leb}
use Rattle.eip_aggregator.specs.Tables.{is_by, due_number}
use Rattle.eip_ordered.proofs.Pairs.{by_first}
use Rattle.eip_aggregator.proofs.Gathering.{gathers_none, gathers_more, gathered, none_behind, none_picked, sorted_left}
use Rattle.eip_aggregator.proofs.places.numbers_due.Goals as goal

pub loop-due-init : goal.loop-due-init
loop-due-init c =
    let all : c.into_iter-due-iterator.result ≡ c.args.dues.now.keys = c.into_iter-due-iterator.ensures.into_iter_gives ∙ c.iter-due-items.ensures.rest in
    record {
      sorted = subst (λ (ks : List (ℕ × ℕ)). IsStrictlySortedBy by_first ks) (sym all) c.iter-due-items.ensures.ordered;
      gathers = gathers_none (is_by c.args.tick) due_number c.args.dues.now.keys c.into_iter-due-iterator.result c.new-numbers.result all c.new-numbers.ensures.empty;
    }

pub loop-due-preserved : goal.loop-due-preserved
loop-due-preserved c = record {
  sorted = sorted_left c.in-Some.due.now c.loop-due.due-iterator c.next.new.self c.in-Some.ensures.steps c.loop-due.invariant.sorted;
  gathers = gathers_more (is_by c.args.tick) due_number c.args.dues.now.keys c.loop-due.due-iterator c.next.new.self c.in-Some.due.now c.loop-due.numbers c.insert.new.self
      c.loop-due.invariant.gathers c.in-Some.ensures.steps (le-leb c.in-Some.due.now.0 c.args.tick c.if-due-tick.false) c.in_ok-insert.ensures.updates.0;
}

pub returns-then-due-tick : goal.returns-then-due-tick
returns-then-due-tick c =
    gathered (is_by c.args.tick) due_number c.args.dues.now.keys c.loop-due.due-iterator c.loop-due.numbers c.loop-due.invariant.gathers
    (none_behind c.args.tick c.in-Some.due.now c.loop-due.due-iterator c.next.new.self c.if-due-tick.true c.in-Some.ensures.steps c.loop-due.invariant.sorted)

pub returns : goal.returns
returns c =
    gathered (is_by c.args.tick) due_number c.args.dues.now.keys c.loop-due.due-iterator c.loop-due.numbers c.loop-due.invariant.gathers
    (none_picked (is_by c.args.tick) due_number c.loop-due.due-iterator c.in-None.ensures.steps.0)
