use Rattle.std.proofs.Common.{◌≡◌, sym, ◌∙◌}
use Rattle.eip_aggregator.specs.Tables.{is_forced, group_number}
use Rattle.eip_aggregator.proofs.Gathering.{gathers_none, gathers_more, gathers_past, gathered, none_picked}
use Rattle.eip_aggregator.proofs.places.numbers_forced.Goals as goal

pub loop-number-init : goal.loop-number-init
loop-number-init c =
    let all : c.into_iter-number-iterator.result ≡ c.args.groups.now.entries = c.into_iter-number-iterator.ensures.into_iter_gives ∙ c.iter-number-items.ensures.rest in
    gathers_none is_forced group_number c.args.groups.now.entries c.into_iter-number-iterator.result c.new-numbers.result all c.new-numbers.ensures.empty

pub loop-number-preserved : goal.loop-number-preserved
loop-number-preserved c =
    gathers_past is_forced group_number c.args.groups.now.entries c.loop-number.number-iterator c.next.new.self (c.in-Some.number.now, c.in-Some.group.now) c.loop-number.numbers
    c.loop-number.invariant c.in-Some.ensures.steps (sym c.is_forced.ensures ∙ c.if-is_forced.false)

pub loop-number-preserved-in_ok-insert : goal.loop-number-preserved-in_ok-insert
loop-number-preserved-in_ok-insert c =
    gathers_more is_forced group_number c.args.groups.now.entries c.loop-number.number-iterator c.next.new.self (c.in-Some.number.now, c.in-Some.group.now) c.loop-number.numbers c.insert.new.self
    c.loop-number.invariant c.in-Some.ensures.steps (sym c.is_forced.ensures ∙ c.if-is_forced.true) c.in_ok-insert.ensures.updates.0

pub returns-clause-picked : goal.returns-clause-picked
returns-clause-picked c =
    gathered is_forced group_number c.args.groups.now.entries c.loop-number.number-iterator c.loop-number.numbers c.loop-number.invariant
    (none_picked is_forced group_number c.loop-number.number-iterator c.in-None.ensures.steps.0)
