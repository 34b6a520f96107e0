use Rattle.std.proofs.Common.{◌+◌, ◌++◌, string_bytes, sym, ap, ◌∙◌, arith}
use Rattle.std.proofs.lemmas.List.{append-nil}
use Rattle.eip_history.specs.BookText.{group_line_of, groups_text}
use Rattle.eip_history.proofs.TextSteps.{groups-none}
use Rattle.eip_hub.specs.View.{plan}
use Rattle.eip_endbook.proofs.Groups.{shown, shown-more, shown-within, shown-last}
use Rattle.eip_endbook.proofs.Joining.{grown}
use Rattle.eip_endbook.proofs.book.push_groups.Goals as goal

pub loop-group-init : goal.loop-group-init
loop-group-init c = rw groups-none (sym (append-nil (string_bytes c.args.out.now)))

pub next_index-k-requires : goal.next_index-k-requires
next_index-k-requires c =
    let hub = c.args.hub.now in
    let i = shown (plan hub) hub.journal.past c.loop-group.k c.in-Some.group (rw c.in-Some.is at c.open_group.ensures) in
    i.number

pub loop-group-preserved : goal.loop-group-preserved
loop-group-preserved c =
    let hub = c.args.hub.now in
    let k = c.loop-group.k in
    let g = c.in-Some.group in
    let i = shown (plan hub) hub.journal.past k g (rw c.in-Some.is at c.open_group.ensures) in
    rw c.next_index-k.ensures (grown (string_bytes c.push_group.new.out) (string_bytes c.loop-group.out) (string_bytes c.args.out.now)
    (groups_text (plan hub) hub.journal.past k) (group_line_of g.number g.size g.key.now) (groups_text (plan hub) hub.journal.past (k + 1))
    c.in_ok-push_group.ensures c.loop-group.invariant (shown-more (plan hub) hub.journal.past k g i))

pub loop-group-smaller : goal.loop-group-smaller
loop-group-smaller c =
    let hub = c.args.hub.now in
    let i = shown (plan hub) hub.journal.past c.loop-group.k c.in-Some.group (rw c.in-Some.is at c.open_group.ensures) in
    omega (arith, shown-within (plan hub) hub.journal.past c.loop-group.k c.in-Some.group i)

pub returns : goal.returns
returns c =
    let hub = c.args.hub.now in
    c.loop-group.invariant ∙ ap (λ t. string_bytes c.args.out.now ++ t) (shown-last (plan hub) hub.journal.past c.loop-group.k (rw c.in_default.is at c.open_group.ensures))
