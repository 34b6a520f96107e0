use Rattle.std.proofs.Common.{◌≡◌, ℕ, List, ◌++◌, length, reverse, string_bytes, ap, ◌∙◌}
use Rattle.std.proofs.lemmas.List.{reverse-reverse}
use Rattle.eip_route.specs.declared.route.RouteSet.{RouteSet}
use Rattle.eip_history.specs.Counts.{total_count}
use Rattle.eip_history.specs.BookText.{exchanges_text, refusals_text, summary_text_of, groups_text}
use Rattle.eip_history.specs.Stop.{open_groups}
use Rattle.eip_history.proofs.TextSteps.{book-is}
use Rattle.eip_hub.specs.View.{plan}
use Rattle.eip_endbook.specs.Names.{route_names}
use Rattle.eip_endbook.proofs.Joining.{four-joined}
use Rattle.eip_endbook.proofs.book.push_book.Goals as goal

pub returns : goal.returns
returns c =
    let hub = c.args.hub.now in
    let s = plan hub in
    let names = route_names hub.set in
    let past = hub.journal.past in
    let exchanges = exchanges_text s names past (total_count s past) in
    let entries : reverse c.entries.result.now ≡ past = rw (c.entries.ensures, c.journal.ensures.journal) (reverse-reverse past) in
    let refusals = ap (λ (v : RouteSet). refusals_text (route_names v) (reverse c.entries.result.now)) c.set.ensures ∙ ap (refusals_text names) entries in
    rw (book-is s names past c.args.stop.now)
    (four-joined (string_bytes c.args.out.now) exchanges (refusals_text names past) (groups_text s past (length (open_groups s past))) (summary_text_of s names past c.args.stop.now)
    (string_bytes c.push_exchanges.new.out) (string_bytes c.push_refusals.new.out) (string_bytes c.push_groups.new.out) (string_bytes c.push_summary.new.out)
    c.in_ok-push_exchanges.ensures
    (c.in_ok-push_refusals.ensures ∙ ap (λ (t : List ℕ). string_bytes c.push_exchanges.new.out ++ t) refusals)
    c.in_ok-push_groups.ensures c.in_ok-push_summary.ensures)
