use Rattle.std.proofs.Common.{◌+◌, ◌<◌, string_bytes, sym, arith}
use Rattle.std.proofs.lemmas.List.{append-nil}
use Rattle.eip_history.specs.Counts.{total_count}
use Rattle.eip_history.specs.BookText.{exchange_line, exchanges_text}
use Rattle.eip_history.proofs.TextSteps.{exchanges-none, exchanges-more}
use Rattle.eip_hub.specs.View.{plan}
use Rattle.eip_endbook.specs.Names.{route_names}
use Rattle.eip_endbook.proofs.Exchanges.{placed, from-somewhere}
use Rattle.eip_endbook.proofs.Joining.{grown}
use Rattle.eip_endbook.proofs.book.push_exchanges.Goals as goal

pub loop-before-init : goal.loop-before-init
loop-before-init c = rw exchanges-none (sym (append-nil (string_bytes c.args.out.now)))

pub loop-before-preserved : goal.loop-before-preserved
loop-before-preserved c =
    let s = plan c.args.hub.now in
    let names = route_names c.args.hub.now.set in
    let past = c.args.hub.now.journal.past in
    let k = c.loop-before.before in
    let within : k < total_count s past = omega (arith, c.loop-before-test.true, c.total-before-end.ensures) in
    let o = from-somewhere s past k within in
    let p = placed s past k within in
    grown (string_bytes c.push_exchange.new.out) (string_bytes c.loop-before.out) (string_bytes c.args.out.now) (exchanges_text s names past k) (exchange_line names (k + 1) o.0 p.0) (exchanges_text s names past (k + 1))
    (c.in_ok-push_exchange.ensures o.0 p.0 o.1 p.1) c.loop-before.invariant (exchanges-more s names past k o.0 p.0 o.1 p.1)
