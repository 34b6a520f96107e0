use Rattle.std.proofs.Common.{◌≡◌, Some}
use Rattle.std.proofs.lemmas.Result.{IfOk-weaker}
use Rattle.eip_frames.specs.declared.request.Request.TheVariants.{Arrive}
use Rattle.eip_rows.specs.Coming.{Comes, ComesTo}
use Rattle.eip_rows.specs.declared.coming.Coming.{Coming}
use Rattle.eip_rows.proofs.Settings.{setting-found, of-blocks}
use Rattle.eip_rows.proofs.Comings.{comes-to}
use Rattle.eip_rows.proofs.coming.come.Goals as goal

pub arrive-requires-clause-setting : goal.arrive-requires-clause-setting
arrive-requires-clause-setting c = setting-found c.args.set.now c.in-Arrive.aggregator c.in-Some-aggregator_among.setting.now (rw c.items.ensures at c.in-Some-aggregator_among.ensures)

pub returns-in-Some-aggregator_among-clause-ok : goal.returns-in-Some-aggregator_among-clause-ok
returns-in-Some-aggregator_among-clause-ok c =
    let set = c.args.set.now in
    let row = c.args.row.now in
    let asks = c.in-Arrive in
    let block = c.in-Some-aggregator_among.setting.now.block in
    let number = c.args.number in
    let clock = c.args.clock in
    let same = of-blocks asks.aggregator set.blocks c.in-Some-aggregator_among.setting.now (rw c.items.ensures at c.in-Some-aggregator_among.ensures) in
    let one = c.in-Some.ensures in
    let asked = asks.is in
    let is : row.request ≡ Some (Arrive block asks.key asks.message) = cc in
    IfOk-weaker c.arrive.result (λ (came : Coming). Comes set row block asks.key asks.message number clock c.args.groups.now c.arrive.new.groups came) (λ (came : Coming). ComesTo set row number clock c.args.groups.now c.arrive.new.groups came)
    (λ came h. comes-to set row block asks.key asks.message number clock c.args.groups.now c.arrive.new.groups came is h) c.arrive.ensures.ok
