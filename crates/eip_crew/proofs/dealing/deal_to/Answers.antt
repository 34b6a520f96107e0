use Rattle.std.proofs.Common.{◌≡◌, ◌∙◌, length, sym, ap, arith}
use Rattle.eip_shares.specs.Shares.{share}
use Rattle.eip_crew.specs.Team.{items_at}
use Rattle.eip_crew.proofs.Lists.{list-at, whole}
use Rattle.eip_crew.proofs.dealing.deal_to.Goals as goal

pub returns-clause-dealt : goal.returns-clause-dealt
returns-clause-dealt g c k within =
    let lists = c.args.lists.now in
    let new = c.deal.new.lists in
    let lent = ap length c.as_mut_slice.ensures.value in
    let same : length new ≡ length lists.items = c.deal.auto.lists ∙ lent in
    let count : length c.as_mut_slice.result.now ≡ lists.len = lent ∙ sym lists.ok.0 in
    ap (λ l. items_at l k) (whole lists.len new lists.items same lists.ok.0)
    ∙ list-at new k (share lists.len k 0 c.args.items.now.items) (omega (arith, within, same, lists.ok.0))
    (λ d. c.deal.ensures.dealt k d (omega (arith, within, count)) ∙ ap (λ n. share n k 0 c.args.items.now.items) count)
