use Rattle.std.proofs.Common.{◌≡◌, List, ◌∷◌, [], sym, ap, subst, rules, Some, Option}
use Rattle.atomic_table.specs.Table.{opening}
use Rattle.eip_turnstile.specs.Rule.{Kept, first_view}
use Rattle.eip_turnstile.proofs.Keeps.{begins}
use Rattle.eip_turnstile.proofs.seat.Turnstile.new.Goals as goal

pub new-requires : goal.new-requires
new-requires g c =
    let start = g.V.Chronicle.base c.of-about.result.value in
    let is : c.of-about.result.value ≡ c.args.value = c.of-about.ensures in
    let items : c.push_reserved.new.self.items ≡ Some c.args.value ∷ [] = search rules in
    subst (λ (xs : List (Option g.row.V.Denot)). Kept g.V.Chronicle.entries g.V.Chronicle.base start (opening (0 ∷ 0 ∷ []) xs (first_view start))) (sym items)
    (begins g.V.Chronicle.entries g.V.Chronicle.base start c.args.value c.requires.empty (ap g.V.Chronicle.base (sym is)))
