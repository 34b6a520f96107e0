use Rattle.std.proofs.Common.{cond, ◌==◌, Option, Some, is_some, option_map, sym, ap, subst, ◌∙◌}
use Rattle.eip_ordered.specs.Numbered.{value_at}
use Rattle.eip_join.specs.Parts.{Open, IsUnended, with_end}
use Rattle.eip_ordered.proofs.Lookups.{found, puts}
use Rattle.eip_join.proofs.maps.end_part.Goals as goal

pub end-requires : goal.end-requires
end-requires c = subst (IsUnended c.args.index) (sym (found c.args.joins.now c.args.parent) ∙ sym c.in-Some.ensures.value) c.requires

pub returns : goal.returns
returns c = λ x.
    puts c.args.joins.now (c.get_mut.follows.lender c.end.new.self) c.args.parent (Some c.end.new.self) ((c.get_mut.follows.holds c.end.new.self).3 (ap is_some (sym c.in-Some.ensures.value))).0 x
    ∙ ap (λ (o : Option Open). cond (c.args.parent == x) o (value_at c.args.joins.now.entries x))
    (ap (λ (j : Open). Some j) c.end.ensures ∙ ap (option_map (with_end c.args.index c.args.ended)) (c.in-Some.ensures.value ∙ found c.args.joins.now c.args.parent))
