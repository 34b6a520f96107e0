use Rattle.std.proofs.Common.{sym, subst, ◌-◌}
use Rattle.eip_join.specs.Parts.{IsOpenPart, Stands}
use Rattle.eip_join.proofs.Indexed.{part_unended, stands_part, indexed_ended}
use Rattle.eip_join.proofs.joins.Joins.part_ended.Goals as goal

pub end_part-requires : goal.end_part-requires
end_part-requires c =
    part_unended c.self.inside.joins.entries c.self.inside.parents.entries c.args.number (subst (IsOpenPart c.args.number) (sym c.self.view_is) c.requires) c.self.invariant (c.in-Some.first, c.in-Some.parent) c.in-Some.ensures

pub invariant_of-self : goal.invariant_of-self
invariant_of-self c =
    indexed_ended c.self.inside.joins.entries c.end_part.new.joins.entries c.self.inside.parents.entries c.in-Some.parent (c.args.number - c.in-Some.first) c.args.ended c.end_part.ensures c.self.invariant

pub returns : goal.returns
returns c = λ calls stands.
    stands_part calls c.self.inside.joins.entries c.end_part.new.joins.entries c.self.inside.parents.entries c.args.number c.args.ended (subst (IsOpenPart c.args.number) (sym c.self.view_is) c.requires) c.self.invariant
    (c.in-Some.first, c.in-Some.parent) c.in-Some.ensures c.end_part.ensures (subst (Stands calls) (sym c.self.view_is) stands)
