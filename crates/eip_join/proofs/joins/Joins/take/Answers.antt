use Rattle.std.proofs.Common.{ℕ, sym, subst}
use Rattle.eip_join.specs.Parts.{Unindexes}
use Rattle.eip_join.proofs.Indexed.{indexed_taken}
use Rattle.eip_join.proofs.joins.Joins.take.Goals as goal

pub invariant_of-self : goal.invariant_of-self
invariant_of-self c =
    indexed_taken c.self.inside.joins.entries c.take.new.map.entries c.self.inside.parents.entries c.unindex.new.parents.entries c.args.parent c.in-Some.join
    (sym c.in-Some.ensures.value) c.in-Some.ensures.rest
    (subst (λ (n : ℕ). Unindexes c.self.inside.parents.entries c.unindex.new.parents.entries c.in-Some.join.first n) c.count.ensures
    (subst (λ (f : ℕ). Unindexes c.self.inside.parents.entries c.unindex.new.parents.entries f c.count.result) c.first.ensures c.unindex.ensures))
    c.self.invariant
