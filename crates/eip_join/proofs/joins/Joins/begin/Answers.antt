use Rattle.std.proofs.Common.{ℕ, List, Some, sym, subst}
use Rattle.eip_ordered.specs.Numbered.{Puts}
use Rattle.eip_join.specs.Parts.{Open, IsFree, AreNew, AreIndexed, Stands}
use Rattle.eip_join.proofs.Standing.{stands_began}
use Rattle.eip_join.proofs.Indexed.{indexed_began, indexed_undone}
use Rattle.eip_join.proofs.joins.Joins.begin.Goals as goal

pub invariant_of-self-in-Err : goal.invariant_of-self-in-Err
invariant_of-self-in-Err c =
    subst (λ (es : List (ℕ × Open)). AreIndexed es c.unindex.new.parents.entries) (sym c.in-Err.ensures.err)
    (indexed_undone c.self.inside.joins.entries c.self.inside.parents.entries c.index.new.parents.entries c.unindex.new.parents.entries c.args.parent c.args.first c.args.count
    c.in_ok-index.ensures.ok c.unindex.ensures (subst (AreNew c.args.first c.args.count) (sym c.self.view_is) c.requires.apart) c.self.invariant)

pub invariant_of-self-in_default : goal.invariant_of-self-in_default
invariant_of-self-in_default c =
    indexed_began c.self.inside.joins.entries c.put.new.map.entries c.self.inside.parents.entries c.index.new.parents.entries c.args.parent c.args.first c.args.count
    (subst (λ (j : Open). Puts c.self.inside.joins.entries c.put.new.map.entries c.args.parent (Some j)) c.in_ok-join.ensures c.in_default.ensures.ok)
    c.in_ok-index.ensures.ok
    (subst (IsFree c.args.parent) (sym c.self.view_is) c.requires.free)
    (subst (AreNew c.args.first c.args.count) (sym c.self.view_is) c.requires.apart)
    c.self.invariant

pub returns-clause-ok : goal.returns-clause-ok
returns-clause-ok c = λ calls stands.
    stands_began calls c.self.inside.joins.entries c.put.new.map.entries c.args.parent c.args.first c.args.count
    (subst (λ (j : Open). Puts c.self.inside.joins.entries c.put.new.map.entries c.args.parent (Some j)) c.in_ok-join.ensures c.in_default.ensures.ok)
    (subst (AreNew c.args.first c.args.count) (sym c.self.view_is) c.requires.apart)
    (subst (Stands calls) (sym c.self.view_is) stands)
