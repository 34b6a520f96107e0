use Rattle.std.proofs.Common.{◌+◌, ◌++◌, ◌∷◌, [], ℕ, List, ap, ◌∙◌, arith, append_assoc}
use Rattle.eip_tables.specs.Numbers.{numbers_from}
use Rattle.eip_tables.proofs.PutParts.{numbers-one-more}
use Rattle.eip_tables.proofs.rising.RisingNumbers.put_from.Goals as goal

pub loop-index-preserved : goal.loop-index-preserved
loop-index-preserved c = record {
  numbers = c.put_last.ensures.numbers
      ∙ (ap (λ (ns : List ℕ). ns ++ (c.args.first + c.loop-index.index) ∷ []) c.loop-index.invariant.numbers
      ∙ (append_assoc c.args.self.now.numbers (numbers_from c.args.first c.loop-index.index) ((c.args.first + c.loop-index.index) ∷ [])
      ∙ ap (λ (ns : List ℕ). c.args.self.now.numbers ++ ns) (numbers-one-more c.args.first c.loop-index.index)));
  spare = omega (arith, c.put_last.ensures.spare, c.loop-index.invariant.spare);
  capacity = omega (arith, c.put_last.ensures.capacity, c.loop-index.invariant.capacity);
}
