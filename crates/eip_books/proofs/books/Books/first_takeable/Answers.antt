use Rattle.std.proofs.Common.{◌∙◌, sym}
use Rattle.eip_tables.proofs.FirstWanted.{first-here, first-later}
use Rattle.eip_books.specs.Owned.{is_takeable}
use Rattle.eip_books.proofs.books.Books.first_takeable.Goals as goal

pub returns-then-is_takeable : goal.returns-then-is_takeable
returns-then-is_takeable c =
    sym (c.loop-number.invariant
    ∙ first-here (is_takeable c.args.self.now c.args.worker) c.args.numbers.now c.loop-number.number-index 0 c.loop-number-test.true (sym c.is_takeable.ensures ∙ c.if-is_takeable.true))

pub loop-number-preserved : goal.loop-number-preserved
loop-number-preserved c =
    c.loop-number.invariant
    ∙ first-later (is_takeable c.args.self.now c.args.worker) c.args.numbers.now c.loop-number.number-index 0 c.loop-number-test.true (sym c.is_takeable.ensures ∙ c.if-is_takeable.false)
