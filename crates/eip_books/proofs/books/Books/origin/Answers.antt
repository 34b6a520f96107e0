use Rattle.std.proofs.Common.{arith, ◌<◌, ◌∙◌}
use Rattle.eip_books.specs.Facts.{tables_of}
use Rattle.eip_table_laws.proofs.OriginCalls.{origin-zero, origin-beyond, origin-is}
use Rattle.eip_books.proofs.books.Books.origin.Goals as goal

pub returns-then-number-eq0 : goal.returns-then-number-eq0
returns-then-number-eq0 c = origin-zero c.args.self.now.set c.args.self.now.journal.past c.args.number c.if-number-eq0.true

pub returns-then-number-len : goal.returns-then-number-len
returns-then-number-len c = rw (← c.self.view_is) (origin-beyond (tables_of c.self.inside) c.self.invariant.stands c.args.number (let l = c.if-number-len.true in omega (arith, l, c.len.ensures)))

pub returns : goal.returns
returns c =
    let above : 0 < c.args.number = let n = c.if-number-eq0.false in omega (arith, n) in
    rw (← c.self.view_is) (c.origin_born.ensures ∙ rw (c.born.ensures, c.entries.ensures) (origin-is (tables_of c.self.inside) c.self.invariant.stands c.args.number c.get.result.now above (let l = c.if-number-len.false in omega (arith, l, c.len.ensures)) c.get.ensures))
