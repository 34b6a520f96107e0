use Rattle.std.proofs.Common.{arith, subst, Some, None, List, ℕ}
use Rattle.memchr.specs.Find.{IsFirstByte, is_byte}
use Rattle.eip_line.proofs.LineLaws.{line_length-le, line_length-found, line_length-none}
use Rattle.eip_line.proofs.buffer.line_length_behind.Goals as goal

pub split_at-requires : goal.split_at-requires
split_at-requires c = omega (arith, line_length-le c.args.bytes.now)

pub returns-in-Some : goal.returns-in-Some
returns-in-Some c =
    line_length-found c.args.bytes.now c.args.searched c.in-Some.index c.requires
    (subst (λ (bs : List ℕ). IsFirstByte (is_byte 10) bs (Some c.in-Some.index)) c.split_at.ensures.back c.in-Some.ensures)

pub returns-in-None : goal.returns-in-None
returns-in-None c =
    line_length-none c.args.bytes.now c.args.searched c.requires
    (subst (λ (bs : List ℕ). IsFirstByte (is_byte 10) bs None) c.split_at.ensures.back c.in-None.ensures)
