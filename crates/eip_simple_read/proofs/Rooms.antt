-- What is left of a builder's room.
use Rattle.std.proofs.Common.{◌≡◌, ◌+◌, ◌∙◌, ℕ, List}
use Rattle.std.specs.Prelude.{Result, Ok, Err, OnOk}
use Rattle.eip_simple_read.specs.declared.pattern.Pattern.{Pattern}
use Rattle.eip_simple_read.specs.declared.pattern.PatternFault.{PatternFault}
use Rattle.eip_simple_read.specs.declared.pattern.Size.{Size}
use Rattle.eip_simple_read.specs.Patterns.{Takes, price}

pub takes : (r : Result Pattern PatternFault) (size : Size) (text : List ℕ) (room before left : ℕ) → before ≡ room → OnOk r (left + price size text ≡ before) → OnOk r (Takes text room left)
takes (Ok p) size text room before left same h = (size, h ∙ same)
takes (Err e) size text room before left same h = h
