-- The text of a function.
use Rattle.std.specs.Prelude.{ℕ, List}
use Rattle.eip_simple.specs.declared.functions.Found.{Found}
use Rattle.eip_simple.specs.declared.functions.Found.TheVariants.{Lent, Made}

-- the text that was found
abbrev pub found_text : Found → List ℕ
found_text (Lent t) = t.now
found_text (Made t) = t
