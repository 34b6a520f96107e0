-- The row that is changed is the one with the number.
use Rattle.std.proofs.Common.{◌≡◌, ℕ, ◌-◌, ◌<◌, ◌≤◌, List, length, get_or, Some, None, Result, Ok, Err, refl, sym, ◌∙◌, ap, arith}
use Rattle.std.specs.List.{slice_get}
use Rattle.std.specs.Result.{OnOk}
use Rattle.std.proofs.lemmas.Option.{slice_get_read}
use Rattle.eip_exchange.specs.declared.message.Message.{Message}
use Rattle.eip_exchange.specs.declared.end.End.{End}
use Rattle.eip_frames.specs.Fate.{Fate, Ends}
use Rattle.eip_history.specs.Place.{end_of}
use Rattle.eip_tables.specs.Row.{Row}

pub row-there : (rows : List Row) (number : ℕ) (r : Row) → 0 < number → number ≤ length rows → r ≡ get_or rows (number - 1) r → slice_get rows (number - 1) ≡ Some r
row-there rows number r above within read = slice_get_read rows (length rows) (number - 1) r refl (omega (arith, above, within)) read

pub on-ok : {A E : Type 0} (r : Result A E) (P Q : Type 0) → (P → Q) → OnOk r P → OnOk r Q
on-ok (Ok x) P Q f h = f h
on-ok (Err e) P Q f h = tt

none_some : {X : Type 0} {k : X} → None ≡ Some k → ⊥
none_some e = cc

-- a fate without an end is none
pub lives_on : (f : Fate) → end_of f ≡ None → (e : End) (m : Message) → f ≡ Ends e m → ⊥
lives_on f n e m h = none_some (sym n ∙ ap end_of h)
