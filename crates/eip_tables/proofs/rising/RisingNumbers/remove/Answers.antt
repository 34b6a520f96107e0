use Rattle.std.proofs.Common.{◌≡◌, ℕ, Option, Some, OnSome, inl, inr, subst, sym, ◌∙◌, arith}
use Rattle.std.proofs.lemmas.Bool.{cases_lt}
use Rattle.std.proofs.lemmas.List.Sorted.{searched}
use Rattle.std.specs.List.{remove}
use Rattle.eip_history.specs.Rules.{first}
use Rattle.eip_tables.proofs.NumbersRise.{rising-order, without-absent, without-found, without-least}
use Rattle.eip_tables.proofs.rising.RisingNumbers.remove.Goals as goal

pub returns-in-Ok-clause-numbers : goal.returns-in-Ok-clause-numbers
returns-in-Ok-clause-numbers c =
    let numbers = c.self.inside.numbers.items in
    let rising = rw (← c.self.view_is) at c.requires in
    let found = rw c.in-Ok.is at (searched numbers c.args.number c.binary_search.result c.binary_search.ensures.position (rising-order 0 numbers rising)) in
    let within = rw c.in-Ok.is at c.binary_search.ensures.bound in
    let gone = subst (λ (o : Option ℕ). OnSome o (c.remove.new.self.items ≡ remove numbers c.in-Ok.at)) (c.remove.ensures.succeeds 0 within) c.remove.ensures.items in
    rw (← c.self.view_is) (gone ∙ without-found 0 c.args.number c.in-Ok.at numbers rising found.0 found.1)

pub returns-in_default-binary_search-clause-numbers : goal.returns-in_default-binary_search-clause-numbers
returns-in_default-binary_search-clause-numbers c =
    let numbers = c.self.inside.numbers.items in
    let rising = rw (← c.self.view_is) at c.requires in
    let found = rw c.in_default-binary_search.is at (searched numbers c.args.number c.binary_search.result c.binary_search.ensures.position (rising-order 0 numbers rising)) in
    rw (← c.self.view_is) (sym (without-absent c.args.number numbers (λ k l is.
    elim (cases_lt k c.in_default-binary_search.field-0) [
      | inl below ↦ let less = found.1 k below in omega (arith, less, is)
      | inr above ↦ let more = found.2 k above l in omega (arith, more, is)
    ])))

pub returns-then-least-number-clause-numbers : goal.returns-then-least-number-clause-numbers
returns-then-least-number-clause-numbers c =
    let numbers = c.self.inside.numbers.items in
    let rising = rw (← c.self.view_is) at c.requires in
    let least : first numbers ≡ Some c.args.number = cc in
    rw (← c.self.view_is) (c.pop_front.ensures.rest ∙ without-least c.args.number numbers rising least)
