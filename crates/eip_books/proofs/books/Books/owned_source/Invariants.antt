use Rattle.std.proofs.Common.{ℕ, ◌<◌}
use Rattle.eip_books.specs.Owned.{IsOwnedSource}
use Rattle.eip_books.proofs.books.Books.owned_source.Given as goal

abbrev pub invariant-loop-route : goal.invariant-loop-route
invariant-loop-route l = (r : ℕ) → r < l.route → IsOwnedSource l.self l.worker r → ⊥
