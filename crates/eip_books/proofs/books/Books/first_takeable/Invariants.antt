use Rattle.std.proofs.Common.{◌≡◌, drop, filter}
use Rattle.eip_history.specs.Rules.{first}
use Rattle.eip_books.specs.Owned.{is_takeable}
use Rattle.eip_books.proofs.books.Books.first_takeable.Given as goal

abbrev pub invariant-loop-number : goal.invariant-loop-number
invariant-loop-number l = first (filter (is_takeable l.self l.worker) l.numbers) ≡ first (filter (is_takeable l.self l.worker) (drop l.number-index l.numbers))
