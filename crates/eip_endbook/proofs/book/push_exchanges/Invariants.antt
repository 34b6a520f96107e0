use Rattle.std.proofs.Common.{◌≡◌, ◌++◌, string_bytes}
use Rattle.eip_history.specs.BookText.{exchanges_text}
use Rattle.eip_hub.specs.View.{plan}
use Rattle.eip_endbook.specs.Names.{route_names}
use Rattle.eip_endbook.proofs.book.push_exchanges.Given as goal

abbrev pub invariant-loop-before : goal.invariant-loop-before
invariant-loop-before l = string_bytes l.out ≡ string_bytes l.initial.out ++ exchanges_text (plan l.hub) (route_names l.hub.set) l.hub.journal.past l.before
