use Rattle.std.proofs.Common.{◌∙◌, sym}
use Rattle.eip_table_laws.proofs.InnerCalls.{kind-line, kind-route, kind-copy, kind-parts, kind-ends, kind-moment, kind-group, kind-key, kind-end}
use Rattle.eip_books.proofs.books.Books.inner.Goals as goal

pub note-requires-clause-line : goal.note-requires-clause-line
note-requires-clause-line c = let known = c.in_ok-look.ensures.known in kind-line c.look.new.self.known c.args.number known.0 known.1 (sym (c.asked.ensures.kind known.0 known.1) ∙ c.in-Line.is)

pub finish-requires-clause-end : goal.finish-requires-clause-end
finish-requires-clause-end c = let known = c.in_ok-look.ensures.known in kind-end c.look.new.self.known c.args.number known.0 known.1 (sym (c.asked.ensures.kind known.0 known.1) ∙ c.in-End.is)

pub enter-requires-clause-call : goal.enter-requires-clause-call
enter-requires-clause-call c = let known = c.in_ok-look.ensures.known in kind-route c.look.new.self.known c.args.number known.0 known.1 (sym (c.asked.ensures.kind known.0 known.1) ∙ c.in-Route.is)

pub offer-requires-clause-copy : goal.offer-requires-clause-copy
offer-requires-clause-copy c = let known = c.in_ok-look.ensures.known in kind-copy c.look.new.self.known c.args.number known.0 known.1 (sym (c.asked.ensures.kind known.0 known.1) ∙ c.in-Copy.is)

pub spawn-requires-clause-parts : goal.spawn-requires-clause-parts
spawn-requires-clause-parts c = let known = c.in_ok-look.ensures.known in kind-parts c.look.new.self.known c.args.number known.0 known.1 (sym (c.asked.ensures.kind known.0 known.1) ∙ c.in-Parts.is)

pub join-requires-clause-ends : goal.join-requires-clause-ends
join-requires-clause-ends c = let known = c.in_ok-look.ensures.known in kind-ends c.look.new.self.known c.args.number known.0 known.1 (sym (c.asked.ensures.kind known.0 known.1) ∙ c.in-Ends.is)

pub wait-requires-clause-moment : goal.wait-requires-clause-moment
wait-requires-clause-moment c = let known = c.in_ok-look.ensures.known in kind-moment c.look.new.self.known c.args.number known.0 known.1 (sym (c.asked.ensures.kind known.0 known.1) ∙ c.in-Moment.is)

pub arrive-requires-clause-group : goal.arrive-requires-clause-group
arrive-requires-clause-group c = let known = c.in_ok-look.ensures.known in kind-group c.look.new.self.known c.args.number known.0 known.1 (sym (c.asked.ensures.kind known.0 known.1) ∙ c.in-Group.is)

pub claim-requires-clause-key : goal.claim-requires-clause-key
claim-requires-clause-key c = let known = c.in_ok-look.ensures.known in kind-key c.look.new.self.known c.args.number known.0 known.1 (sym (c.asked.ensures.kind known.0 known.1) ∙ c.in-Key.is)
