use Rattle.std.proofs.Common.{◌≡◌, ◌++◌, length, map}
use denote.Text.{Utf8}
use denote.Shadow.{shadow}
use Rattle.eip_text.specs.Cuts.{pieces}
use Rattle.eip_uri.specs.Options as spec
use Rattle.eip_uri.proofs.options.Options.add_query.Given as goal

abbrev pub invariant-loop-piece : goal.invariant-loop-piece
invariant-loop-piece l = record {
  is_text : shadow (Utf8 l.rest);
  faults : spec.first_fault l.scheme (spec.now_entries l.self.given.items) (map spec.entry (pieces 38 l.rest)) ≡ spec.first_fault l.scheme (spec.now_entries l.fn.self.given.items) (map spec.entry (pieces 38 l.query));
  all : spec.now_entries l.self.given.items ++ map spec.entry (pieces 38 l.rest) ≡ spec.now_entries l.fn.self.given.items ++ map spec.entry (pieces 38 l.query);
}

abbrev pub decreases-loop-piece : goal.decreases-loop-piece
decreases-loop-piece l = length l.rest
