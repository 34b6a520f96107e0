use Rattle.std.proofs.Common.{ap, Some}
use Rattle.eip_uri.specs.Printed.{printed}
use Rattle.eip_endpoint.proofs.Answering.{pulled-given, pulled-left, pulled-ends, pulled-fair, pulled-told}
use Rattle.eip_endpoint.proofs.memory_source.MemorySourceSource.pull.Goals as goal

pub returns : goal.returns
returns c = record {
  given = λ u. ap Some (pulled-given c.args.self.now (printed c.args.from.now) c.next.result c.next.new.self c.next.ensures.pulled u);
  left = λ u. ap Some
      (pulled-left c.args.self.now (printed c.args.from.now) c.next.result c.next.new.self c.next.ensures.items c.next.ensures.pulled u);
  ends = pulled-ends c.args.self.now (printed c.args.from.now) c.next.result c.next.new.self c.next.ensures.items c.next.ensures.pulled;
  commits = λ u. ap Some (pulled-told c.args.self.now (printed c.args.from.now) c.next.result c.next.new.self c.next.ensures.pulled u);
  fair = pulled-fair c.args.self.now (printed c.args.from.now) c.next.result c.next.new.self c.next.ensures.items c.next.ensures.pulled;
  faults = c.next.ensures.faults;
  pulled = c.next.ensures.pulled;
}
