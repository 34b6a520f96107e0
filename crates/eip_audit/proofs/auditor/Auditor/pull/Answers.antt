use Rattle.std.proofs.Common.{refl}
use Rattle.eip_history.specs.Own as own_of
use Rattle.eip_hub.specs.View.{plan}
use Rattle.eip_ledger.specs.declared.entry.Kind.TheVariants.{Pull}
use Rattle.eip_audit.proofs.Behind.{adds-on}
use Rattle.eip_audit.proofs.Entering.{enters-source}
use Rattle.eip_audit.proofs.SourceStates.{told-at, pulled}
use Rattle.eip_audit.proofs.auditor.Auditor.pull.Goals as goal

pub returns : goal.returns
returns c =
    let t = told-at (plan c.args.self.now.books) c.args.self.now.books.journal.past c.args.self.now.sources.items c.requires.holds.sources c.args.source own_of.Idle (c.is_idle.ensures.0 c.if-not-is_idle.false) in
    let adds = adds-on c.args.self.now.books c.reserve.new.self c.in_ok-reserve.ensures.none c.pull.new.self c.args.worker (Pull c.args.source) c.pull.ensures.adds in
    enters-source c.args.self.now _ c.args.worker (Pull c.args.source) adds c.pull.ensures.legal
    (λ x. refl) refl c.requires.holds.hands
    (pulled (plan c.args.self.now.books) c.args.self.now.books.journal.past c.args.self.now.sources.items c.requires.holds.sources c.args.source c.args.worker t.source)
