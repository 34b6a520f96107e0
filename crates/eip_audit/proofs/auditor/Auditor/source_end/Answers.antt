use Rattle.std.proofs.Common.{refl}
use Rattle.eip_history.specs.Own as own_of
use Rattle.eip_hub.specs.View.{plan}
use Rattle.eip_ledger.specs.declared.entry.Kind.TheVariants.{SourceEnd}
use Rattle.eip_audit.proofs.Entering.{enters-source}
use Rattle.eip_audit.proofs.SourceStates.{told-at, done}
use Rattle.eip_audit.proofs.auditor.Auditor.source_end.Goals as goal

pub returns : goal.returns
returns c =
    let t = told-at (plan c.args.self.now.books) c.args.self.now.books.journal.past c.args.self.now.sources.items c.requires.holds.sources c.args.source (own_of.Out c.args.worker) (c.is_out.ensures.0 c.if-not-is_out.false) in
    enters-source c.args.self.now _ c.args.worker (SourceEnd c.args.source) c.source_end.ensures.adds c.source_end.ensures.legal
    (λ x. refl) refl c.requires.holds.hands
    (done (plan c.args.self.now.books) c.args.self.now.books.journal.past c.args.self.now.sources.items c.requires.holds.sources c.args.source c.args.worker t.source)
