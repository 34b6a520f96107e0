use Rattle.std.proofs.Common.{refl}
use Rattle.eip_history.specs.Own as own_of
use Rattle.eip_hub.specs.View.{plan, Adds}
use Rattle.eip_ledger.specs.declared.entry.Kind.TheVariants.{Refuse}
use Rattle.eip_audit.proofs.Entering.{enters-source}
use Rattle.eip_audit.proofs.SourceStates.{told-at, refused}
use Rattle.eip_audit.proofs.auditor.Auditor.refuse.Goals as goal

pub returns : goal.returns
returns c =
    let adds : Adds c.args.self.now.books c.refuse.new.self c.args.worker (Refuse c.args.source c.args.item.now c.args.cause) = rw c.in_ok-item.ensures at c.refuse.ensures.adds in
    let t = told-at (plan c.args.self.now.books) c.args.self.now.books.journal.past c.args.self.now.sources.items c.requires.holds.sources c.args.source (own_of.Out c.args.worker) (c.is_out.ensures.0 c.if-not-is_out.false) in
    enters-source c.args.self.now _ c.args.worker (Refuse c.args.source c.args.item.now c.args.cause) adds c.refuse.ensures.legal
    (λ x. refl) refl c.requires.holds.hands
    (refused (plan c.args.self.now.books) c.args.self.now.books.journal.past c.args.self.now.sources.items c.requires.holds.sources c.args.source c.args.worker t.source c.args.item.now c.args.cause)
