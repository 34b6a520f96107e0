use Rattle.std.proofs.Common.{◌≡◌, ◌∙◌, true, false, Some, refl, sym, eq-eqb}
use Rattle.eip_ledger.specs.declared.entry.Kind.TheVariants.{Starve}
use Rattle.eip_ledger.specs.declared.place.Place.TheVariants.{Ready}
use Rattle.eip_history.specs.Place.{place}
use Rattle.eip_hub.specs.View.{plan}
use Rattle.eip_audit.proofs.Behind.{none-on, adds-on}
use Rattle.eip_audit.proofs.Entering.{enters-free}
use Rattle.eip_audit.proofs.OwnEntries.{free-told, free-none, starved-ready, others-starve}
use Rattle.eip_audit.proofs.auditor.Auditor.starve_ready.Goals as goal

pub returns-then-not-ready : goal.returns-then-not-ready
returns-then-not-ready c = λ may.
    let t = c.in_ok-ready.ensures.1 (starved-ready (plan c.args.self.now.books) c.args.self.now.books.journal.past c.args.number c.args.worker (free-told (plan c.args.self.now.books) c.args.self.now.books.journal.past c.args.self.now.hands.entries c.args.number c.requires.holds.hands c.requires.free) may) in
    let both : false ≡ true = sym c.if-not-ready.true ∙ t in
    cc both

pub starve-requires-clause-ready : goal.starve-requires-clause-ready
starve-requires-clause-ready c = none-on c.args.self.now.books c.reserve.new.self c.in_ok-reserve.ensures.none (λ s t p. place s p c.args.number ≡ Some Ready) (c.in_ok-ready.ensures.0 c.if-not-ready.false)

pub returns : goal.returns
returns c =
    let adds = adds-on c.args.self.now.books c.reserve.new.self c.in_ok-reserve.ensures.none c.starve.new.self c.args.worker (Starve c.args.number) c.starve.ensures.adds in
    enters-free c.args.self.now _ c.args.worker (Starve c.args.number) adds c.starve.ensures.legal c.args.number (others-starve c.args.number) (eq-eqb c.args.number c.args.number refl) refl (λ u was. refl)
    (free-none c.args.self.now.hands.entries c.args.number c.requires.free) refl refl c.requires.holds
