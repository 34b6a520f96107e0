use Rattle.std.proofs.Common.{◌≡◌, ◌≤◌, List, [], ◌∷◌, length, refl, arith}
use Rattle.eip_history.specs.Own as own_of
use Rattle.eip_hub.specs.View.{plan, Adds}
use Rattle.eip_ledger.specs.declared.entry.Kind.TheVariants.{Accept}
use Rattle.eip_audit.proofs.Entering.{enters-source}
use Rattle.eip_audit.proofs.SourceStates.{told-at, accepted}
use Rattle.eip_audit.proofs.auditor.Auditor.accept.Goals as goal

no-more : {A : Type 0} (xs : List A) → length xs ≤ 0 → xs ≡ []
no-more [] h = refl
no-more (x ∷ xs) h = absurd (omega (arith, h))

pub accept-requires-clause-may : goal.accept-requires-clause-may
accept-requires-clause-may c =
    let t = told-at (plan c.args.self.now.books) c.args.self.now.books.journal.past c.args.self.now.sources.items c.requires.holds.sources c.args.source (own_of.Out c.args.worker) (c.is_out.ensures.0 c.if-not-is_out.false) in
    let few : c.args.message.now.properties ≡ [] = no-more c.args.message.now.properties (omega (arith, c.len.ensures.len, c.if-len-gt0.false)) in
    (t.source, t.state, rw c.in_ok-message.ensures few)

pub index_mut-requires : goal.index_mut-requires
index_mut-requires c =
    let t = told-at (plan c.args.self.now.books) c.args.self.now.books.journal.past c.args.self.now.sources.items c.requires.holds.sources c.args.source (own_of.Out c.args.worker) (c.is_out.ensures.0 c.if-not-is_out.false) in
    omega (arith, t.source.0, c.requires.holds.sources.many, c.args.self.now.sources.ok.0)

pub returns : goal.returns
returns c =
    let adds : Adds c.args.self.now.books c.accept.new.self c.args.worker (Accept c.args.source c.args.item.now c.args.message.now) = rw (c.in_ok-item.ensures, c.in_ok-message.ensures) at c.accept.ensures.adds in
    let t = told-at (plan c.args.self.now.books) c.args.self.now.books.journal.past c.args.self.now.sources.items c.requires.holds.sources c.args.source (own_of.Out c.args.worker) (c.is_out.ensures.0 c.if-not-is_out.false) in
    enters-source c.args.self.now _ c.args.worker (Accept c.args.source c.args.item.now c.args.message.now) adds c.accept.ensures.legal
    (λ x. refl) refl c.requires.holds.hands
    (accepted (plan c.args.self.now.books) c.args.self.now.books.journal.past c.args.self.now.sources.items c.requires.holds.sources c.args.source c.args.worker t.source c.args.item.now c.args.message.now)
