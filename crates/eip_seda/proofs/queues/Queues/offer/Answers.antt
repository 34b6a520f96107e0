use Rattle.std.proofs.Common.{◌<◌, List, ◌∷◌, length, set, IsErrOf, refl, sym, subst}
use Rattle.std.proofs.lemmas.Option.{slice_get_read}
use Rattle.std.proofs.lemmas.Result.{on_ok_weaker}
use Rattle.eip_seda.specs.declared.queues.OfferFault.TheVariants.{QueueFull}
use Rattle.eip_seda.specs.Consuming.{Offered, QueueView, Stands}
use Rattle.eip_seda.proofs.Turns.{stands_offered, full_told}
use Rattle.eip_seda.proofs.queues.Queues.offer.Goals as goal

pub returns-clause-ok : goal.returns-clause-ok
returns-clause-ok c =
    let items = c.self.inside.queues.items in
    let within : c.args.queue < length items = subst (λ (v : List QueueView). c.args.queue < length v) (sym c.self.view_is) c.requires in
    on_ok_weaker c.offer.result
    (λ made limits calls stands. subst (λ (w : QueueView). Stands limits (Offered c.args.queue c.args.number ∷ calls) (set items c.args.queue w)) (sym made)
    (stands_offered limits calls items c.args.queue c.args.number c.index_mut.result.now within
    (slice_get_read items (length items) c.args.queue c.index_mut.result.now refl within c.index_mut.ensures.value)
    (subst (Stands limits calls) (sym c.self.view_is) stands)))
    c.offer.ensures.ok

pub returns-clause-full : goal.returns-clause-full
returns-clause-full c = λ limits calls stands size.
    let items = c.self.inside.queues.items in
    let within : c.args.queue < length items = subst (λ (v : List QueueView). c.args.queue < length v) (sym c.self.view_is) c.requires in
    full_told (IsErrOf c.offer.result (QueueFull size)) size limits calls items c.args.queue c.index_mut.result.now
    (slice_get_read items (length items) c.args.queue c.index_mut.result.now refl within c.index_mut.ensures.value)
    (subst (Stands limits calls) (sym c.self.view_is) stands)
    (c.offer.ensures.full size)
