use Rattle.std.proofs.Common.{◌<◌, List, length, set, refl, sym, subst}
use Rattle.std.proofs.lemmas.Option.{slice_get_read}
use Rattle.eip_seda.specs.Consuming.{QueueView, Stands, started_by}
use Rattle.eip_seda.proofs.Turns.{stands_started}
use Rattle.eip_seda.proofs.queues.Queues.start.Goals as goal

pub returns-clause-stands : goal.returns-clause-stands
returns-clause-stands c = λ limits calls stands.
    let items = c.self.inside.queues.items in
    let within : c.args.queue < length items = subst (λ (v : List QueueView). c.args.queue < length v) (sym c.self.view_is) c.requires in
    subst (λ (w : QueueView). Stands limits (started_by c.args.queue c.start.result calls) (set items c.args.queue w)) (sym c.start.ensures.queue)
    (stands_started c.start.result limits calls items c.args.queue c.index_mut.result.now within
    (slice_get_read items (length items) c.args.queue c.index_mut.result.now refl within c.index_mut.ensures.value)
    (sym c.start.ensures.number)
    (subst (Stands limits calls) (sym c.self.view_is) stands))
