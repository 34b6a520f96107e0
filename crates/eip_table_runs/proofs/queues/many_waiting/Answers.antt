use Rattle.std.proofs.Common.{◌%◌, ◌∙◌, ◌∷◌}
use Rattle.eip_seda.specs.Consuming.{Offered}
use Rattle.eip_table_runs.proofs.queues.many_waiting.Goals as goal

pub loop-number-preserved : goal.loop-number-preserved
loop-number-preserved c = record {
  as_many = c.in_ok-offer.ensures.as_many ∙ c.loop-number.invariant.as_many;
  stands =
      let s = c.loop-number.invariant.stands in
      (s.0, (Offered (c.loop-number.number % 4) c.from.result ∷ s.1.0, c.in_ok-offer.ensures.ok s.0 s.1.0 s.1.1));
}
