use Rattle.std.proofs.Common.{ap, sym, ◌∙◌}
use Rattle.eip_tables.specs.Row.{Row, with_live}
use Rattle.eip_tables.specs.Moves.{begun}
use Rattle.eip_tables.specs.declared.live.Live.{Live}
use Rattle.eip_tables.specs.declared.row.Stage.TheVariants.{Asks}
use Rattle.eip_rows.proofs.look.look_at.Goals as goal

pub step_on-requires : goal.step_on-requires
step_on-requires c = rw c.get_mut.ensures.value (record {
  cursor = c.requires.cursor;
  has = sym (ap (λ (r : Row). r.cursor) c.in-Some.ensures) ∙ c.requires.has;
  can = c.requires.can;
})

pub returns-in-Ok-clause-ok : goal.returns-in-Ok-clause-ok
returns-in-Ok-clause-ok c =
    let on = rw c.get_mut.ensures.value at c.in-Ok.ensures.ok in
    record {
      was = on.was;
      had = ap (λ (r : Row). r.cursor) c.in-Some.ensures ∙ on.had;
      now = on.now;
      request = on.request;
      row = c.ask.ensures ∙ (ap (λ (l : Live). record (with_live l c.take_live.new.row) { stage = Asks }) on.live ∙ sym (ap (begun on.now on.request) c.in-Some.ensures));
      stepped = on.stepped;
    }
