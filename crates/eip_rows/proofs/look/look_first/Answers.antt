use Rattle.std.proofs.Common.{ap, sym, ◌∙◌}
use Rattle.eip_tables.specs.Row.{Row, with_live}
use Rattle.eip_tables.specs.Moves.{begun}
use Rattle.eip_tables.specs.declared.live.Live.{Live}
use Rattle.eip_tables.specs.declared.row.Stage.TheVariants.{Asks}
use Rattle.eip_rows.proofs.look.look_first.Goals as goal

pub begin_on-requires : goal.begin_on-requires
begin_on-requires c =
    let kept = ap (λ (r : Row). r.birth) c.in_ok-room.ensures.known in
    record {
      birth = c.requires.birth;
      made = rw (c.born-born.ensures, c.get_mut.ensures.value, ← kept) c.requires.made;
      lives = c.requires.lives;
    }

pub returns-in-Ok-clause-ok : goal.returns-in-Ok-clause-ok
returns-in-Ok-clause-ok c =
    let on = rw c.get_mut.ensures.value at c.in-Ok.ensures.ok in
    let kept = ap (λ (r : Row). r.birth) c.in_ok-room.ensures.known in
    record {
      cursor = on.cursor;
      request = on.request;
      row = c.ask.ensures ∙ (ap (λ (l : Live). record (with_live l c.take_room.new.row) { stage = Asks }) on.live ∙ sym (ap (begun on.cursor on.request) c.in_ok-room.ensures.known));
      looked = record { birth = on.birth; made = rw (kept, ← c.born-born.ensures) on.made; stepped = on.stepped };
    }
