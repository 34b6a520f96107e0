use Rattle.std.proofs.Common.{refl}
use Rattle.eip_rows.specs.First.{with_message}
use Rattle.eip_rows.proofs.Beginning.{may_begin, begun_on}
use Rattle.eip_rows.proofs.look.begin_birth.Goals as goal

pub begin-requires : goal.begin-requires
begin-requires c = record {
  lives = may_begin c.args.set.now (with_message c.args.message c.args.live.now.birth) (record c.in-Some.birth { message = c.args.message }) _ _ _ _
      (rw c.in-Some.is refl)
      (record { context = rw c.of-context.ensures refl; origin = rw c.in_ok-origin.ensures refl; work = refl; message = refl })
      c.requires;
}

pub returns-clause-ok : goal.returns-clause-ok
returns-clause-ok c =
    begun_on c.args.set.now (with_message c.args.message c.args.live.now.birth) (record c.in-Some.birth { message = c.args.message }) _ _ _ _
    c.args.live.now c.begin.new.place c.begin.new.asked c.begin.result
    (rw c.in-Some.is refl)
    (record { context = rw c.of-context.ensures refl; origin = rw c.in_ok-origin.ensures refl; work = refl; message = refl })
    c.begin.ensures.ok
