use Rattle.std.proofs.Common.{refl}
use Rattle.eip_exchange.specs.declared.birth.Origin.TheVariants.{Source}
use Rattle.eip_exchange.specs.declared.birth.Work.TheVariants.{Block}
use Rattle.eip_history.specs.Births.{item_birth}
use Rattle.eip_meaning.specs.Contexts.{context_of}
use Rattle.eip_plan.specs.Plan.{plan_of}
use Rattle.eip_tables.specs.Look.{birth_at}
use Rattle.eip_rows.proofs.Beginning.{may_begin, begun_on}
use Rattle.eip_rows.proofs.look.begin_item.Goals as goal

pub begin-requires : goal.begin-requires
begin-requires c =
    let b = item_birth (plan_of c.args.set.now) c.args.number c.in-Accept.source c.in-Accept.item c.in-Accept.message in
    record {
      lives = may_begin c.args.set.now (birth_at c.args.set.now c.args.number c.args.kind.now) b
          (context_of b) (Source c.in-Accept.source c.in_ok-copy-in-Accept.field-0) (Block c.block_of.result) c.in_ok-message-in-Accept.message
          (rw c.in-Accept.is refl)
          (record { context = refl; origin = rw c.in_ok-copy-in-Accept.ensures refl; work = rw c.block_of.ensures refl; message = rw (c.in_ok-message-in-Accept.ensures, c.get.ensures) refl })
          c.requires;
    }

pub returns-clause-ok : goal.returns-clause-ok
returns-clause-ok c =
    let b = item_birth (plan_of c.args.set.now) c.args.number c.in-Accept.source c.in-Accept.item c.in-Accept.message in
    begun_on c.args.set.now (birth_at c.args.set.now c.args.number c.args.kind.now) b
    (context_of b) (Source c.in-Accept.source c.in_ok-copy-in-Accept.field-0) (Block c.block_of.result) c.in_ok-message-in-Accept.message
    c.args.live.now c.begin.new.place c.begin.new.asked c.begin.result
    (rw c.in-Accept.is refl)
    (record { context = refl; origin = rw c.in_ok-copy-in-Accept.ensures refl; work = rw c.block_of.ensures refl; message = rw (c.in_ok-message-in-Accept.ensures, c.get.ensures) refl })
    c.begin.ensures.ok
