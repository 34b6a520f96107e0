use Rattle.eip_shared.specs.Looks.{LooksIn}
use Rattle.eip_shared.specs.declared.looks.Look.TheVariants.{Did}
use Rattle.eip_shared.proofs.next.next.Given as goal

abbrev pub invariant-loop : goal.invariant-loop
invariant-loop l = record { looks : LooksIn l.fn.hub l.hub l.worker Did }
