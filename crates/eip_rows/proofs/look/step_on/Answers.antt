use Rattle.std.proofs.Common.{refl}
use Rattle.eip_rows.proofs.There.{on-ok}
use Rattle.eip_rows.proofs.look.step_on.Goals as goal

pub returns-clause-ok : goal.returns-clause-ok
returns-clause-ok c =
    on-ok c.go_on.result _ _
    (λ goes. record {
      was = c.in-Some.cursor;
      had = c.in-Some.is;
      now = c.go_on.new.cursor;
      request = goes.0;
      live = rw goes.1 refl;
      stepped = record { later = goes.2.2; rests = goes.2.0; at = _; asks = goes.2.1 };
    })
    c.go_on.ensures.ok
