-- The first entries of the small history are legal.
use Rattle.std.proofs.Common.{refl, arith}
use Rattle.eip_history.specs.Own.{own, source_state, clock, turns}
use Rattle.eip_history.specs.Births.{story, fate}
use Rattle.eip_history.specs.Place.{takes_out, pulls_out, place, place_of, ended, numbers_at, count_at, busy}
use Rattle.eip_history.specs.Rules.{KeepsRules, unfinished, startable, dues}
use Rattle.eip_history.specs.Example.{small, early, past_of}

pub early_legal : KeepsRules small 0 100 (past_of early)
unfolding own story fate ended place place_of clock dues unfinished startable source_state numbers_at busy count_at turns pulls_out takes_out KeepsRules
early_legal = (
  (
    (
      (
        (tt, omega arith, ((omega arith, refl), refl, omega arith)),
        omega arith,
        ((omega arith, refl), refl, refl),
      ),
      omega arith,
      record { asks = _; asked_is = refl; fitting = refl; act = (refl, omega arith); content = (refl, omega arith) },
    ),
    omega arith,
    record { asks = _; asked_is = refl; fitting = refl; act = (refl, omega arith); content = refl },
  ),
  omega arith,
  record { asks = _; asked_is = refl; fitting = refl; act = (refl, omega arith); content = tt },
)
