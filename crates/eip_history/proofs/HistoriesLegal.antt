-- The small histories are legal from end to end, and the one of two workers is owned.
use Rattle.std.proofs.Common.{◌++◌, reverse, refl, arith, inl}
use Rattle.eip_history.specs.Own.{own, source_state, clock, turns}
use Rattle.eip_history.specs.Births.{story, fate}
use Rattle.eip_history.specs.Place.{takes_out, pulls_out, place, place_of, ended, numbers_at, count_at, busy}
use Rattle.eip_history.specs.Rules.{KeepsRules, unfinished, startable, dues, served, holder_of}
use Rattle.eip_history.specs.Example.{small, early, middle, late, past_of}
use Rattle.eip_history.specs.Histories.{pair, taken_in, sent, pair_past, starving, pair_outlets}
use Rattle.eip_history.specs.Owner.{IsOwned}
use Rattle.eip_history.proofs.Rows.{early_legal}

pub middle_legal : KeepsRules small 0 100 (past_of (early ++ middle))
unfolding own story fate ended place place_of clock dues unfinished startable source_state numbers_at busy count_at turns pulls_out takes_out served holder_of KeepsRules
middle_legal = (
  (
    (
      (
        (
          (
            (
              (
                early_legal,
                omega arith,
                record { asks = _; asked_is = refl; fitting = refl; act = (refl, omega arith); content = tt },
              ),
              omega arith,
              record { asks = _; asked_is = refl; fitting = refl; act = (refl, omega arith); content = refl },
            ),
            omega arith,
            record { asks = _; asked_is = refl; fitting = refl; act = (refl, omega arith); content = refl },
          ),
          omega arith,
          (refl, omega arith, omega arith),
        ),
        omega arith,
        record { asks = _; asked_is = refl; fitting = refl; act = (refl, omega arith); content = (refl, refl, refl) },
      ),
      omega arith,
      record { asks = _; asked_is = refl; fitting = refl; act = (refl, omega arith); content = tt },
    ),
    omega arith,
    ((omega arith, refl), refl, omega arith),
  ),
  omega arith,
  ((omega arith, refl), refl),
)

-- a queue, a split, a wait and its tick, a key, a group closed by its size and one by its timeout
pub late_legal : KeepsRules small 0 100 (past_of (early ++ middle ++ late))
unfolding own story fate ended place place_of clock dues unfinished startable source_state numbers_at busy count_at turns pulls_out takes_out served holder_of KeepsRules
late_legal = (
  (
    (
      (
        (
          (
            (
              middle_legal,
              omega arith,
              (record { none_ready = refl; no_hand = refl; none_startable = refl; sources_done = refl }, omega arith, refl),
            ),
            omega arith,
            record { asks = _; asked_is = refl; fitting = refl; act = (refl, omega arith); content = refl },
          ),
          omega arith,
          record { asks = _; asked_is = refl; fitting = refl; act = (refl, omega arith); content = (refl, refl, refl, refl) },
        ),
        omega arith,
        record { asks = _; asked_is = refl; fitting = refl; act = (refl, omega arith); content = (refl, refl, refl) },
      ),
      omega arith,
      record { asks = _; asked_is = refl; fitting = refl; act = (refl, omega arith); content = tt },
    ),
    omega arith,
    record { asks = _; asked_is = refl; fitting = refl; act = (refl, omega arith); content = tt },
  ),
  omega arith,
  (record { none_ready = refl; no_hand = refl; none_startable = refl; sources_done = refl }, omega arith, refl),
)

pub taken_in_legal : KeepsRules pair 2 100 (reverse taken_in)
unfolding own story fate ended place place_of clock dues unfinished startable source_state numbers_at busy count_at turns pulls_out takes_out served holder_of KeepsRules
taken_in_legal = (
  (
    (
      (
        tt,
        omega arith,
        ((omega arith, refl), refl, omega arith),
      ),
      omega arith,
      ((omega arith, refl), refl, omega arith),
    ),
    omega arith,
    ((omega arith, refl), refl, refl),
  ),
  omega arith,
  ((omega arith, refl), refl, refl),
)

pub sent_legal : KeepsRules pair 2 100 (reverse (taken_in ++ sent))
unfolding own story fate ended place place_of clock dues unfinished startable source_state numbers_at busy count_at turns pulls_out takes_out served holder_of KeepsRules
sent_legal = (
  (
    (
      (
        (
          (
            (
              (
                taken_in_legal,
                omega arith,
                record { asks = _; asked_is = refl; fitting = refl; act = (refl, omega arith); content = refl },
              ),
              omega arith,
              record { asks = _; asked_is = refl; fitting = refl; act = (refl, omega arith); content = refl },
            ),
            omega arith,
            (refl, refl, omega arith),
          ),
          omega arith,
          record { asks = _; asked_is = refl; fitting = refl; act = refl; content = tt },
        ),
        omega arith,
        (refl, refl, omega arith),
      ),
      omega arith,
      record { asks = _; asked_is = refl; fitting = refl; act = refl; content = tt },
    ),
    omega arith,
    record { asks = _; asked_is = refl; fitting = refl; act = (refl, omega arith); content = tt },
  ),
  omega arith,
  record { asks = _; asked_is = refl; fitting = refl; act = (refl, omega arith); content = tt },
)

-- two sources, one key, two sends, an item refused and a source that failed
pub pair_legal : KeepsRules pair 2 100 pair_past
unfolding own story fate ended place place_of clock dues unfinished startable source_state numbers_at busy count_at turns pulls_out takes_out served holder_of KeepsRules
pair_legal = (
  (
    (
      (
        (
          (
            sent_legal,
            omega arith,
            ((omega arith, refl), refl, omega arith),
          ),
          omega arith,
          ((omega arith, refl), refl),
        ),
        omega arith,
        ((omega arith, refl), refl, omega arith),
      ),
      omega arith,
      ((omega arith, refl), refl),
    ),
    omega arith,
    ((omega arith, refl), refl, omega arith),
  ),
  omega arith,
  ((omega arith, refl), refl),
)

pub starving_legal : KeepsRules pair 0 100 (past_of starving)
unfolding own story fate ended place place_of clock dues unfinished startable source_state numbers_at busy count_at turns pulls_out takes_out served holder_of KeepsRules
starving_legal = (
  (
    (
      (
        tt,
        omega arith,
        ((omega arith, refl), refl, omega arith),
      ),
      omega arith,
      ((omega arith, refl), refl, refl),
    ),
    omega arith,
    record { asks = _; asked_is = refl; fitting = refl; act = (refl, omega arith); content = refl },
  ),
  omega arith,
  inl refl,
)

-- worker 1 made each send and each pull of the first source, worker 2 each pull of the second
pub pair_owned : IsOwned pair pair_outlets 2 pair_past
unfolding own story fate IsOwned
pair_owned = ((((((((((((((((((tt, refl), refl), tt), tt), tt), tt), tt), refl), tt), refl), tt), tt), refl), tt), refl), tt), refl), tt)
