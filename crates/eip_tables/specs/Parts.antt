-- The parts that an exchange has born, and who is ready behind the end of one.
use Rattle.std.specs.Prelude.{ℕ, ◌+◌, ◌-◌, List, [], ◌∷◌, length, replicate, Option, Some, None, slice_get, slice_set}
use Rattle.eip_exchange.specs.declared.birth.Birth.{Birth}
use Rattle.eip_exchange.specs.declared.birth.Origin.TheVariants as from
use Rattle.eip_exchange.specs.declared.end.Fault.{Fault}
use Rattle.eip_frames.specs.declared.request.At.{At}
use Rattle.eip_frames.specs.declared.request.Seed.{Seed}
use Rattle.eip_frames.specs.declared.request.Request.{Request}
use Rattle.eip_frames.specs.declared.request.Request.TheVariants as request
use Rattle.eip_progress.specs.declared.cursor.Cursor.{Cursor}
use Rattle.eip_progress.specs.Rest.{asked_at}
use Rattle.eip_history.specs.Tables.{put_in}
use Rattle.eip_tables.specs.declared.parts.Parent.{Parent}
use Rattle.eip_tables.specs.Row.{Row}
use Rattle.eip_tables.specs.Moves.{part_row, woken, starving}
use Rattle.eip_tables.specs.Offers.{hops_by}

-- the part with this number and index that a seed makes
abbrev pub seed_birth : Parent → (number index : ℕ) → Seed → Birth
seed_birth p number index d = record {
  number = number;
  origin = from.Part p.number index;
  work = d.work;
  hops = p.hops;
  depth = p.at.depth;
  route = p.at.route;
  care = d.care;
  message = d.message;
}

-- the parts that the seeds make, numbered on and indexed on
abbrev pub seed_births : Parent → (number index : ℕ) → List Seed → List Birth
seed_births p number index [] = []
seed_births p number index (d ∷ ds) = seed_birth p number index d ∷ seed_births p (number + 1) (index + 1) ds

-- their rows
abbrev pub seed_rows : Parent → (number index : ℕ) → List Seed → List Row
seed_rows p number index [] = []
seed_rows p number index (d ∷ ds) = part_row p.number index (seed_birth p number index d) ∷ seed_rows p (number + 1) (index + 1) ds

-- where the last request of a row was asked
abbrev pub at_by : Option Cursor → At
at_by (Some c) = asked_at c
at_by None = record { route = 0; depth = 0; index = 0 }

-- the exchange with this number and row, as the parent of what it asks for
abbrev pub parent_of : ℕ → Row → Parent
parent_of number r = record { number = number; hops = hops_by r.born r.birth; at = at_by r.cursor }

-- the seeds of the parts that are asked for
abbrev pub seeds_asked : Option Request → Option (List Seed)
seeds_asked (Some (request.Spawn seeds)) = Some seeds
seeds_asked _ = None

-- how many parts are asked for
abbrev pub count_asked : Option Request → ℕ
count_asked (Some (request.Spawn seeds)) = length seeds
count_asked _ = 0

-- as many faults for want of memory
abbrev pub starving_faults : ℕ → List Fault
starving_faults count = replicate count starving

-- ---- behind the end of a part

abbrev pub woken_at : Option Row → (i : ℕ) → List Row → List Row
woken_at (Some r) i rows = slice_set rows i (woken r)
woken_at None i rows = rows

-- the rows, with that of the parent that is ready again
abbrev pub rows_behind : Option ℕ → List Row → List Row
rows_behind (Some parent) rows = woken_at (slice_get rows (parent - 1)) (parent - 1) rows
rows_behind None rows = rows

-- the Ready numbers, with that of the parent that is ready again
abbrev pub ready_behind : Option ℕ → List ℕ → List ℕ
ready_behind (Some parent) ready = put_in parent ready
ready_behind None ready = ready
