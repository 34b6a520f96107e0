use Rattle.std.proofs.Common.{◌≡◌, ◌≤◌, ◌-◌, length, take, drop}
use Rattle.std.specs.Str.{IsCharBoundary}
use Rattle.eip_text.specs.Cuts as spec
use Rattle.eip_text.proofs.Cutting.{with_front}
use Rattle.eip_text.proofs.cuts.digits.Given as goal

abbrev pub invariant-loop-end : goal.invariant-loop-end
invariant-loop-end l = record {
  within : l.end ≤ length l.bytes;
  boundary : IsCharBoundary l.text l.end;
  so_far : with_front (take l.end l.text) (spec.digits (drop l.end l.text)) ≡ spec.digits l.text;
}

abbrev pub decreases-loop-end : goal.decreases-loop-end
decreases-loop-end l = length l.bytes - l.end
