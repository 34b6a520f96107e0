use Rattle.std.proofs.Common.{ℕ, ◌≡◌, ◌+◌, drop}
use Rattle.eip_keyed.specs.Keyed.{found, StandsAt}
use Rattle.eip_keyed.proofs.keyed.find.Given as goal

abbrev pub invariant-loop-place : goal.invariant-loop-place
invariant-loop-place g l = record {
  first : (k : ℕ) → StandsAt l.key k (drop l.place l.entries) → StandsAt l.key (l.place + k) l.entries;
  none : found l.key l.entries ≡ found l.key (drop l.place l.entries);
}
