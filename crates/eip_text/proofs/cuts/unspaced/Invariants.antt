use Rattle.std.proofs.Common.{◌≡◌, ◌≤◌, length}
use denote.Text.{Utf8}
use denote.Shadow.{shadow}
use Rattle.eip_text.specs.Cuts as spec
use Rattle.eip_text.proofs.cuts.unspaced.Given as goal

abbrev pub invariant-loop-more : goal.invariant-loop-more
invariant-loop-more l = shadow (Utf8 l.rest) × (spec.unspaced l.rest ≡ spec.unspaced l.text) × (length l.rest ≤ length l.text)

abbrev pub decreases-loop-more : goal.decreases-loop-more
decreases-loop-more l = length l.rest
