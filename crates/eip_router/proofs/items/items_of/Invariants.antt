use Rattle.std.proofs.Common.{◌≡◌, ◌++◌, drop, map}
use Rattle.eip_router.specs.Recipients as spec
use Rattle.eip_router.proofs.items.items_of.Given as goal

abbrev pub invariant-loop-piece : goal.invariant-loop-piece
invariant-loop-piece l = map (λ x. x.now) l.items.items ++ spec.items_of (map (λ x. x.now) (drop l.piece-index l.pieces)) ≡ spec.items_of (map (λ x. x.now) l.pieces)
