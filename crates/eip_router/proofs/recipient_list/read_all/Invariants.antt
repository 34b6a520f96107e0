use Rattle.std.proofs.Common.{◌≡◌, drop, map}
use Rattle.eip_router.specs.Recipients as spec
use Rattle.eip_router.proofs.Listing.{behind}
use Rattle.eip_router.proofs.recipient_list.read_all.Given as goal

abbrev pub invariant-loop-index : goal.invariant-loop-index
invariant-loop-index l = behind l.uris.items (spec.read_from l.index (map (λ x. x.now) (drop l.index l.items))) ≡ spec.read_from 0 (map (λ x. x.now) l.items)
