-- Keys are in a total order.
use Rattle.std.proofs.Common.{◌≡◌, refl, Less, Equal}
use Rattle.std.specs.Cmp.{IsTotalOrder, IsStrictWeakOrder}
use Rattle.std.proofs.lemmas.Cmp.{int_cmp_total, nat_list_cmp_total}
use Rattle.std.proofs.lemmas.List.Sorted.{ranks_by}
use Rattle.std.specs.Ordering.{ordering_reverse}
use Rattle.eip_resequence.specs.Order.{Rank, number, bytes, rank_of, rank_cmp, key_text, comes_before, Arrival, goes_before}

turned : (r s : Rank) → rank_cmp r s ≡ ordering_reverse (rank_cmp s r)
turned (number x) (number y) = int_cmp_total.antisymm x y
turned (number x) (bytes t) = refl
turned (bytes s) (number y) = refl
turned (bytes s) (bytes t) = nat_list_cmp_total.antisymm s t

chained : (r s t : Rank) → rank_cmp r s ≡ Less → rank_cmp s t ≡ Less → rank_cmp r t ≡ Less
chained (number x) (number y) (number z) p q = int_cmp_total.trans x y z p q
chained (number x) (number y) (bytes u) p q = refl
chained (number x) (bytes t) (number z) p q = absurd (cc)
chained (number x) (bytes t) (bytes u) p q = refl
chained (bytes s) (number y) (number z) p q = absurd (cc)
chained (bytes s) (number y) (bytes u) p q = absurd (cc)
chained (bytes s) (bytes t) (number z) p q = absurd (cc)
chained (bytes s) (bytes t) (bytes u) p q = nat_list_cmp_total.trans s t u p q

alike : (r s t : Rank) → rank_cmp r s ≡ Equal → rank_cmp r t ≡ rank_cmp s t
alike (number x) (number y) (number z) p = int_cmp_total.congr x y z p
alike (number x) (number y) (bytes u) p = refl
alike (number x) (bytes t) u p = absurd (cc)
alike (bytes s) (number y) u p = absurd (cc)
alike (bytes s) (bytes t) (number z) p = refl
alike (bytes s) (bytes t) (bytes u) p = nat_list_cmp_total.congr s t u p

rank_total : IsTotalOrder rank_cmp
rank_total = record { antisymm = turned; trans = chained; congr = alike }

-- going before is an order, up to equal keys
pub goes_before-order : IsStrictWeakOrder goes_before
unfolding comes_before
goes_before-order = ranks_by rank_total (λ (a : Arrival). rank_of (key_text a.0))
