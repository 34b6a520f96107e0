use Rattle.std.proofs.Common.{◌≡◌, ◌≤◌, false, is_some, ap, sym, subst, ◌∙◌}
use Rattle.std.specs.Cmp.{on_equiv}
use Rattle.std.specs.Cmp.Lexicographic.{nat_list_eq_equiv}
use Rattle.std.specs.List.{IsDistinct}
use Rattle.eip_exchange.specs.Pairs.{Pairs, names}
use Rattle.eip_exchange.specs.Headers.{same_name, folded, counted, get_header, put_header, is_one_too_many}
use Rattle.eip_exchange.specs.Places.{place_of, put_at}
use Rattle.eip_exchange.proofs.Counts.{counted-put_header}
use Rattle.eip_exchange.proofs.Places.{place-there, put_at-place, IsDistinct-put}
use Rattle.eip_exchange.proofs.headers.Headers.set.Goals as goal

pub is_one_too_many-requires : goal.is_one_too_many-requires
is_one_too_many-requires c =
    let ps = c.self.inside.pairs in
    ap is_some c.find-place.ensures.place ∙ place-there same_name c.bytes.result.now ps
    ∙ ap (λ n. is_some (get_header n ps)) (c.bytes.ensures.value ∙ sym c.bytes-2.ensures.value)

pub invariant_of-self-2 : goal.invariant_of-self-2
invariant_of-self-2 c =
    let ps = c.self.inside.pairs in
    let put : c.put.new.self ≡ put_header c.args.name c.args.value ps =
    c.in_ok-put.ensures.set ∙ ap (λ o. put_at o c.args.name c.args.value ps) (c.find-place.ensures.place ∙ ap (λ n. place_of same_name n ps) c.bytes.ensures.value)
    ∙ put_at-place same_name c.args.name c.args.value ps in
    let room : is_one_too_many c.args.name ps ≡ false = ap (λ n. is_one_too_many n ps) (sym c.bytes-2.ensures.value) ∙ sym c.if-is_one_too_many.ensures in
    subst (λ (qs : Pairs). IsDistinct same_name (names qs) × (counted qs ≤ 64)) (sym put)
    (IsDistinct-put same_name (on_equiv folded nat_list_eq_equiv) c.args.name c.args.value ps c.self.invariant.0, counted-put_header c.args.name c.args.value ps room c.self.invariant.1)

pub returns-clause-set : goal.returns-clause-set
returns-clause-set c =
    let ps = c.self.inside.pairs in
    c.in_ok-put.ensures.set ∙ ap (λ o. put_at o c.args.name c.args.value ps) (c.find-place.ensures.place ∙ ap (λ n. place_of same_name n ps) c.bytes.ensures.value)
    ∙ put_at-place same_name c.args.name c.args.value ps ∙ ap (put_header c.args.name c.args.value) c.self.view_is
