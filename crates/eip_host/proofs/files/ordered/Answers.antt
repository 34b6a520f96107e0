use Rattle.std.proofs.Common.{ℕ, ◌≡◌, ◌∙◌, ap, map, take, length, string_bytes, arith}
use Rattle.std.proofs.Math.Seq.{take-length}
use Rattle.eip_endpoint.specs.Files.{is_among}
use Rattle.eip_host.proofs.ListingLaws.{ok-then}
use Rattle.eip_host.proofs.files.ordered.Goals as goal

pub returns-clause-same : goal.returns-clause-same
returns-clause-same c =
    let end : c.loop-name.name-index ≡ length c.args.names.now = omega (arith, c.loop-name-test.false, c.loop-name.auto.name-index-end) in
    let whole = c.loop-name.invariant ∙ ap (λ (k : ℕ). map string_bytes (take k c.args.names.now)) end ∙ ap (map string_bytes) (take-length c.args.names.now) in
    ok-then c.in_byte_order.result c.in_byte_order.ensures.same (λ texts same name. same name ∙ ap (is_among name) whole)
