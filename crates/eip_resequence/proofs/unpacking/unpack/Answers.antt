use Rattle.std.proofs.Common.{◌≡◌, ◌≢◌, rules, sym, ap, ◌∙◌}
use Rattle.std.proofs.lemmas.Result.{err_from_is_err_and}
use Rattle.eip_resequence.specs.Packing.{pack_text}
use Rattle.eip_resequence.specs.Unpacking.{list_read}
use Rattle.eip_resequence.proofs.Again.{packs, never_read, never_packs}
use Rattle.eip_resequence.proofs.Parsing.{same_err}
use Rattle.eip_resequence.proofs.unpacking.unpack.Goals as goal

pub returns-in_err-list-clause-not_packed : goal.returns-in_err-list-clause-not_packed
returns-in_err-list-clause-not_packed c =
    let p = err_from_is_err_and c.from_residual.result c.from_residual.ensures.1 in
    rw (p.1, p.2) (λ h. never_read c.args.text.now (ap list_read (sym c.as_str.ensures) ∙ c.in_err-list.ensures (same_err _ _ h)))

pub returns-then-eq-clause-list : goal.returns-then-eq-clause-list
returns-then-eq-clause-list c =
    let same : c.args.text.now ≡ pack_text c.in_ok-list.list.items = search rules in
    packs c.args.text.now c.in_ok-list.list.items (ap list_read (sym c.as_str.ensures) ∙ c.in_ok-list.ensures) (sym same)

pub returns-else-eq-clause-not_packed : goal.returns-else-eq-clause-not_packed
returns-else-eq-clause-not_packed c = λ _.
    let other : pack_text c.in_ok-list.list.items ≢ c.args.text.now = search rules in
    never_packs c.args.text.now c.in_ok-list.list.items (ap list_read (sym c.as_str.ensures) ∙ c.in_ok-list.ensures) other
