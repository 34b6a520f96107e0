use Rattle.std.proofs.Common.{◌≡◌, List, ℕ, IfOk, subst}
use Rattle.std.specs.Prelude.{string_bytes, option_map}
use Rattle.eip_uri.proofs.Showings.{file_text}
use Rattle.eip_uri.proofs.print.print_file.Goals as goal

pub returns : goal.returns
returns c =
    let text = file_text (string_bytes c.in_ok-front.field-0) c.args.folder.now c.args.after.now c.args.failed.now c.args.exist
    (option_map (λ x. x.now) c.delete_shown.result) (option_map (λ x. x.now) c.exist_shown.result) (option_map (λ x. x.now) c.move_shown.result)
    (option_map (λ x. x.now) c.failed_shown.result) (option_map (λ x. x.now) c.noop_shown.result)
    c.in_ok-front.ensures c.delete_shown.ensures c.exist_shown.ensures c.move_shown.ensures c.failed_shown.ensures c.noop_shown.ensures in
    subst (λ (x : List ℕ). IfOk c.with_query.result (λ t. t ≡ x)) text c.with_query.ensures
