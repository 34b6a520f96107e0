use Rattle.std.proofs.Common.{◌∙◌, ap, sym, subst}
use Rattle.std.proofs.lemmas.Int.{to_z-of_z}
use Rattle.std.specs.Fmt.{signed_decimal}
use Rattle.std.specs.Int.{w128}
use Rattle.json.specs.Print.{IsNumber}
use Rattle.eip_text.proofs.Printing.{IsNumber-whole}
use Rattle.eip_text.proofs.json_printer.write_whole.Goals as goal

pub number-requires : goal.number-requires
number-requires c =
    let text = c.format.ensures.text ∙ ap signed_decimal (to_z-of_z w128 c.args.whole c.ranges.whole) in
    subst IsNumber (sym text) (IsNumber-whole c.args.whole c.ranges.whole)
