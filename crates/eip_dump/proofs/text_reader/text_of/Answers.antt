use Rattle.std.proofs.Common.{ap, sym, refl}
use Rattle.std.proofs.lemmas.Bool.{false_from_ne_true}
use Rattle.std.proofs.lemmas.Str.{IsUtf8-from_is_utf8, is_utf8-from_IsUtf8}
use Rattle.std.proofs.Common.{Some}
use Rattle.std.specs.Str.{is_utf8}
use Rattle.eip_dump.proofs.text_reader.text_of.Goals as goal

pub returns-in-Ok : goal.returns-in-Ok
returns-in-Ok c = rw (is_utf8-from_IsUtf8 c.args.bytes.now c.in-Ok.ensures.utf8) (ap Some (sym c.in-Ok.ensures.text))

pub returns-in-Err-NotText : goal.returns-in-Err-NotText
returns-in-Err-NotText c =
    let no = rw c.in-Err-NotText.field-0-is at c.in-Err-NotText.ensures.not_text in
    rw (false_from_ne_true (is_utf8 c.args.bytes.now) (λ e. no.0 refl (IsUtf8-from_is_utf8 c.args.bytes.now e))) refl
