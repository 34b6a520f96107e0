use Rattle.std.proofs.Common.{◌∙◌, ap, sym}
use Rattle.std.specs.Prelude.{Result}
use Rattle.eip_uri.specs.declared.uri.Uri.{Uri}
use Rattle.eip_uri.specs.declared.fault.UriFault.{UriFault}
use Rattle.eip_meaning.specs.Meaning.{send_to}
use Rattle.eip_cursor.proofs.cursor.sent.Goals as goal

pub returns-in_ok-course-in-Ok : goal.returns-in_ok-course-in-Ok
returns-in_ok-course-in-Ok c = λ A.
    c.in_ok-course-in-Ok.ensures A ∙ rw (c.put_in.ensures, c.in_ok-of-in-Ok.ensures) (ap (λ (r : Result Uri UriFault). send_to c.args.set.now c.args.context r c.args.message.now A) (sym c.in-Ok.ensures.reads))
