use Rattle.std.proofs.Common.{Some, None, refl, lit<}
use Rattle.std.proofs.lemmas.Str.Pattern.{strip_prefix_char}
use Rattle.eip_router.proofs.Ends.{begins_or}
use Rattle.eip_router.proofs.items.behind_blank.Goals as goal

pub returns-in-Some : goal.returns-in-Some
returns-in-Some c = record { blank = 32; is = refl; whole = strip_prefix_char 32 c.args.text.now (Some c.in-Some.rest) c.in-Some.ensures.cases (lit< tt) }

pub returns-in-None : goal.returns-in-None
returns-in-None c =
    begins_or c.args.text.now c.strip_prefix-in-None.result (strip_prefix_char 32 c.args.text.now None c.in-None.ensures.cases (lit< tt))
    (strip_prefix_char 9 c.args.text.now c.strip_prefix-in-None.result c.strip_prefix-in-None.ensures.cases (lit< tt))
