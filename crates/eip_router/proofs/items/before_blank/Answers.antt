use Rattle.std.proofs.Common.{Some, None, refl, lit<}
use Rattle.std.proofs.lemmas.Str.Pattern.{strip_suffix_char}
use Rattle.eip_router.proofs.Ends.{ends_or}
use Rattle.eip_router.proofs.items.before_blank.Goals as goal

pub returns-in-Some : goal.returns-in-Some
returns-in-Some c = record { blank = 32; is = refl; whole = strip_suffix_char 32 c.args.text.now (Some c.in-Some.front) c.in-Some.ensures.cases (lit< tt) }

pub returns-in-None : goal.returns-in-None
returns-in-None c =
    ends_or c.args.text.now c.strip_suffix-in-None.result (strip_suffix_char 32 c.args.text.now None c.in-None.ensures.cases (lit< tt))
    (strip_suffix_char 9 c.args.text.now c.strip_suffix-in-None.result c.strip_suffix-in-None.ensures.cases (lit< tt))
