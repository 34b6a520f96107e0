use Rattle.std.proofs.Common.{◌++◌, ◌∙◌, ap, sym, cond}
use Rattle.std.specs.Prelude.{codes, []}
use Rattle.eip_text.specs.Json.{word}
use Rattle.eip_route_canonical.specs.Canonical.{one}
use Rattle.eip_route_canonical.specs.Trees.{made}
use Rattle.eip_route_canonical.proofs.members.put_delimiter.Goals as goal

pub returns : goal.returns
returns c = c.in_ok-put_word.ensures ∙ ap (λ b. made c.args.object.now ++ cond b [] (one (codes "delimiter") (word c.args.delimiter.now))) (sym c.if-is_comma.false ∙ c.is_comma.ensures)
