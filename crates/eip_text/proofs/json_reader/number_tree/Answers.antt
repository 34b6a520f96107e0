use Rattle.std.proofs.Common.{sym, ◌∙◌, ap, Some, SFits, rules}
use Rattle.std.specs.Int.{w128}
use Rattle.std.proofs.lemmas.Int.{to_z-of_z}
use Rattle.eip_text.proofs.Levels.{json_whole, json_float}
use Rattle.eip_text.proofs.Readings.{number_json-some, number_json-none}
use Rattle.eip_text.proofs.json_reader.number_tree.Goals as goal

pub returns-in-Some : goal.returns-in-Some
returns-in-Some c =
    let fits : SFits w128 c.in-Some.whole = search rules in
    json_whole _ ∙ sym (number_json-some _ _ (ap Some (to_z-of_z w128 c.in-Some.whole fits) ∙ c.in-Some.ensures))

pub returns-in-None : goal.returns-in-None
returns-in-None c = json_float ∙ sym (number_json-none _ c.in-None.ensures)
