use Rattle.std.proofs.Common.{◌≡◌, List, ◌++◌, take, map}
use Rattle.eip_text.specs.Json.{json}
use Rattle.eip_text.proofs.Readings.{Entry, named_json, entry_json, value_json}
use Rattle.eip_text.proofs.json_reader.+tree.Given as goal

abbrev pub invariant-trees_of-loop-item : goal.invariant-trees_of-loop-item
invariant-trees_of-loop-item l = map json l.trees.items ≡ map value_json (take l.item-index l.item-items)

abbrev pub invariant-members_of-loop-key : goal.invariant-members_of-loop-key
invariant-members_of-loop-key l =
    (done : List Entry) × (l.members.entries ≡ done ++ l.key-iterator) × (map named_json l.trees.items ≡ map entry_json done)
