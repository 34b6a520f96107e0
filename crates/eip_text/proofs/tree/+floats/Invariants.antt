use Rattle.std.proofs.Common.{◌≡◌, drop}
use Rattle.eip_text.specs.Json.{items_json, members_json}
use Rattle.eip_text.specs.JsonText.{items_have_float, members_have_float}
use Rattle.eip_text.proofs.tree.+floats.Given as goal

abbrev pub invariant-has_float_item-loop-item : goal.invariant-has_float_item-loop-item
invariant-has_float_item-loop-item l = items_have_float (items_json (drop l.item-index l.items)) ≡ items_have_float (items_json l.items)

abbrev pub invariant-has_float_member-loop-member : goal.invariant-has_float_member-loop-member
invariant-has_float_member-loop-member l = members_have_float (members_json (drop l.member-index l.members)) ≡ members_have_float (members_json l.members)
