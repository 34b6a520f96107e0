use Rattle.std.proofs.Common.{◌≡◌, true, drop}
use Rattle.eip_text.specs.Json.{items_json, members_json}
use Rattle.eip_route.specs.Nest.{flat_steps, flat_groups}
use Rattle.eip_route_values.specs.Nesting.{nest_steps, nest_only, nest_in, nest_branches_in, nest_branches, nest_each_in, nest_each, nest_one_in, nest_at, at_places}
use Rattle.eip_route_values.specs.Taken.{stock, spent, holds}
use Rattle.eip_route_values.specs.Taken as taken
use Rattle.eip_route_blocks.proofs.Appended.{with_steps, with_groups}
use Rattle.eip_route_blocks.proofs.build.+build.Given as goal

abbrev pub invariant-build_steps-loop-item : goal.invariant-build_steps-loop-item
invariant-build_steps-loop-item l = record {
  steps : flat_steps l.fn.first (nest_steps (items_json l.items)) ≡ with_steps l.steps.items l.blocks.items (flat_steps l.n (nest_steps (items_json (drop l.item-index l.items))));
  left : spent (taken.in_steps (items_json l.items)) (stock l.fn.known) ≡ spent (taken.in_steps (items_json (drop l.item-index l.items))) (stock l.known);
  held : holds (taken.in_steps (items_json (drop l.item-index l.items))) (stock l.known) ≡ true;
}

abbrev pub invariant-build_places-loop-place : goal.invariant-build_places-loop-place
invariant-build_places-loop-place l = record {
  groups : flat_groups l.fn.first (at_places (nest_at (members_json l.members)) l.places) ≡ with_groups l.numbers.items l.blocks.items (flat_groups l.n (at_places (nest_at (members_json l.members)) (drop l.place-index l.places)));
  left : spent (taken.at_places (taken.in_place (members_json l.members)) l.places) (stock l.fn.known) ≡ spent (taken.at_places (taken.in_place (members_json l.members)) (drop l.place-index l.places)) (stock l.known);
  held : holds (taken.at_places (taken.in_place (members_json l.members)) (drop l.place-index l.places)) (stock l.known) ≡ true;
}

abbrev pub invariant-build_branches-loop-item : goal.invariant-build_branches-loop-item
invariant-build_branches-loop-item l = record {
  groups : flat_groups l.fn.first (nest_branches (items_json l.items)) ≡ with_groups l.numbers.items l.blocks.items (flat_groups l.n (nest_branches (items_json (drop l.item-index l.items))));
  left : spent (taken.in_steps (items_json l.items)) (stock l.fn.known) ≡ spent (taken.in_steps (items_json (drop l.item-index l.items))) (stock l.known);
  held : holds (taken.in_steps (items_json (drop l.item-index l.items))) (stock l.known) ≡ true;
}

abbrev pub invariant-build_each-loop-item : goal.invariant-build_each-loop-item
invariant-build_each-loop-item l = record {
  groups : flat_groups l.fn.first (nest_each (items_json l.items)) ≡ with_groups l.numbers.items l.blocks.items (flat_groups l.n (nest_each (items_json (drop l.item-index l.items))));
  left : spent (taken.in_each (items_json l.items)) (stock l.fn.known) ≡ spent (taken.in_each (items_json (drop l.item-index l.items))) (stock l.known);
  held : holds (taken.in_each (items_json (drop l.item-index l.items))) (stock l.known) ≡ true;
}

abbrev pub invariant-build_only-loop-member : goal.invariant-build_only-loop-member
invariant-build_only-loop-member l = record {
  step : nest_only (members_json l.members) ≡ nest_only (members_json (drop l.member-index l.members));
  left : taken.in_only (members_json l.members) ≡ taken.in_only (members_json (drop l.member-index l.members));
  known : l.known ≡ l.fn.known;
}

abbrev pub invariant-build_in-loop-member : goal.invariant-build_in-loop-member
invariant-build_in-loop-member l = record {
  steps : nest_in (members_json l.members) ≡ nest_in (members_json (drop l.member-index l.members));
  left : taken.in_own (members_json l.members) ≡ taken.in_own (members_json (drop l.member-index l.members));
  known : l.known ≡ l.fn.known;
}

abbrev pub invariant-build_branches_in-loop-member : goal.invariant-build_branches_in-loop-member
invariant-build_branches_in-loop-member l = record {
  groups : nest_branches_in (members_json l.members) ≡ nest_branches_in (members_json (drop l.member-index l.members));
  left : taken.in_own (members_json l.members) ≡ taken.in_own (members_json (drop l.member-index l.members));
  known : l.known ≡ l.fn.known;
}

abbrev pub invariant-build_each_in-loop-member : goal.invariant-build_each_in-loop-member
invariant-build_each_in-loop-member l = record {
  groups : nest_each_in l.key (members_json l.members) ≡ nest_each_in l.key (members_json (drop l.member-index l.members));
  left : taken.in_each_of l.key (members_json l.members) ≡ taken.in_each_of l.key (members_json (drop l.member-index l.members));
  known : l.known ≡ l.fn.known;
}

abbrev pub invariant-build_one_in-loop-member : goal.invariant-build_one_in-loop-member
invariant-build_one_in-loop-member l = record {
  groups : nest_one_in l.key (members_json l.members) ≡ nest_one_in l.key (members_json (drop l.member-index l.members));
  left : taken.in_one_of l.key (members_json l.members) ≡ taken.in_one_of l.key (members_json (drop l.member-index l.members));
  known : l.known ≡ l.fn.known;
}
