use Rattle.std.proofs.Common.{List, Option, Result, drop}
use Rattle.eip_text.specs.Json.{items_json, members_json}
use Rattle.eip_text.specs.declared.memory.NoMemory.{NoMemory}
use Rattle.eip_route_faults.specs.Sites.{items_sites, members_sites, Builder, builder, Walked}
use Rattle.eip_route_grammar.specs.declared.fault.RouteFault.{RouteFault}
use Rattle.eip_route_grammar.specs.declared.known.Entry.{Entry}
use Rattle.eip_route_faults.proofs.walk.+find.Given as goal

-- what is answered behind the items so far is answered of all

abbrev pub invariant-find_in_items-loop-k : goal.invariant-find_in_items-loop-k
invariant-find_in_items-loop-k g l = (a : Result (Option RouteFault) NoMemory) (n : Builder) (m : List Entry)
    → Walked (items_sites l.names l.depth l.kind l.k (items_json (drop l.k l.items))) a (builder g.P.Patterns l.patterns) l.known n m
    → Walked (items_sites l.names l.depth l.kind 0 (items_json l.items)) a (builder g.P.Patterns l.fn.patterns) l.fn.known n m

abbrev pub invariant-find_in_members-loop-member : goal.invariant-find_in_members-loop-member
invariant-find_in_members-loop-member g l = (a : Result (Option RouteFault) NoMemory) (n : Builder) (m : List Entry)
    → Walked (members_sites l.names l.depth l.parameters l.kind (members_json (drop l.member-index l.members))) a (builder g.P.Patterns l.patterns) l.known n m
    → Walked (members_sites l.names l.depth l.parameters l.kind (members_json l.members)) a (builder g.P.Patterns l.fn.patterns) l.fn.known n m
