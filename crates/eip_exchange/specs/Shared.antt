-- A list that may not be there yet.
use Rattle.std.specs.Prelude.{List, [], Vec, Option, Some, None}
use Rattle.std.specs.Global.{Global}

-- its items; none where there is no list
abbrev pub items_of : {A : Type 0} → Option (Vec A Global) → List A
items_of None = []
items_of (Some list) = list.items
