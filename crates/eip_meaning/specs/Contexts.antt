-- For whom and where steps run, and what is done there about a fault.
use Rattle.std.specs.Prelude.{ℕ, ◌+◌, Bool, true, false, cond, not, ◌&&◌, ◌||◌}
use Rattle.eip_exchange.specs.declared.birth.Birth.{Birth}
use Rattle.eip_exchange.specs.declared.birth.Care.{Care}
use Rattle.eip_exchange.specs.declared.birth.Care.TheVariants as care
use Rattle.eip_frames.specs.declared.request.At.{At}
use Rattle.eip_meaning.specs.declared.context.Context.{Context}

-- where the requests of a birth are asked
abbrev pub place_of : Birth → At
place_of b = record { route = b.route; depth = b.depth; index = 0 }

-- the steps of a birth, with no handler yet
abbrev pub context_of : Birth → Context
context_of b = record { number = b.number; hops = b.hops; care = b.care; handling = false; route = b.route; depth = b.depth }

-- where requests are asked, and parts of which the first one has index k
abbrev pub place_in : Context → ℕ → At
place_in c k = record { route = c.route; depth = c.depth; index = k }

-- in a route that is called directly
abbrev pub called : Context → ℕ → Context
called c r = record c { route = r; depth = c.depth + 1 }

-- while a fault is handled
abbrev pub in_handler : Context → Context
in_handler c = record c { handling = true }

-- ---- care

abbrev pub is_full : Care → Bool
is_full care.Full = true
is_full care.Shared = false
is_full care.Bare = false

abbrev pub is_shared : Care → Bool
is_shared care.Full = false
is_shared care.Shared = true
is_shared care.Bare = false

abbrev pub is_bare : Care → Bool
is_bare care.Full = false
is_bare care.Shared = false
is_bare care.Bare = true

-- steps are tried again: not while a fault is handled, and not where care is bare
abbrev pub has_attempts : Context → Bool
has_attempts c = not c.handling && not (is_bare c.care)

-- clauses and the dead letter endpoint stand behind the last attempt: not while a fault is handled, and where care is full
abbrev pub has_handlers : Context → Bool
has_handlers c = not c.handling && is_full c.care

-- the care of parts: bare where nothing is tried again here; their faults are the parent's where the step says so, or where the parent's are its own parent's
abbrev pub care_of_parts : Context → (share : Bool) → Care
care_of_parts c share = cond (has_attempts c) (cond (share || is_shared c.care) care.Shared care.Full) care.Bare
