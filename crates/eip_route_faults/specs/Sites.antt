-- The places of a route file at which something may be wrong, in the order in which they are judged, and the first fault.
use Rattle.std.specs.Prelude.{◌≡◌, ◌⊎◌, ℕ, ◌+◌, Bool, true, false, ◌&&◌, nat_le, List, [], ◌∷◌, ◌++◌, Option, Some, None, Result, Ok, Err, if◌then◌else◌}
use Rattle.eip_text.specs.Causes.{Rises}
use Rattle.eip_text.specs.Json.{Json, null, flag, whole, float, word, list, object, Items, no_items, item, Members, no_members, member}
use Rattle.eip_simple_read.specs.declared.tree.Predicate.{Predicate}
use Rattle.eip_simple_read.specs.declared.fault.SimpleFault.{SimpleFault}
use Rattle.eip_simple_read.specs.Meaning.{predicate_of, IsPatternAt}
use Rattle.eip_simple_read.specs.Patterns.{IsNoPattern}
use Rattle.eip_simple_read.specs.Builds.{Told, added, built, patterns_in, EndsRefusedAt, Begins}
use Rattle.eip_simple_read.specs.declared.pattern.Patterns.{Ghosts as PatternsMembers}
use Rattle.eip_route.specs.declared.route.Names.{Names}
use Rattle.eip_route_grammar.specs.Objects.{own_keys, keys_of, value_kind, parameters_of, whole_object}
use Rattle.eip_route_grammar.specs.Paths.{key_step, index_step}
use Rattle.eip_route_grammar.specs.Table.{rows, rule_of, list_of, shape_of}
use Rattle.eip_route_faults.specs.Values.{spelled_cause, word_cause, whole_cause, flag_cause}
use Rattle.eip_route_grammar.specs.declared.fault.Cause.{Cause}
use Rattle.eip_route_grammar.specs.declared.fault.Cause.TheVariants as cause
use Rattle.eip_route_grammar.specs.declared.fault.RouteFault.{RouteFault}
use Rattle.eip_route_grammar.specs.declared.known.Entry.{Entry}
use Rattle.eip_route_grammar.specs.declared.table.Rule.{Rule}
use Rattle.eip_route_grammar.specs.declared.table.Rule.TheVariants as rule
use Rattle.eip_route_grammar.specs.declared.table.Kind.{Kind}
use Rattle.eip_route_grammar.specs.declared.table.Kind.TheVariants as kind
use Rattle.eip_route_grammar.specs.declared.table.Listed.{Listed}
use Rattle.eip_route_grammar.specs.declared.table.Nests.{Nests}
use Rattle.eip_route_grammar.specs.declared.table.Nests.TheVariants as nests

-- ---- sites

-- what is to be judged at a place: something that is wrong, or the text of a predicate
pub data Mark : Type 0 where
  wrong : Cause → Mark
  predicate : List ℕ → Mark

-- a place by its path
abbrev pub Site : Type 0
Site = List ℕ × Mark

-- what is wrong here
abbrev pub found : Option Cause → List Site
found None = []
found (Some c) = ([], wrong c) ∷ []

-- the same sites, with this step in front of their paths
abbrev pub under : List ℕ → List Site → List Site
under step [] = []
under step (s ∷ ss) = (step ++ s.0, s.1) ∷ under step ss

-- ---- lists

abbrev pub has_none : Items → Bool
has_none no_items = true
has_none (item t ts) = false

-- the blocks of a list's items would be nested more than 16 deep
abbrev pub is_deep : ℕ → Nests → Bool
is_deep d nests.Nowhere = false
is_deep d nests.Block = nat_le 16 d
is_deep d nests.Batch = nat_le 15 d

-- so many blocks stand around them
abbrev pub inside : ℕ → Nests → ℕ
inside d nests.Nowhere = d
inside d nests.Block = d + 1
inside d nests.Batch = d + 2

-- what is wrong with a list inside so many blocks
abbrev pub own_list : ℕ → Option Listed → Bool → Option Cause
own_list d None empty = Some cause.WrongKind
own_list d (Some r) empty = if r.filled && empty then Some cause.BadValue else (if is_deep d r.nests then Some cause.TooNested else None)

abbrev pub item_kind : Option Listed → Kind
item_kind None = kind.Leaf rule.Word
item_kind (Some r) = r.item

abbrev pub deeper : ℕ → Option Listed → ℕ
deeper d None = d
deeper d (Some r) = inside d r.nests

-- ---- all else

abbrev pub is_predicate : Rule → Bool
is_predicate rule.Predicate = true
is_predicate _ = false

abbrev pub word_sites : Names → List (List ℕ × List ℕ) → Option Rule → List ℕ → List Site
word_sites n ps None w = found (Some cause.WrongKind)
word_sites n ps (Some r) w = if is_predicate r then ([], predicate w) ∷ [] else found (word_cause n ps r w)

-- ---- the walk: the sites of a value that is to be of this kind, inside so many blocks and beside these parameters

unfoldable mutual
  pub sites_at : Names → ℕ → List (List ℕ × List ℕ) → Kind → Json → List Site
  sites_at n d ps v null = found (Some cause.WrongKind)
  sites_at n d ps v (flag b) = found (flag_cause (rule_of v) b)
  sites_at n d ps v (whole z) = found (whole_cause (rule_of v) z)
  sites_at n d ps v float = found (Some cause.WrongKind)
  sites_at n d ps v (word w) = word_sites n ps (rule_of v) w
  sites_at n d ps v (list ts) = found (own_list d (list_of v) (has_none ts)) ++ items_sites n (deeper d (list_of v)) (item_kind (list_of v)) 0 ts
  sites_at n d ps v (object ms) = found (own_keys (shape_of v) (rows v) (keys_of ms)) ++ (members_sites n d (parameters_of ms) v ms ++ found (whole_object v ms))

  pub items_sites : Names → ℕ → Kind → ℕ → Items → List Site
  items_sites n d v k no_items = []
  items_sites n d v k (item t ts) = under (index_step k) (sites_at n d [] v t) ++ items_sites n d v (k + 1) ts

  pub members_sites : Names → ℕ → List (List ℕ × List ℕ) → Kind → Members → List Site
  members_sites n d ps v no_members = []
  members_sites n d ps v (member k t ms) = under (key_step k) (sites_at n d ps (value_kind v k) t) ++ members_sites n d ps v ms

-- the sites of a list, and of an object
abbrev pub list_sites : Names → ℕ → Kind → Items → List Site
list_sites n d v ts = sites_at n d [] v (list ts)

abbrev pub object_sites : Names → ℕ → Kind → Members → List Site
object_sites n d v ms = sites_at n d [] v (object ms)

-- the sites of an object whose keys are as they are to be
abbrev pub inner_sites : Names → ℕ → Kind → Members → List Site
inner_sites n d v ms = members_sites n d (parameters_of ms) v ms ++ found (whole_object v ms)

-- ---- the first fault

-- what is wrong at a place; each pattern counts as a good one
abbrev pub cause_at : Mark → Option Cause
cause_at (wrong c) = Some c
cause_at (predicate w) = spelled_cause (predicate_of w)

abbrev pub or_later : List ℕ → Option Cause → Option RouteFault → Option RouteFault
or_later path None later = later
or_later path (Some c) later = Some (record { path = path; cause = c })

unfoldable pub first_fault : List Site → Option RouteFault
first_fault [] = None
first_fault (s ∷ ss) = or_later s.0 (cause_at s.1) (first_fault ss)

-- ---- patterns that are refused

-- The predicate's text has at this offset the right side of a `regex`, before any fault of its own, and its pattern was refused.
abbrev pub IsRefused : List ℕ → Cause → Type 0
IsRefused w (cause.BadPattern at) = (pattern : List ℕ) × IsPatternAt w at pattern × IsNoPattern pattern
IsRefused w (cause.PatternTooLarge at) = (pattern : List ℕ) × IsPatternAt w at pattern
IsRefused w _ = ⊥

abbrev pub IsRefusedAt : Site → RouteFault → Type 0
IsRefusedAt (path, wrong c) f = ⊥
IsRefusedAt (path, predicate w) f = (f.path ≡ path) × IsRefused w f.cause

-- the patterns of the predicate up to the refused one were asked for
abbrev pub AsksUntil : Mark → Cause → Told → Told → Type 0
AsksUntil (wrong c) _ before after = ⊥
AsksUntil (predicate w) (cause.BadPattern at) before after = EndsRefusedAt w at before after
AsksUntil (predicate w) (cause.PatternTooLarge at) before after = EndsRefusedAt w at before after
AsksUntil (predicate w) _ before after = ⊥

-- the fault is that of a refused pattern, at a predicate before which nothing is wrong
unfoldable pub Stops : List Site → RouteFault → Type 0
Stops [] f = ⊥
Stops (s ∷ ss) f = IsRefusedAt s f ⊎ ((cause_at s.1 ≡ None) × Stops ss f)

-- ---- the patterns of a tree

abbrev pub patterns_of : Mark → List (List ℕ)
patterns_of (wrong c) = []
patterns_of (predicate w) = patterns_in None w

abbrev pub unless_wrong : Option Cause → List (List ℕ) → List (List ℕ)
unless_wrong None more = more
unless_wrong (Some c) more = []

-- the patterns at these places in their order, up to the first fault
unfoldable pub patterns_at : List Site → List (List ℕ)
patterns_at [] = []
patterns_at (s ∷ ss) = patterns_of s.1 ++ unless_wrong (cause_at s.1) (patterns_at ss)

-- the fault is that of a refused pattern, at a predicate before which nothing is wrong; each pattern before it was built, and none behind it was asked for
unfoldable pub RefusesAfter : List Site → RouteFault → Told → Told → Type 0
RefusesAfter [] f before after = ⊥
RefusesAfter (s ∷ ss) f before after =
    (IsRefusedAt s f × AsksUntil s.1 f.cause before after) ⊎ ((cause_at s.1 ≡ None) × RefusesAfter ss f (added before (built (patterns_of s.1))) after)

-- what contracts see of a builder of patterns: its count of faults, and its builds, where it tells them
pub record Builder : Type 0 where
  pub faults : ℕ
  pub builds : Told

-- by the members of the object
abbrev pub builder : {P : Type 0} → PatternsMembers P → P → Builder
builder m p = record { faults = m.pattern_faults p; builds = m.pattern_builds p }

-- each of these patterns was built, one behind the other
pub record Builds (patterns : List (List ℕ)) (before after : Builder) : Type 0 where
  pub faults : after.faults ≡ before.faults
  pub builds : after.builds ≡ added before.builds (built patterns)

-- ---- the predicates of a tree

abbrev pub read_one : List ℕ → Result Predicate SimpleFault → List Entry → List Entry
read_one w (Ok p) es = record { text = w; predicate = p } ∷ es
read_one w (Err e) es = es

abbrev pub read_at : Mark → List Entry → List Entry
read_at (wrong c) es = es
read_at (predicate w) es = read_one w (predicate_of w) es

-- the predicates at these places with their texts, in their order
unfoldable pub entries_at : List Site → List Entry
entries_at [] = []
entries_at (s ∷ ss) = read_at s.1 (entries_at ss)

-- ---- a walk

-- 1 for a fault that the count of patterns' faults tells, else 0
abbrev pub cause_failures : Cause → ℕ
cause_failures (cause.PatternTooLarge at) = 1
cause_failures _ = 0

abbrev pub found_failures : Option RouteFault → ℕ
found_failures None = 0
found_failures (Some f) = cause_failures f.cause

-- What a walk over the places answers, with the builder of patterns and the predicates that are known before and behind it.
-- Nothing: nothing is wrong, each pattern was built once, and the predicates are known. A fault: it is the first one, and each pattern before it was
-- built; or it is that of a refused pattern before any other fault.
unfoldable pub Walks : List Site → Option RouteFault → Builder → List Entry → Builder → List Entry → Type 0
Walks ss None b k n l = (first_fault ss ≡ None) × Builds (patterns_at ss) b n × (l ≡ k ++ entries_at ss)
Walks ss (Some f) b k n l =
    ((first_fault ss ≡ Some f) × Builds (patterns_at ss) b n) ⊎ (RefusesAfter ss f b.builds n.builds × Rises (cause_failures f.cause) b.faults n.faults)

-- What want of memory leaves of the count of patterns' faults: it is as before, unless memory was wanting to tell the fault of a refused pattern,
-- before which nothing is wrong.
abbrev pub Starves : List Site → ℕ → ℕ → Type 0
Starves ss b n = (n ≡ b) ⊎ ((f : RouteFault) × Stops ss f × Rises (cause_failures f.cause) b n)

-- what it leaves of the builder: so much of its count, and patterns from the left that it was asked for
pub record Starved (ss : List Site) (before after : Builder) : Type 0 where
  pub faults : Starves ss before.faults after.faults
  pub builds : Begins (patterns_at ss) before.builds after.builds

-- a walk that answered, or that want of memory ended
abbrev pub Walked : {E : Type 0} → List Site → Result (Option RouteFault) E → Builder → List Entry → Builder → List Entry → Type 0
Walked ss (Ok a) b k n l = Walks ss a b k n l
Walked ss (Err e) b k n l = Starved ss b n
