-- What a walk over a file's places says of the routes that are read.
use Rattle.std.proofs.Common.{◌≡◌, ℕ, Bool, true, false, cond, List, [], ◌++◌, Option, Some, None, Result, Ok, Err, refl, sym, ap, subst, ◌∙◌, inl, inr, codes}
use Rattle.eip_text.specs.Json.{Json, json_read}
use Rattle.eip_route.specs.Valid.{IsValid}
use Rattle.eip_route.specs.declared.route.Names.{Names}
use Rattle.eip_route.specs.declared.route.RouteSet.{RouteSet}
use Rattle.eip_simple_read.specs.Builds.{Told, added, built, Begins}
use Rattle.eip_simple_read.proofs.Asked.{added_nothing, begins_nothing}
use Rattle.eip_route_faults.specs.Sites.{Site, first_fault, patterns_at, entries_at, Builder, Builds, Walks, Starves}
use Rattle.eip_route_faults.proofs.Walking.{refuses_stops}
use Rattle.eip_route_file.specs.Later.{file_sites}
use Rattle.eip_route_values.specs.Taken.{Holds, in_file}
use Rattle.eip_route_validity.proofs.filed.Taken.{file_held}
use Rattle.eip_route_grammar.specs.declared.fault.Cause.{Cause}
use Rattle.eip_route_grammar.specs.declared.fault.Cause.TheVariants as cause
use Rattle.eip_route_grammar.specs.declared.fault.RouteFault.{RouteFault}
use Rattle.eip_route_grammar.specs.declared.known.Entry.{Entry}
use Rattle.eip_route_json.specs.declared.read.RouteRefusal.{RouteRefusal}
use Rattle.eip_route_json.specs.declared.read.RouteRefusal.TheVariants as refusal
use Rattle.eip_route_json.specs.Reading.{whole_file, tree_sites, is_too_long, byte_sites, set_of, Finds, ReadsAt, AsksFor, Refuses}

-- a fault that a walk finds
walk_finds : (at : List Site) (f : RouteFault) (before after : Builder) (k l : List Entry) → Walks at (Some f) before k after l → Finds at before.faults after.faults f
unfolding Walks
walk_finds at f before after k l (inl h) = inl (h.0, h.1.faults)
walk_finds at f before after k l (inr h) = inr (refuses_stops at f before.builds after.builds h.0, h.1)

pub walk_tells : (at : List Site) (f : RouteFault) (a : Option RouteFault) (before after : Builder) (k l : List Entry) → Walks at a before k after l → a ≡ Some f → Finds at before.faults after.faults f
walk_tells at f a before after k l h e = walk_finds at f before after k l (subst (λ (x : Option RouteFault). Walks at x before k after l) e h)

-- what a builder was asked for up to it
walk_asks : (at : List Site) (f : RouteFault) (before after : Builder) (k l : List Entry) → Walks at (Some f) before k after l → AsksFor at before.builds after.builds (Err (refusal.Refused f))
unfolding Walks
walk_asks at f before after k l (inl h) = inl (h.0, h.1.builds)
walk_asks at f before after k l (inr h) = inr h.0

pub walk_asks_until : (at : List Site) (f : RouteFault) (a : Option RouteFault) (before after : Builder) (k l : List Entry) → Walks at a before k after l → a ≡ Some f → AsksFor at before.builds after.builds (Err (refusal.Refused f))
walk_asks_until at f a before after k l h e = walk_asks at f before after k l (subst (λ (x : Option RouteFault). Walks at x before k after l) e h)

-- a walk that finds none
pub walk_passes : (at : List Site) (before after : Builder) (k l : List Entry) → Walks at None before k after l → (first_fault at ≡ None) × Builds (patterns_at at) before after
unfolding Walks
walk_passes at before after k l h = (h.0, h.1)

-- and what is known then
walk_keeps : (at : List Site) (before after : Builder) (k l : List Entry) → Walks at None before k after l → (first_fault at ≡ None) × (l ≡ k ++ entries_at at)
unfolding Walks
walk_keeps at before after k l h = (h.0, h.2)

-- each predicate that building takes
pub walk_holds : (n : Names) (t : Json) (a : Option RouteFault) (before after : Builder) (k l : List Entry) → Walks (file_sites n t) a before k after l → a ≡ None → k ≡ [] → Holds (in_file t) l
walk_holds n t a before after k l h none empty =
    let w = walk_keeps (file_sites n t) before after k l (subst (λ (x : Option RouteFault). Walks (file_sites n t) x before k after l) none h) in
    let kept : l ≡ entries_at (file_sites n t) = w.1 ∙ ap (λ (es : List Entry). es ++ entries_at (file_sites n t)) empty in
    subst (Holds (in_file t)) (sym kept) (file_held n t w.0)

-- and what it asks for
pub walk_asks_all : (at : List Site) (s : RouteSet) (a : Option RouteFault) (before after : Builder) (k l : List Entry) → Walks at a before k after l → a ≡ None → AsksFor at before.builds after.builds (Ok s)
walk_asks_all at s a before after k l h none = (walk_passes at before after k l (subst (λ (x : Option RouteFault). Walks at x before k after l) none h)).1.builds

pub walk_reads : (at : List Site) (set s : RouteSet) (a : Option RouteFault) (before after : Builder) (k l : List Entry) → Walks at a before k after l → a ≡ None → s ≡ set → (first_fault at ≡ None → IsValid set) → ReadsAt at set before.faults after.faults (Ok s)
walk_reads at set s a before after k l h none e valid =
    let w = walk_passes at before after k l (subst (λ (x : Option RouteFault). Walks at x before k after l) none h) in (w.0, e, w.1.faults, subst IsValid (sym e) (valid w.0))

-- a reading that memory ended
pub reading_ended : (at : List Site) (set : RouteSet) (before after : ℕ) (r : Result RouteSet RouteRefusal) → r ≡ Err refusal.NoMemory → Starves at before after → ReadsAt at set before after r
reading_ended at set before after r is h = subst (ReadsAt at set before after) (sym is) h

pub asking_ended : (at : List Site) (before after : Told) (r : Result RouteSet RouteRefusal) → r ≡ Err refusal.NoMemory → Begins (patterns_at at) before after → AsksFor at before after r
asking_ended at before after r is h = subst (AsksFor at before after) (sym is) h

whole_first : (c : Cause) → first_fault (whole_file c) ≡ Some (record { path = codes "$"; cause = c })
unfolding first_fault
whole_first c = refl

-- the whole file is refused
pub refuses_whole : (c : Cause) (r : RouteRefusal) (set : RouteSet) (n : ℕ) → Refuses c r → ReadsAt (whole_file c) set n n (Err r)
refuses_whole c (refusal.Refused f) set n h = inl (whole_first c ∙ ap Some (sym h), refl)
refuses_whole c refusal.NoMemory set n h = inl refl

-- and nothing is asked for
nothing_asked : (c : Cause) (n : Told) → n ≡ added n (built (patterns_at (whole_file c)))
unfolding patterns_at
nothing_asked c n = sym (added_nothing n)

pub asks_whole : (c : Cause) (r : RouteRefusal) (n : Told) → Refuses c r → AsksFor (whole_file c) n n (Err r)
asks_whole c (refusal.Refused f) n h = inl (whole_first c ∙ ap Some (sym h), nothing_asked c n)
asks_whole c refusal.NoMemory n h = begins_nothing (patterns_at (whole_file c)) n n refl

-- ---- bytes that are no tree

refuses_at : (at : List Site) (c : Cause) (r : RouteRefusal) (set : RouteSet) (n : ℕ) → at ≡ whole_file c → Refuses c r → ReadsAt at set n n (Err r)
refuses_at at c r set n same h = subst (λ (x : List Site). ReadsAt x set n n (Err r)) (sym same) (refuses_whole c r set n h)

asks_at : (at : List Site) (c : Cause) (r : RouteRefusal) (n : Told) → at ≡ whole_file c → Refuses c r → AsksFor at n n (Err r)
asks_at at c r n same h = subst (λ (x : List Site). AsksFor x n n (Err r)) (sym same) (asks_whole c r n h)

long_sites : (names : Names) (bytes : List ℕ) (b : Bool) → b ≡ is_too_long bytes → b ≡ true → byte_sites names bytes ≡ whole_file cause.TooLong
unfolding byte_sites
long_sites names bytes b e h = ap (λ (x : Bool). cond x (whole_file cause.TooLong) (tree_sites names (json_read bytes))) (sym e ∙ h)

pub refuses_long : (names : Names) (bytes : List ℕ) (b : Bool) (r : RouteRefusal) (n : ℕ) → b ≡ is_too_long bytes → b ≡ true → Refuses cause.TooLong r
    → ReadsAt (byte_sites names bytes) (set_of names bytes) n n (Err r)
refuses_long names bytes b r n e h refuses = refuses_at (byte_sites names bytes) cause.TooLong r (set_of names bytes) n (long_sites names bytes b e h) refuses

pub asks_long : (names : Names) (bytes : List ℕ) (b : Bool) (r : RouteRefusal) (n : Told) → b ≡ is_too_long bytes → b ≡ true → Refuses cause.TooLong r → AsksFor (byte_sites names bytes) n n (Err r)
asks_long names bytes b r n e h refuses = asks_at (byte_sites names bytes) cause.TooLong r n (long_sites names bytes b e h) refuses

other_sites : (names : Names) (bytes : List ℕ) (b : Bool) → b ≡ is_too_long bytes → b ≡ false → json_read bytes ≡ None → byte_sites names bytes ≡ whole_file cause.NotJson
unfolding byte_sites
other_sites names bytes b e h none =
    ap (λ (x : Bool). cond x (whole_file cause.TooLong) (tree_sites names (json_read bytes))) (sym e ∙ h) ∙ ap (tree_sites names) none

pub refuses_other : (names : Names) (bytes : List ℕ) (b : Bool) (r : RouteRefusal) (n : ℕ) → b ≡ is_too_long bytes → b ≡ false → json_read bytes ≡ None → Refuses cause.NotJson r
    → ReadsAt (byte_sites names bytes) (set_of names bytes) n n (Err r)
refuses_other names bytes b r n e h none refuses =
    refuses_at (byte_sites names bytes) cause.NotJson r (set_of names bytes) n (other_sites names bytes b e h none) refuses

pub asks_other : (names : Names) (bytes : List ℕ) (b : Bool) (r : RouteRefusal) (n : Told) → b ≡ is_too_long bytes → b ≡ false → json_read bytes ≡ None → Refuses cause.NotJson r → AsksFor (byte_sites names bytes) n n (Err r)
asks_other names bytes b r n e h none refuses = asks_at (byte_sites names bytes) cause.NotJson r n (other_sites names bytes b e h none) refuses
