-- What a walk over places answers, place by place.
use Rattle.std.proofs.Common.{ℕ, ◌≡◌, inl, inr, List, [], ◌∷◌, ◌++◌, Option, Some, None, option_map, Result, Ok, Err, refl, sym, ap, ◌∙◌, subst, append_assoc}
use Rattle.std.specs.Result.{IsErr}
use Rattle.std.proofs.lemmas.List.{append-nil}
use Rattle.eip_text.specs.Causes.{Rises}
use Rattle.eip_simple_read.specs.declared.tree.Predicate.{Predicate}
use Rattle.eip_simple_read.specs.declared.fault.SimpleFault.{SimpleFault}
use Rattle.eip_simple_read.specs.declared.fault.SimpleFault.TheVariants as simple_fault
use Rattle.eip_simple_read.specs.Meaning.{predicate_of, IsReading, fault_failures}
use Rattle.eip_simple_read.specs.Builds.{Told, added, built, patterns_in, EndsRefusedAt, Begins, IsAsked}
use Rattle.eip_simple_read.proofs.Asked.{added_nothing, added_more, built_append, built_behind, begins_behind, begins_before, begins_built, begins_refused, begins_nothing}
use Rattle.eip_simple_read.proofs.AskedFronts.{patterns_front}
use Rattle.eip_route_grammar.specs.Causes.{or_else}
use Rattle.eip_route_faults.specs.Values.{simple_cause, spelled_cause}
use Rattle.eip_route_grammar.specs.Paths.{at_once, placed}
use Rattle.eip_route_faults.specs.Sites.{Mark, wrong, predicate, Site, found, under, cause_at, or_later, first_fault, IsRefusedAt, Stops, patterns_of, unless_wrong, patterns_at, AsksUntil, RefusesAfter, Builder, Builds, read_one, read_at, entries_at, Walks, Starves, Starved, Walked}
use Rattle.eip_route_grammar.specs.declared.fault.Cause.{Cause}
use Rattle.eip_route_grammar.specs.declared.fault.Cause.TheVariants as cause
use Rattle.eip_route_grammar.specs.declared.fault.RouteFault.{RouteFault}
use Rattle.eip_route_grammar.specs.declared.known.Entry.{Entry}

-- ---- the first fault

later_none : (path : List ℕ) (o : Option Cause) (r : Option RouteFault) → or_later path o r ≡ None → (o ≡ None) × (r ≡ None)
later_none path None r e = (refl, e)
later_none path (Some c) r e = cc

later_some : (path : List ℕ) (o : Option Cause) (r later : Option RouteFault) (f : RouteFault) → or_later path o r ≡ Some f → (r ≡ Some f → later ≡ Some f) → or_later path o later ≡ Some f
later_some path None r later f e next = next e
later_some path (Some c) r later f e next = e

pub none_append : (xs ys : List Site) → first_fault xs ≡ None → first_fault (xs ++ ys) ≡ first_fault ys
unfolding first_fault
none_append [] ys e = refl
none_append (s ∷ xs) ys e =
    let p = later_none s.0 (cause_at s.1) (first_fault xs) e in
    ap (λ (o : Option Cause). or_later s.0 o (first_fault (xs ++ ys))) p.0 ∙ none_append xs ys p.1

pub some_append : (xs ys : List Site) (f : RouteFault) → first_fault xs ≡ Some f → first_fault (xs ++ ys) ≡ Some f
unfolding first_fault
some_append [] ys f e = cc
some_append (s ∷ xs) ys f e = later_some s.0 (cause_at s.1) (first_fault xs) (first_fault (xs ++ ys)) f e (λ h. some_append xs ys f h)

later_append : (path : List ℕ) (o : Option Cause) (r q all : Option RouteFault) → all ≡ or_else r q → or_later path o all ≡ or_else (or_later path o r) q
later_append path None r q all e = e
later_append path (Some c) r q all e = refl

-- the first fault of places, and then of others
pub first_append : (xs ys : List Site) → first_fault (xs ++ ys) ≡ or_else (first_fault xs) (first_fault ys)
unfolding first_fault
first_append [] ys = refl
first_append (s ∷ xs) ys = later_append s.0 (cause_at s.1) (first_fault xs) (first_fault ys) (first_fault (xs ++ ys)) (first_append xs ys)

placed_later : (step path : List ℕ) (o : Option Cause) (r later : Option RouteFault) → later ≡ option_map (placed step) r → or_later (step ++ path) o later ≡ option_map (placed step) (or_later path o r)
placed_later step path None r later e = e
placed_later step path (Some c) r later e = refl

pub first_under : (step : List ℕ) (xs : List Site) → first_fault (under step xs) ≡ option_map (placed step) (first_fault xs)
unfolding first_fault
first_under step [] = refl
first_under step (s ∷ xs) = placed_later step s.0 (cause_at s.1) (first_fault xs) (first_fault (under step xs)) (first_under step xs)

-- ---- patterns

-- nothing is wrong at the first place, then, and so behind it
patterns_append : (xs ys : List Site) → first_fault xs ≡ None → patterns_at (xs ++ ys) ≡ patterns_at xs ++ patterns_at ys
unfolding first_fault patterns_at
patterns_append [] ys e = refl
patterns_append (s ∷ xs) ys e =
    let p = later_none s.0 (cause_at s.1) (first_fault xs) e in
    ap (λ (o : Option Cause). patterns_of s.1 ++ unless_wrong o (patterns_at (xs ++ ys))) p.0
    ∙ ap (λ (x : List (List ℕ)). patterns_of s.1 ++ x) (patterns_append xs ys p.1)
    ∙ sym (append_assoc (patterns_of s.1) (patterns_at xs) (patterns_at ys))
    ∙ ap (λ (o : Option Cause). (patterns_of s.1 ++ unless_wrong o (patterns_at xs)) ++ patterns_at ys) (sym p.0)

unless_same : (o : Option Cause) (all front : List (List ℕ)) → (o ≡ None → all ≡ front) → unless_wrong o all ≡ unless_wrong o front
unless_same None all front h = h refl
unless_same (Some c) all front h = refl

-- behind the first fault there are none
patterns_found : (xs ys : List Site) (f : RouteFault) → first_fault xs ≡ Some f → patterns_at (xs ++ ys) ≡ patterns_at xs
unfolding first_fault patterns_at
patterns_found [] ys f e = cc
patterns_found (s ∷ xs) ys f e =
    ap (λ (x : List (List ℕ)). patterns_of s.1 ++ x)
    (unless_same (cause_at s.1) (patterns_at (xs ++ ys)) (patterns_at xs) (λ none. patterns_found xs ys f (ap (λ (o : Option Cause). or_later s.0 o (first_fault xs)) (sym none) ∙ e)))

more_by : (o : Option Cause) (here front all more : List (List ℕ)) → all ≡ front ++ more → (behind : List (List ℕ)) × (here ++ unless_wrong o all ≡ (here ++ unless_wrong o front) ++ behind)
more_by None here front all more e = (more, ap (λ (x : List (List ℕ)). here ++ x) e ∙ sym (append_assoc here front more))
more_by (Some c) here front all more e = ([], sym (append-nil (here ++ [])))

-- those of the first places are in front
patterns_more : (xs ys : List Site) → (more : List (List ℕ)) × (patterns_at (xs ++ ys) ≡ patterns_at xs ++ more)
unfolding patterns_at
patterns_more [] ys = (patterns_at ys, refl)
patterns_more (s ∷ xs) ys =
    let m = patterns_more xs ys in
    more_by (cause_at s.1) (patterns_of s.1) (patterns_at xs) (patterns_at (xs ++ ys)) m.0 m.1

patterns_under : (step : List ℕ) (xs : List Site) → patterns_at (under step xs) ≡ patterns_at xs
unfolding patterns_at
patterns_under step [] = refl
patterns_under step (s ∷ xs) = ap (λ (x : List (List ℕ)). patterns_of s.1 ++ unless_wrong (cause_at s.1) x) (patterns_under step xs)

unless_nothing : (o : Option Cause) → unless_wrong o [] ≡ []
unless_nothing None = refl
unless_nothing (Some c) = refl

patterns_one : (w : List ℕ) → patterns_at (([], predicate w) ∷ []) ≡ patterns_in None w
unfolding patterns_at
patterns_one w = ap (λ (x : List (List ℕ)). patterns_in None w ++ x) (unless_nothing (cause_at (predicate w))) ∙ append-nil (patterns_in None w)

-- ---- builds

builds_as : (xs ys : List (List ℕ)) (b n : Builder) → ys ≡ xs → Builds xs b n → Builds ys b n
builds_as xs ys b n e h = let P : List (List ℕ) → Type 0 = λ x. Builds x b n in subst P (sym e) h

pub builds_nothing : (b : Builder) → Builds [] b b
builds_nothing b = record { faults = refl; builds = sym (added_nothing b.builds) }

builds_behind : (xs ys : List (List ℕ)) (b m n : Builder) → Builds xs b m → Builds ys m n → Builds (xs ++ ys) b n
builds_behind xs ys b m n h g = record { faults = g.faults ∙ h.faults; builds = built_behind xs ys b.builds m.builds n.builds h.builds g.builds }

-- ---- refused patterns

told_as : (ss : List Site) (f : RouteFault) (b m n : Told) → m ≡ b → RefusesAfter ss f m n → RefusesAfter ss f b n
told_as ss f b m n e h = let P : Told → Type 0 = λ x. RefusesAfter ss f x n in subst P e h

refuses_behind : (xs ys : List Site) (f : RouteFault) (b m n : Told) → first_fault xs ≡ None → m ≡ added b (built (patterns_at xs)) → RefusesAfter ys f m n → RefusesAfter (xs ++ ys) f b n
unfolding first_fault patterns_at RefusesAfter
refuses_behind [] ys f b m n e q h = told_as ys f b m n (q ∙ added_nothing b) h
refuses_behind (s ∷ xs) ys f b m n e q h =
    let p = later_none s.0 (cause_at s.1) (first_fault xs) e in
    let here = patterns_of s.1 in
    inr (
      p.0,
      refuses_behind xs ys f (added b (built here)) m n p.1
          (q ∙ ap (λ (o : Option Cause). added b (built (here ++ unless_wrong o (patterns_at xs)))) p.0 ∙ ap (added b) (built_append here (patterns_at xs)) ∙ sym (added_more b (built here) (built (patterns_at xs)))) h,
    )

refuses_before : (xs ys : List Site) (f : RouteFault) (b n : Told) → RefusesAfter xs f b n → RefusesAfter (xs ++ ys) f b n
unfolding RefusesAfter
refuses_before [] ys f b n h = absurd h
refuses_before (s ∷ xs) ys f b n (inl h) = inl h
refuses_before (s ∷ xs) ys f b n (inr h) = inr (h.0, refuses_before xs ys f (added b (built (patterns_of s.1))) n h.1)

refused_under : (step : List ℕ) (path : List ℕ) (m : Mark) (f : RouteFault) → IsRefusedAt (path, m) f → IsRefusedAt (step ++ path, m) (placed step f)
refused_under step path (wrong c) f h = absurd h
refused_under step path (predicate w) f h = (ap (λ (q : List ℕ). step ++ q) h.0, h.1)

refuses_under : (step : List ℕ) (xs : List Site) (f : RouteFault) (b n : Told) → RefusesAfter xs f b n → RefusesAfter (under step xs) (placed step f) b n
unfolding RefusesAfter
refuses_under step [] f b n h = absurd h
refuses_under step ((path, m) ∷ xs) f b n (inl h) = inl (refused_under step path m f h.0, h.1)
refuses_under step ((path, m) ∷ xs) f b n (inr h) = inr (h.0, refuses_under step xs f (added b (built (patterns_of m))) n h.1)

-- the fault is that of a refused pattern
pub refuses_stops : (xs : List Site) (f : RouteFault) (b n : Told) → RefusesAfter xs f b n → Stops xs f
unfolding RefusesAfter Stops
refuses_stops [] f b n h = absurd h
refuses_stops (s ∷ xs) f b n (inl h) = inl h.0
refuses_stops (s ∷ xs) f b n (inr h) = inr (h.0, refuses_stops xs f (added b (built (patterns_of s.1))) n h.1)

stops_before : (xs ys : List Site) (f : RouteFault) → Stops xs f → Stops (xs ++ ys) f
unfolding Stops
stops_before [] ys f h = absurd h
stops_before (s ∷ xs) ys f (inl h) = inl h
stops_before (s ∷ xs) ys f (inr h) = inr (h.0, stops_before xs ys f h.1)

stops_behind : (xs ys : List Site) (f : RouteFault) → first_fault xs ≡ None → Stops ys f → Stops (xs ++ ys) f
unfolding first_fault Stops
stops_behind [] ys f e h = h
stops_behind (s ∷ xs) ys f e h =
    let p = later_none s.0 (cause_at s.1) (first_fault xs) e in
    inr (p.0, stops_behind xs ys f p.1 h)

stops_under : (step : List ℕ) (xs : List Site) (f : RouteFault) → Stops xs f → Stops (under step xs) (placed step f)
unfolding Stops
stops_under step [] f h = absurd h
stops_under step ((path, m) ∷ xs) f (inl h) = inl (refused_under step path m f h)
stops_under step ((path, m) ∷ xs) f (inr h) = inr (h.0, stops_under step xs f h.1)

-- the patterns that were asked for up to a refused one are the first ones
begins_at : (w : List ℕ) (at : ℕ) (b n : Told) → EndsRefusedAt w at b n → Begins (patterns_in None w) b n
begins_at w at b n (left, place, h) =
    let front = patterns_front left w in
    let P : List (List ℕ) → Type 0 = λ x. Begins x b n in
    subst P (sym front.1) (begins_before (patterns_in (Some left) w) front.0 b n (begins_refused (patterns_in (Some left) w) b n h))

begins_until : (m : Mark) (c : Cause) (b n : Told) → AsksUntil m c b n → Begins (patterns_of m) b n
begins_until (wrong c) d b n h = absurd h
begins_until (predicate w) (cause.BadPattern at) b n h = begins_at w at b n h
begins_until (predicate w) (cause.PatternTooLarge at) b n h = begins_at w at b n h
begins_until (predicate w) _ b n h = absurd h

refuses_begins : (xs : List Site) (f : RouteFault) (b n : Told) → RefusesAfter xs f b n → Begins (patterns_at xs) b n
unfolding RefusesAfter patterns_at
refuses_begins [] f b n h = absurd h
refuses_begins (s ∷ xs) f b n (inl h) = begins_before (patterns_of s.1) (unless_wrong (cause_at s.1) (patterns_at xs)) b n (begins_until s.1 f.cause b n h.1)
refuses_begins (s ∷ xs) f b n (inr h) =
    let here = patterns_of s.1 in
    let P : Option Cause → Type 0 = λ o. Begins (here ++ unless_wrong o (patterns_at xs)) b n in
    subst P (sym h.0) (begins_behind here (patterns_at xs) b (added b (built here)) n refl (refuses_begins xs f (added b (built here)) n h.1))

-- ---- the predicates

read_one_append : (w : List ℕ) (r : Result Predicate SimpleFault) (ps qs : List Entry) → read_one w r ps ++ qs ≡ read_one w r (ps ++ qs)
read_one_append w (Ok p) ps qs = refl
read_one_append w (Err e) ps qs = refl

read_append : (m : Mark) (ps qs : List Entry) → read_at m ps ++ qs ≡ read_at m (ps ++ qs)
read_append (wrong c) ps qs = refl
read_append (predicate w) ps qs = read_one_append w (predicate_of w) ps qs

pub entries_append : (xs ys : List Site) → entries_at (xs ++ ys) ≡ entries_at xs ++ entries_at ys
unfolding entries_at
entries_append [] ys = refl
entries_append (s ∷ xs) ys = ap (read_at s.1) (entries_append xs ys) ∙ sym (read_append s.1 (entries_at xs) (entries_at ys))

entries_under : (step : List ℕ) (xs : List Site) → entries_at (under step xs) ≡ entries_at xs
unfolding entries_at
entries_under step [] = refl
entries_under step (s ∷ xs) = ap (read_at s.1) (entries_under step xs)

-- ---- walks

rises_from : {w b m n : ℕ} → m ≡ b → Rises w m n → Rises w b n
rises_from {w} {b} {m} {n} e h = let P : ℕ → Type 0 = λ x. Rises w x n in subst P e h

-- nothing at all
pub walk_nothing : (b : Builder) (k : List Entry) → Walks [] None b k b k
unfolding Walks first_fault entries_at patterns_at
walk_nothing b k = (refl, builds_nothing b, sym (append-nil k))

-- what is wrong here, or nothing
pub walk_found : (c : Option Cause) (b : Builder) (k : List Entry) → Walks (found c) (option_map at_once c) b k b k
unfolding Walks first_fault patterns_at
walk_found None b k = walk_nothing b k
walk_found (Some c) b k = inl (refl, builds_nothing b)

-- what is wrong here comes before all else
pub walk_own : (c : Cause) (ys : List Site) (b : Builder) (k : List Entry) → Walks (found (Some c) ++ ys) (Some (at_once c)) b k b k
unfolding Walks first_fault patterns_at
walk_own c ys b k = inl (refl, builds_nothing b)

-- nothing, and then the answer
pub walk_behind : (xs ys : List Site) (a : Option RouteFault) (b m n : Builder) (k j l : List Entry) → Walks xs None b k m j → Walks ys a m j n l → Walks (xs ++ ys) a b k n l
unfolding Walks
walk_behind xs ys None b m n k j l h g = (
  none_append xs ys h.0 ∙ g.0,
  builds_as (patterns_at xs ++ patterns_at ys) (patterns_at (xs ++ ys)) b n (patterns_append xs ys h.0) (builds_behind (patterns_at xs) (patterns_at ys) b m n h.1 g.1),
  g.2 ∙ ap (λ (p : List Entry). p ++ entries_at ys) h.2 ∙ append_assoc k (entries_at xs) (entries_at ys) ∙ ap (λ (p : List Entry). k ++ p) (sym (entries_append xs ys)),
)
walk_behind xs ys (Some f) b m n k j l h (inl g) =
    inl (none_append xs ys h.0 ∙ g.0, builds_as (patterns_at xs ++ patterns_at ys) (patterns_at (xs ++ ys)) b n (patterns_append xs ys h.0) (builds_behind (patterns_at xs) (patterns_at ys) b m n h.1 g.1))
walk_behind xs ys (Some f) b m n k j l h (inr g) = inr (refuses_behind xs ys f b.builds m.builds n.builds h.0 h.1.builds g.0, rises_from h.1.faults g.1)

-- a fault, whatever follows
pub walk_before : (xs ys : List Site) (f : RouteFault) (b n : Builder) (k l : List Entry) → Walks xs (Some f) b k n l → Walks (xs ++ ys) (Some f) b k n l
unfolding Walks
walk_before xs ys f b n k l (inl g) = inl (some_append xs ys f g.0, builds_as (patterns_at xs) (patterns_at (xs ++ ys)) b n (patterns_found xs ys f g.0) g.1)
walk_before xs ys f b n k l (inr g) = inr (refuses_before xs ys f b.builds n.builds g.0, g.1)

-- under a step of the path
pub walk_under : (step : List ℕ) (xs : List Site) (a : Option RouteFault) (b n : Builder) (k l : List Entry) → Walks xs a b k n l → Walks (under step xs) (option_map (placed step) a) b k n l
unfolding Walks
walk_under step xs None b n k l h = (
  first_under step xs ∙ ap (option_map (placed step)) h.0,
  builds_as (patterns_at xs) (patterns_at (under step xs)) b n (patterns_under step xs) h.1,
  h.2 ∙ ap (λ (p : List Entry). k ++ p) (sym (entries_under step xs)),
)
walk_under step xs (Some f) b n k l (inl g) =
    inl (first_under step xs ∙ ap (option_map (placed step)) g.0, builds_as (patterns_at xs) (patterns_at (under step xs)) b n (patterns_under step xs) g.1)
walk_under step xs (Some f) b n k l (inr g) = inr (refuses_under step xs f b.builds n.builds g.0, g.1)

-- ---- a predicate

-- a predicate that was read is known
pub walk_read : (w : List ℕ) (p : Predicate) (b n : Builder) (k l : List Entry) → IsReading w (Ok p) → Rises 0 b.faults n.faults → IsAsked w (Ok p) b.builds n.builds → l ≡ k ++ record { text = w; predicate = p } ∷ []
    → Walks (([], predicate w) ∷ []) None b k n l
unfolding Walks first_fault entries_at
walk_read w p b n k l h r a e = (
  ap (λ (o : Result Predicate SimpleFault). or_later [] (spelled_cause o) None) h,
  builds_as (patterns_in None w) (patterns_at (([], predicate w) ∷ [])) b n (patterns_one w) (record { faults = r.none refl; builds = a }),
  e ∙ ap (λ (o : Result Predicate SimpleFault). k ++ read_one w o []) (sym h),
)

faulty : (w : List ℕ) (e : SimpleFault) (c : Cause) → predicate_of w ≡ Err e → simple_cause e ≡ Some c → or_later [] (spelled_cause (predicate_of w)) None ≡ Some (at_once c)
faulty w e c h g = ap (λ (o : Result Predicate SimpleFault). or_later [] (spelled_cause o) None) h ∙ ap (λ (o : Option Cause). or_later [] o None) g

-- a predicate that wasn't read is wrong, or one of its patterns was refused
refused : (w : List ℕ) (e : SimpleFault) (c : Cause) (b n : Builder) (k l : List Entry) → IsReading w (Err e) → simple_cause e ≡ Some c → Rises (fault_failures {X = Predicate} (Err e)) b.faults n.faults
    → IsAsked w (Err e) b.builds n.builds → Walks (([], predicate w) ∷ []) (Some (at_once c)) b k n l
unfolding Walks first_fault RefusesAfter
refused w (simple_fault.BadSimple at) c b n k l h g r a =
    inl (faulty w (simple_fault.BadSimple at) c h g, builds_as (patterns_in None w) (patterns_at (([], predicate w) ∷ [])) b n (patterns_one w) (record { faults = r.none refl; builds = a }))
refused w (simple_fault.UnknownFunction at) c b n k l h g r a =
    inl (faulty w (simple_fault.UnknownFunction at) c h g, builds_as (patterns_in None w) (patterns_at (([], predicate w) ∷ [])) b n (patterns_one w) (record { faults = r.none refl; builds = a }))
refused w (simple_fault.BadPattern at) c b n k l h g r a =
    let e : cause.BadPattern at ≡ c = cc in
    let P : Cause → Type 0 = λ x. Walks (([], predicate w) ∷ []) (Some (at_once x)) b k n l in
    subst P e (inr (inl ((refl, h), a), r))
refused w (simple_fault.PatternTooLarge at) c b n k l h g r a =
    let e : cause.PatternTooLarge at ≡ c = cc in
    let P : Cause → Type 0 = λ x. Walks (([], predicate w) ∷ []) (Some (at_once x)) b k n l in
    subst P e (inr (inl ((refl, h), a), r))
refused w simple_fault.NoMemory c b n k l h g r a = cc

pub walk_refused : (w : List ℕ) (e : SimpleFault) (c : Cause) (f : RouteFault) (b n : Builder) (k l : List Entry) → IsReading w (Err e) → Some c ≡ simple_cause e
    → Rises (fault_failures {X = Predicate} (Err e)) b.faults n.faults → IsAsked w (Err e) b.builds n.builds → f ≡ at_once c → Walks (([], predicate w) ∷ []) (Some f) b k n l
walk_refused w e c f b n k l h g r a q =
    let P : RouteFault → Type 0 = λ x. Walks (([], predicate w) ∷ []) (Some x) b k n l in
    subst P (sym q) (refused w e c b n k l h (sym g) r a)

-- where a walk answers nothing, nothing is wrong, and the predicates are known
pub walk_none : (xs : List Site) (b n : Builder) (k l : List Entry) → Walks xs None b k n l → (first_fault xs ≡ None) × (l ≡ k ++ entries_at xs)
unfolding Walks
walk_none xs b n k l h = (h.0, h.2)

-- ---- where memory ends a walk

-- where the walk did nothing
pub starves_still : (xs : List Site) (b : Builder) → Starved xs b b
starves_still xs b = record { faults = inl refl; builds = begins_nothing (patterns_at xs) b.builds b.builds refl }

-- where a walk answered
pub starves_walked : (xs : List Site) (a : Option RouteFault) (b n : Builder) (k l : List Entry) → Walks xs a b k n l → Starved xs b n
unfolding Walks
starves_walked xs None b n k l h = record { faults = inl h.1.faults; builds = begins_built (patterns_at xs) b.builds n.builds h.1.builds }
starves_walked xs (Some f) b n k l (inl h) = record { faults = inl h.1.faults; builds = begins_built (patterns_at xs) b.builds n.builds h.1.builds }
starves_walked xs (Some f) b n k l (inr h) = record {
  faults = inr (f, refuses_stops xs f b.builds n.builds h.0, h.1);
  builds = refuses_begins xs f b.builds n.builds h.0;
}

counts_behind : (xs ys : List Site) (b m n : ℕ) → first_fault xs ≡ None → m ≡ b → Starves ys m n → Starves (xs ++ ys) b n
counts_behind xs ys b m n e h (inl g) = inl (g ∙ h)
counts_behind xs ys b m n e h (inr (f, g, r)) = inr (f, stops_behind xs ys f e g, rises_from h r)

pub counts_before : (xs ys : List Site) (b n : ℕ) → Starves xs b n → Starves (xs ++ ys) b n
counts_before xs ys b n (inl g) = inl g
counts_before xs ys b n (inr (f, g, r)) = inr (f, stops_before xs ys f g, r)

counts_under : (step : List ℕ) (xs : List Site) (b n : ℕ) → Starves xs b n → Starves (under step xs) b n
counts_under step xs b n (inl g) = inl g
counts_under step xs b n (inr (f, g, r)) = inr (placed step f, stops_under step xs f g, r)

begins_as : (xs ys : List (List ℕ)) (b n : Told) → ys ≡ xs → Begins xs b n → Begins ys b n
begins_as xs ys b n e h = let P : List (List ℕ) → Type 0 = λ x. Begins x b n in subst P (sym e) h

-- nothing, and then no memory
pub starves_behind : (xs ys : List Site) (b m n : Builder) (k j : List Entry) → Walks xs None b k m j → Starved ys m n → Starved (xs ++ ys) b n
unfolding Walks
starves_behind xs ys b m n k j h g = record {
  faults = counts_behind xs ys b.faults m.faults n.faults h.0 h.1.faults g.faults;
  builds = begins_as (patterns_at xs ++ patterns_at ys) (patterns_at (xs ++ ys)) b.builds n.builds (patterns_append xs ys h.0)
      (begins_behind (patterns_at xs) (patterns_at ys) b.builds m.builds n.builds h.1.builds g.builds);
}

-- no memory, whatever follows
pub starves_before : (xs ys : List Site) (b n : Builder) → Starved xs b n → Starved (xs ++ ys) b n
starves_before xs ys b n g =
    let m = patterns_more xs ys in
    record {
      faults = counts_before xs ys b.faults n.faults g.faults;
      builds = begins_as (patterns_at xs ++ m.0) (patterns_at (xs ++ ys)) b.builds n.builds m.1 (begins_before (patterns_at xs) m.0 b.builds n.builds g.builds);
    }

pub starves_under : (step : List ℕ) (xs : List Site) (b n : Builder) → Starved xs b n → Starved (under step xs) b n
starves_under step xs b n g = record {
  faults = counts_under step xs b.faults n.faults g.faults;
  builds = begins_as (patterns_at xs) (patterns_at (under step xs)) b.builds n.builds (patterns_under step xs) g.builds;
}

-- a predicate that wasn't read
counts_refused : (w : List ℕ) (e : SimpleFault) (b n : ℕ) → IsReading w (Err e) → Rises (fault_failures {X = Predicate} (Err e)) b n → Starves (([], predicate w) ∷ []) b n
unfolding Stops
counts_refused w (simple_fault.BadSimple at) b n h r = inl (r.none refl)
counts_refused w (simple_fault.UnknownFunction at) b n h r = inl (r.none refl)
counts_refused w (simple_fault.BadPattern at) b n h r = inl (r.none refl)
counts_refused w (simple_fault.PatternTooLarge at) b n h r = inr (at_once (cause.PatternTooLarge at), inl (refl, h), r)
counts_refused w simple_fault.NoMemory b n h r = inl (r.none refl)

asked_begins : (w : List ℕ) (e : SimpleFault) (b n : Told) → IsAsked w (Err e) b n → Begins (patterns_in None w) b n
asked_begins w (simple_fault.BadSimple at) b n a = begins_built (patterns_in None w) b n a
asked_begins w (simple_fault.UnknownFunction at) b n a = begins_built (patterns_in None w) b n a
asked_begins w (simple_fault.BadPattern at) b n a = begins_at w at b n a
asked_begins w (simple_fault.PatternTooLarge at) b n a = begins_at w at b n a
asked_begins w simple_fault.NoMemory b n a = a

pub starves_refused : (w : List ℕ) (e : SimpleFault) (b n : Builder) → IsReading w (Err e) → Rises (fault_failures {X = Predicate} (Err e)) b.faults n.faults → IsAsked w (Err e) b.builds n.builds
    → Starved (([], predicate w) ∷ []) b n
starves_refused w e b n h r a = record {
  faults = counts_refused w e b.faults n.faults h r;
  builds = begins_as (patterns_in None w) (patterns_at (([], predicate w) ∷ [])) b.builds n.builds (patterns_one w) (asked_begins w e b.builds n.builds a);
}

-- a predicate that was read, and that can't be kept
pub starves_read : (w : List ℕ) (p : Predicate) (b n : Builder) → Rises 0 b.faults n.faults → IsAsked w (Ok p) b.builds n.builds → Starved (([], predicate w) ∷ []) b n
starves_read w p b n r a = record {
  faults = inl (r.none refl);
  builds = begins_as (patterns_in None w) (patterns_at (([], predicate w) ∷ [])) b.builds n.builds (patterns_one w) (begins_built (patterns_in None w) b.builds n.builds a);
}

pub walk_ended : {E : Type 0} (xs : List Site) (r : Result (Option RouteFault) E) (b n : Builder) (k l : List Entry) → IsErr r → Starved xs b n → Walked xs r b k n l
walk_ended xs (Ok a) b n k l is h = absurd (cc is)
walk_ended xs (Err e) b n k l is h = h

-- where the walk did nothing
pub still_ended : {E : Type 0} (xs : List Site) (r : Result (Option RouteFault) E) (b : Builder) (k l : List Entry) → IsErr r → Walked xs r b k b l
still_ended xs r b k l is = walk_ended xs r b b k l is (starves_still xs b)
