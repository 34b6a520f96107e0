-- What a walk over a whole route file answers.
use Rattle.std.proofs.Common.{ℕ, ◌+◌, ◌≡◌, ◌≤◌, inl, Bool, true, false, cond, List, [], ◌∷◌, ◌++◌, length, codes, Option, Some, None, refl, sym, ap, ◌∙◌, arith}
use Rattle.eip_text.specs.Causes.{Rises}
use Rattle.eip_text.specs.Json.{Json, Items, no_items, item, object, members_json}
use Rattle.eip_text.specs.declared.tree.Tree.{Tree}
use Rattle.eip_route_grammar.specs.declared.known.Entry.{Entry}
use Rattle.eip_route.specs.declared.route.Names.{Names}
use Rattle.eip_route_grammar.specs.Causes.{or_else}
use Rattle.eip_route_grammar.specs.Objects.{when}
use Rattle.eip_route_grammar.specs.Paths.{at_once, placed}
use Rattle.eip_route_faults.specs.Sites.{found, under, items_sites, first_fault, patterns_at, cause_failures, found_failures, Builder, Walks, Starved}
use Rattle.eip_route_grammar.specs.declared.fault.Cause.{Cause}
use Rattle.eip_route_grammar.specs.declared.fault.Cause.TheVariants as cause
use Rattle.eip_route_grammar.specs.declared.fault.RouteFault.{RouteFault}
use Rattle.eip_route_grammar.specs.declared.table.Kind.TheVariants as kind
use Rattle.eip_route_faults.proofs.Quiet.{Quiet, AreQuiet, quiet_found, quiet_append, quiet_under, quiet_items, walk_rises}
use Rattle.eip_route_faults.proofs.Sited.{at_c, found_at, answered}
use Rattle.eip_route_faults.proofs.Walking.{builds_nothing, walk_nothing, walk_found, walk_own, walk_behind, walk_before, walk_under, starves_before, starves_under}
use Rattle.eip_route_faults.proofs.Starved.{starves_at}
use Rattle.eip_route_file.specs.Later.{sole_key, is_handler, too_many, second_handler, heads, head_at, head_fault, is_id_taken, is_from_taken, second_route, later_fault, as_sites, items_in, list_file, items_file, whole_file, whole_sites, file_sites}
use Rattle.eip_route_file.specs.declared.head.Head.{Head}

pub no_sole_key : (ms : List (List ℕ × Tree)) → 2 ≤ length ms → None ≡ sole_key (object (members_json ms))
no_sole_key [] h = refl
no_sole_key (m ∷ []) h = absurd (omega arith)
no_sole_key (m ∷ o ∷ ms) h = refl

pub no_head : (i position : ℕ) (ms : List (List ℕ × Tree)) → 2 ≤ length ms → None ≡ head_at i position (object (members_json ms))
no_head i position [] h = refl
no_head i position (m ∷ []) h = absurd (omega arith)
no_head i position (m ∷ o ∷ ms) h = refl

later_walks : (o : Option RouteFault) (b : Builder) (k : List Entry) → Walks (as_sites o) o b k b k
unfolding Walks first_fault patterns_at
later_walks None b k = walk_nothing b k
later_walks (Some f) b k = inl (refl, builds_nothing b)

pub file_many : (n : Names) (ts : Items) (own : Option Cause) (c : Cause) (f : RouteFault) (b : Builder) (k : List Entry) → own ≡ when (too_many 256 ts) cause.TooManyRoutes → own ≡ Some c → f ≡ at_once c → Walks (items_file n ts) (Some f) b k b k
file_many n ts own c f b k p q h =
    at_c (items_file n ts) (at_once c) f b b k k h
    (found_at (found (Some c) ++ list_file n ts) (items_file n ts) (Some (at_once c)) b b k k (ap (λ (x : Option Cause). found x ++ list_file n ts) (sym p ∙ q)) (walk_own c (list_file n ts) b k))

pub file_list : (n : Names) (ts : Items) (own : Option Cause) (a : Option RouteFault) (b m : Builder) (k l : List Entry) → own ≡ when (too_many 256 ts) cause.TooManyRoutes → own ≡ None → Walks (list_file n ts) a b k m l → Walks (items_file n ts) a b k m l
file_list n ts own a b m k l p q h = found_at (list_file n ts) (items_file n ts) a b m k l (ap (λ (x : Option Cause). found x ++ list_file n ts) (sym p ∙ q)) h

pub file_item : (n : Names) (ts : Items) (x : Option RouteFault) (f : RouteFault) (b m : Builder) (k l : List Entry) → Walks (items_sites n 0 kind.Item 0 ts) x b k m l → x ≡ Some f → Walks (list_file n ts) (Some f) b k m l
file_item n ts x f b m k l h e =
    walk_before (items_sites n 0 kind.Item 0 ts) (as_sites (later_fault ts)) f b m k l (answered (items_sites n 0 kind.Item 0 ts) x (Some f) b m k l (sym e) h)

pub file_later : (n : Names) (ts : Items) (x a : Option RouteFault) (b m : Builder) (k l : List Entry) → Walks (items_sites n 0 kind.Item 0 ts) x b k m l → x ≡ None → a ≡ later_fault ts → Walks (list_file n ts) a b k m l
file_later n ts x a b m k l h e r =
    walk_behind (items_sites n 0 kind.Item 0 ts) (as_sites (later_fault ts)) a b m m k l l (answered (items_sites n 0 kind.Item 0 ts) x None b m k l (sym e) h)
    (answered (as_sites (later_fault ts)) (later_fault ts) a m m l l r (later_walks (later_fault ts) m l))

pub whole_wrong : (n : Names) (t : Json) (o : Option Items) (f : RouteFault) (b : Builder) (k : List Entry) → o ≡ items_in t → o ≡ None → f ≡ at_once cause.WrongKind → Walks (whole_sites n t) (Some f) b k b k
whole_wrong n t o f b k p q h =
    at_c (whole_sites n t) (at_once cause.WrongKind) f b b k k h
    (found_at (found (Some cause.WrongKind)) (whole_sites n t) (Some (at_once cause.WrongKind)) b b k k (ap (whole_file n) (sym p ∙ q)) (walk_found (Some cause.WrongKind) b k))

pub whole_walks : (n : Names) (t : Json) (o : Option Items) (ts : Items) (a : Option RouteFault) (b m : Builder) (k l : List Entry) → o ≡ items_in t → o ≡ Some ts → Walks (items_file n ts) a b k m l → Walks (whole_sites n t) a b k m l
whole_walks n t o ts a b m k l p q h = found_at (items_file n ts) (whole_sites n t) a b m k l (ap (whole_file n) (sym p ∙ q)) h

-- ---- behind the first step of the path

pub file_walks : (n : Names) (t : Json) (x : Option RouteFault) (b m : Builder) (k l : List Entry) → Walks (whole_sites n t) x b k m l → x ≡ None → Walks (file_sites n t) None b k m l
unfolding file_sites
file_walks n t x b m k l h e = walk_under (codes "$") (whole_sites n t) None b m k l (answered (whole_sites n t) x None b m k l (sym e) h)

pub file_wrong : (n : Names) (t : Json) (x : Option RouteFault) (f g : RouteFault) (b m : Builder) (k l : List Entry) → Walks (whole_sites n t) x b k m l → x ≡ Some f → g ≡ placed (codes "$") f → Walks (file_sites n t) (Some g) b k m l
unfolding file_sites
file_wrong n t x f g b m k l h e q =
    at_c (under (codes "$") (whole_sites n t)) (placed (codes "$") f) g b m k l q (walk_under (codes "$") (whole_sites n t) (Some f) b m k l (answered (whole_sites n t) x (Some f) b m k l (sym e) h))

-- ---- where memory is wanting

pub list_starves : (n : Names) (ts : Items) (b m : Builder) → Starved (items_sites n 0 kind.Item 0 ts) b m → Starved (list_file n ts) b m
list_starves n ts b m h = starves_before (items_sites n 0 kind.Item 0 ts) (as_sites (later_fault ts)) b m h

pub items_starve : (n : Names) (ts : Items) (own : Option Cause) (b m : Builder) → own ≡ when (too_many 256 ts) cause.TooManyRoutes → own ≡ None → Starved (list_file n ts) b m → Starved (items_file n ts) b m
items_starve n ts own b m p q h = starves_at (list_file n ts) (items_file n ts) b m (ap (λ (x : Option Cause). found x ++ list_file n ts) (sym p ∙ q)) h

pub whole_starves : (n : Names) (t : Json) (o : Option Items) (ts : Items) (b m : Builder) → o ≡ items_in t → o ≡ Some ts → Starved (items_file n ts) b m → Starved (whole_sites n t) b m
whole_starves n t o ts b m p q h = starves_at (items_file n ts) (whole_sites n t) b m (ap (whole_file n) (sym p ∙ q)) h

pub file_starves : (n : Names) (t : Json) (b m : Builder) → Starved (whole_sites n t) b m → Starved (file_sites n t) b m
unfolding file_sites
file_starves n t b m h = starves_under (codes "$") (whole_sites n t) b m h

-- ---- the count of patterns' faults

abbrev QuietFault : Option RouteFault → Type 0
QuietFault None = Unit {0}
QuietFault (Some f) = cause_failures f.cause ≡ 0

quiet_many : (t : Bool) → Quiet (when t cause.TooManyRoutes)
quiet_many true = refl
quiet_many false = tt

quiet_if : (t : Bool) (o p : Option RouteFault) → QuietFault o → QuietFault p → QuietFault (cond t o p)
quiet_if true o p q r = q
quiet_if false o p q r = r

quiet_or : (o p : Option RouteFault) → QuietFault o → QuietFault p → QuietFault (or_else o p)
quiet_or None p q r = r
quiet_or (Some f) p q r = q

quiet_handler : (i : ℕ) (met : Bool) (ts : Items) → QuietFault (second_handler i met ts)
quiet_handler i met no_items = tt
quiet_handler i met (item t ts) =
    quiet_if (is_handler t) _ (second_handler (i + 1) met ts) (quiet_if met _ (second_handler (i + 1) true ts) refl (quiet_handler (i + 1) true ts)) (quiet_handler (i + 1) met ts)

quiet_head : (before : List Head) (h : Head) → QuietFault (head_fault before h)
quiet_head before h = quiet_if (is_id_taken h before) _ _ refl (quiet_if (is_from_taken h before) _ None refl tt)

quiet_route : (before hs : List Head) → QuietFault (second_route before hs)
quiet_route before [] = tt
quiet_route before (h ∷ hs) = quiet_or (head_fault before h) (second_route (before ++ h ∷ []) hs) (quiet_head before h) (quiet_route (before ++ h ∷ []) hs)

quiet_sites_of : (o : Option RouteFault) → QuietFault o → AreQuiet (as_sites o)
quiet_sites_of None q = tt
quiet_sites_of (Some f) q = (q, tt)

quiet_later : (ts : Items) → AreQuiet (as_sites (later_fault ts))
quiet_later ts =
    quiet_sites_of (later_fault ts) (quiet_or (second_handler 0 false ts) (second_route [] (heads 0 1 ts)) (quiet_handler 0 false ts) (quiet_route [] (heads 0 1 ts)))

quiet_whole : (n : Names) (o : Option Items) → AreQuiet (whole_file n o)
quiet_whole n None = (refl, tt)
quiet_whole n (Some ts) =
    quiet_append (found (when (too_many 256 ts) cause.TooManyRoutes)) (list_file n ts) (quiet_found (when (too_many 256 ts) cause.TooManyRoutes) (quiet_many (too_many 256 ts)))
    (quiet_append (items_sites n 0 kind.Item 0 ts) (as_sites (later_fault ts)) (quiet_items n 0 kind.Item 0 ts) (quiet_later ts))

-- the count of patterns' faults rose where a walk answers so
pub file_rises : (n : Names) (t : Json) (a : Option RouteFault) (b m : Builder) (k l : List Entry) → Walks (file_sites n t) a b k m l → Rises (found_failures a) b.faults m.faults
unfolding file_sites
file_rises n t a b m k l h = walk_rises (under (codes "$") (whole_sites n t)) a b m k l (quiet_under (codes "$") (whole_sites n t) (quiet_whole n (items_in t))) h
