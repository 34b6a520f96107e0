-- How often a text stands among the predicates at places, and that each was read where nothing is wrong there.
use Rattle.std.proofs.Common.{◌≡◌, ℕ, ◌+◌, cond, List, [], ◌∷◌, ◌++◌, Option, Some, None, Result, Ok, Err, refl, ap, ◌∙◌, arith, bytes_eq}
use Rattle.eip_simple_read.specs.Meaning.{predicate_of}
use Rattle.eip_simple_read.specs.declared.fault.SimpleFault.{SimpleFault}
use Rattle.eip_simple_read.specs.declared.tree.Predicate.{Predicate}
use Rattle.eip_route_faults.specs.Values.{spelled_cause}
use Rattle.eip_route_faults.specs.Sites.{Mark, wrong, predicate, Site, under, or_later, first_fault, read_one, entries_at}
use Rattle.eip_route_grammar.specs.declared.fault.Cause.{Cause}
use Rattle.eip_route_grammar.specs.declared.fault.RouteFault.{RouteFault}
use Rattle.eip_route_grammar.specs.declared.known.Entry.{Entry}
use Rattle.eip_route_values.specs.Taken.{stock}
use Rattle.eip_route_validity.proofs.fitting.Leaves.{predicate_told, no_cause}

abbrev pub in_mark : List ℕ → Mark → ℕ
in_mark w (wrong c) = 0
in_mark w (predicate x) = cond (bytes_eq x w) 1 0

-- how often a text is that of a predicate at these places
abbrev pub stands : List ℕ → List Site → ℕ
stands w [] = 0
stands w (s ∷ ss) = in_mark w s.1 + stands w ss

pub stands_append : (w : List ℕ) (xs ys : List Site) → stands w (xs ++ ys) ≡ stands w xs + stands w ys
stands_append w [] ys = omega arith
stands_append w (x ∷ xs) ys = omega (arith, stands_append w xs ys)

pub stands_under : (w : List ℕ) (step : List ℕ) (ss : List Site) → stands w (under step ss) ≡ stands w ss
stands_under w step [] = refl
stands_under w step (s ∷ ss) = ap (λ (n : ℕ). in_mark w s.1 + n) (stands_under w step ss)

-- ---- each was read

later_none : (path : List ℕ) (o : Option Cause) (rest : Option RouteFault) → or_later path o rest ≡ None → (o ≡ None) × (rest ≡ None)
later_none path None rest e = (refl, e)
later_none path (Some c) rest e = absurd cc

read_by : (w x : List ℕ) (r : Result Predicate SimpleFault) (es : List Entry) → predicate_of x ≡ r → spelled_cause r ≡ None → stock (read_one x r es) w ≡ cond (bytes_eq x w) 1 0 + stock es w
unfolding stock
read_by w x (Ok p) es q e = refl
read_by w x (Err f) es q e = absurd (predicate_told x (q ∙ ap (λ (y : SimpleFault). Err y) (no_cause f e)))

pub all_read : (w : List ℕ) (ss : List Site) → first_fault ss ≡ None → stock (entries_at ss) w ≡ stands w ss
unfolding first_fault entries_at stock
all_read w [] e = refl
all_read w ((path, wrong c) ∷ ss) e = absurd cc
all_read w ((path, predicate x) ∷ ss) e =
    let h = later_none path (spelled_cause (predicate_of x)) (first_fault ss) e in
    read_by w x (predicate_of x) (entries_at ss) refl h.0 ∙ ap (λ (n : ℕ). cond {A = ℕ} (bytes_eq x w) 1 0 + n) (all_read w ss h.1)
