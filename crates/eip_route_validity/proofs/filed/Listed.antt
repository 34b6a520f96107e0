-- What the items of a route file say together: its routes, its error handler and its clauses.
use Rattle.std.proofs.Common.{ℕ, ◌+◌, ◌-◌, ◌≡◌, ◌≤◌, Bool, true, false, cond, List, length, Option, refl, sym, subst, arith}
use Rattle.std.specs.Prelude.{nat_eq, All}
use Rattle.std.specs.List.{AllZip}
use Rattle.std.proofs.lemmas.Bool.{true≢false, eqb-false}
use Rattle.std.proofs.lemmas.List.Elements.{All-nil, All-cons}
use Rattle.eip_text.specs.Json.{Items, no_items, item}
use Rattle.eip_route.specs.Nest.{NestedClause, NestedRoute}
use Rattle.eip_route.specs.declared.route.Handler.{Handler}
use Rattle.eip_route.specs.declared.route.Names.{Names}
use Rattle.eip_route_file.specs.Later.{too_many, then_heads, heads}
use Rattle.eip_route_file.specs.declared.head.Head.{Head}
use Rattle.eip_route_values.specs.Sets.{with_route, routes_of, handler_in, clauses_of}
use Rattle.eip_route_validity.specs.Fit.{RouteFits, ClauseFits, HandlerFits}
use Rattle.eip_route_validity.proofs.fitting.Faultless.{EachItem}
use Rattle.eip_route_validity.proofs.filed.Handlers.{default_fits}
use Rattle.eip_route_validity.proofs.filed.Parts.{Part, a_route, a_handler, a_clause, counts, route_in, head_in, handler_else, clause_before, IsHead, PartFits, Fitting}

-- the routes behind a route that may stand in front
abbrev Before : ℕ → Items → Option NestedRoute → List NestedRoute
Before k ts o = with_route k o (λ j. routes_of j ts)

-- ---- how many routes

one_less : (b : Bool) (left : ℕ) (later : Bool) (size : ℕ) → nat_eq left 0 ≡ b → cond b true later ≡ false → (later ≡ false → size ≤ left - 1) → size + 1 ≤ left
one_less true left later size e h next = absurd (true≢false h)
one_less false left later size e h next =
    let less = next h in
    let some = eqb-false left 0 e in
    omega arith

count_with : (e : Part) (left k : ℕ) (ts : Items) → ((l j : ℕ) → too_many l ts ≡ false → length (routes_of j ts) ≤ l)
    → cond (counts e) (cond (nat_eq left 0) true (too_many (left - 1) ts)) (too_many left ts) ≡ false → length (Before k ts (route_in k e)) ≤ left
count_with (a_route r h) left k ts later c =
    let size : length (routes_of (k + 1) ts) + 1 ≤ left = one_less (nat_eq left 0) left (too_many (left - 1) ts) (length (routes_of (k + 1) ts)) refl c (later (left - 1) (k + 1)) in
    omega arith
count_with (a_handler h) left k ts later c = later left k c
count_with (a_clause c) left k ts later d = later left k d

pub routes_counted : (n : Names) (ts : Items) (left k : ℕ) → EachItem (Fitting n) ts → too_many left ts ≡ false → length (routes_of k ts) ≤ left
routes_counted n no_items left k a c = omega arith
routes_counted n (item t ts) left k a c =
    let s = a.0.says in
    let many : Bool → Type 0 = λ b. cond b (cond (nat_eq left 0) true (too_many (left - 1) ts)) (too_many left ts) ≡ false in
    let few : Option NestedRoute → Type 0 = λ o. length (Before k ts o) ≤ left in
    subst few (sym (s.route k)) (count_with a.0.part left k ts (λ l j. routes_counted n ts l j a.1) (subst many s.counted c))

-- ---- routes, clauses and the handler

routes_with : (n : Names) (e : Part) (k : ℕ) (ts : Items) → PartFits n e → ((j : ℕ) → j + length (routes_of j ts) ≤ 257 → All (RouteFits n) (routes_of j ts))
    → k + length (Before k ts (route_in k e)) ≤ 257 → All (RouteFits n) (Before k ts (route_in k e))
routes_with n (a_route r h) k ts f later c =
    All-cons (RouteFits n) (r k) (routes_of (k + 1) ts) (record { id = f.id k (omega arith); from = f.from k; steps = f.steps k; batched = f.batched k }) (later (k + 1) (omega arith))
routes_with n (a_handler h) k ts f later c = later k c
routes_with n (a_clause c) k ts f later d = later k d

-- the routes from position k on, of which the last stands at most at position 256
pub routes_fit : (n : Names) (ts : Items) (k : ℕ) → EachItem (Fitting n) ts → k + length (routes_of k ts) ≤ 257 → All (RouteFits n) (routes_of k ts)
routes_fit n no_items k a c = All-nil (RouteFits n)
routes_fit n (item t ts) k a c =
    let P : Option NestedRoute → Type 0 = λ o. k + length (Before k ts o) ≤ 257 → All (RouteFits n) (Before k ts o) in
    subst P (sym (a.0.says.route k)) (routes_with n a.0.part k ts a.0.fits (λ j. routes_fit n ts j a.1)) c

clauses_with : (n : Names) (e : Part) (cs : List NestedClause) → PartFits n e → All (ClauseFits n) cs → All (ClauseFits n) (clause_before e cs)
clauses_with n (a_route r h) cs f later = later
clauses_with n (a_handler h) cs f later = later
clauses_with n (a_clause c) cs f later = All-cons (ClauseFits n) c cs f later

pub clauses_fit : (n : Names) (ts : Items) → EachItem (Fitting n) ts → All (ClauseFits n) (clauses_of ts)
clauses_fit n no_items a = All-nil (ClauseFits n)
clauses_fit n (item t ts) a =
    subst (λ (cs : List NestedClause). All (ClauseFits n) cs) (sym (a.0.says.clause (clauses_of ts))) (clauses_with n a.0.part (clauses_of ts) a.0.fits (clauses_fit n ts a.1))

handler_with : (n : Names) (e : Part) (later : Handler) → PartFits n e → HandlerFits n later → HandlerFits n (handler_else e later)
handler_with n (a_route r h) later f g = g
handler_with n (a_handler h) later f g = f
handler_with n (a_clause c) later f g = g

pub handler_fits : (n : Names) (ts : Items) → EachItem (Fitting n) ts → HandlerFits n (handler_in ts)
handler_fits n no_items a = default_fits n
handler_fits n (item t ts) a =
    subst (HandlerFits n) (sym (a.0.says.handler (handler_in ts))) (handler_with n a.0.part (handler_in ts) a.0.fits (handler_fits n ts a.1))

-- ---- what is compared of the routes

heads_with : (n : Names) (e : Part) (i k : ℕ) (ts : Items) → PartFits n e → ((j : ℕ) → AllZip IsHead (heads (i + 1) j ts) (routes_of j ts))
    → AllZip IsHead (then_heads (head_in i k e) k (λ next. heads (i + 1) next ts)) (Before k ts (route_in k e))
heads_with n (a_route r h) i k ts f later = (f.head i k, later (k + 1))
heads_with n (a_handler h) i k ts f later = later k
heads_with n (a_clause c) i k ts f later = later k

pub heads_are : (n : Names) (ts : Items) (i k : ℕ) → EachItem (Fitting n) ts → AllZip IsHead (heads i k ts) (routes_of k ts)
heads_are n no_items i k a = tt
heads_are n (item t ts) i k a =
    let s = a.0.says in
    let P : Option NestedRoute → Type 0 = λ o. AllZip IsHead (heads i k (item t ts)) (Before k ts o) in
    let Q : Option Head → Type 0 = λ o. AllZip IsHead (then_heads o k (λ next. heads (i + 1) next ts)) (Before k ts (route_in k a.0.part)) in
    subst P (sym (s.route k)) (subst Q (sym (s.head i k)) (heads_with n a.0.part i k ts a.0.fits (λ j. heads_are n ts (i + 1) j a.1)))
