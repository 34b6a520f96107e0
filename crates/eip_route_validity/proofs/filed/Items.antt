-- An item in which nothing is wrong says a route, the error handler or a clause that fits.
use Rattle.std.proofs.Common.{ℕ, ◌≡◌, ⊎_elim, Bool, true, false, cond, ◌||◌, List, [], Option, Some, None, refl, sym, ap, ◌∙◌, subst}
use Rattle.eip_text.specs.Json.{Json, null, flag, whole, float, word, list, object, Items, no_items, item, Members, no_members, member}
use Rattle.eip_route.specs.Nest.{NestedClause}
use Rattle.eip_route.specs.declared.route.Handler.{Handler}
use Rattle.eip_route.specs.declared.route.Names.{Names}
use Rattle.eip_route_grammar.specs.Keys.{spelled, dashed, is_spelled}
use Rattle.eip_route_grammar.specs.Table.{rows, row_for, kind_in, rule_of, list_of, shape_of}
use Rattle.eip_route_faults.specs.Values.{flag_cause, whole_cause}
use Rattle.eip_route_faults.specs.Sites.{has_none, own_list}
use Rattle.eip_route_grammar.specs.declared.fault.Cause.TheVariants as cause
use Rattle.eip_route_grammar.specs.declared.keys.Key.{Key}
use Rattle.eip_route_grammar.specs.declared.keys.Key.TheVariants as key
use Rattle.eip_route_grammar.specs.declared.table.Kind.{Kind}
use Rattle.eip_route_grammar.specs.declared.table.Kind.TheVariants as kind
use Rattle.eip_route_grammar.specs.declared.table.Listed.{Listed}
use Rattle.eip_route_grammar.specs.declared.table.Rule.{Rule}
use Rattle.eip_route_grammar.specs.declared.table.Row.{Row}
use Rattle.eip_route_grammar.specs.declared.table.Row.TheVariants as row
use Rattle.eip_route_file.specs.Later.{route_head, from_head}
use Rattle.eip_route_values.specs.Leaves.{members_given}
use Rattle.eip_route_values.specs.Sets.{with_clause, handler_or, handler_of, route_given, whole_route, from_route, clause_in}
use Rattle.eip_route_validity.proofs.fitting.Faultless.{IsFaultless, WordFits, fits, item_object_fits, handler_object_fits, EachItem}
use Rattle.eip_route_validity.proofs.fitting.Keyed.{spelled_one, row_cases}
use Rattle.eip_route_validity.proofs.fitting.Values.{with_object}
use Rattle.eip_route_validity.proofs.filed.Clauses.{clause_fits}
use Rattle.eip_route_validity.proofs.filed.Handlers.{handler_of_fits}
use Rattle.eip_route_validity.proofs.filed.Parts.{Part, a_route, a_handler, a_clause, counts, route_in, head_in, handler_else, clause_before, Says, Fitting}
use Rattle.eip_route_validity.proofs.filed.Routes.{whole_said, from_said}
use Rattle.eip_route_validity.proofs.filed.Tables.{for_route, for_from, for_clause}

-- ---- the four keys of an item

-- whether this is `route`, `from`, `errorHandler` and `onException`
abbrev IsSpelled : Bool → Bool → Bool → Bool → List ℕ → Type 0
IsSpelled a b c d k = (is_spelled key.Route k ≡ a) × ((is_spelled key.From k ≡ b) × ((is_spelled key.ErrorHandler k ≡ c) × (is_spelled key.OnException k ≡ d)))

spelled_so : (P : List ℕ → Type 0) (q : Key) (k : List ℕ) → is_spelled q k ≡ true → P (spelled q) → P (dashed (spelled q)) → P k
spelled_so P q k e plain dash = ⊎_elim (λ p. subst P (sym p) plain) (λ p. subst P (sym p) dash) (spelled_one q k e)

is_route : (k : List ℕ) → is_spelled key.Route k ≡ true → IsSpelled true false false false k
unfolding spelled dashed is_spelled
is_route k e = spelled_so (IsSpelled true false false false) key.Route k e (refl, (refl, (refl, refl))) (refl, (refl, (refl, refl)))

is_from : (k : List ℕ) → is_spelled key.From k ≡ true → IsSpelled false true false false k
unfolding spelled dashed is_spelled
is_from k e = spelled_so (IsSpelled false true false false) key.From k e (refl, (refl, (refl, refl))) (refl, (refl, (refl, refl)))

is_handler : (k : List ℕ) → is_spelled key.ErrorHandler k ≡ true → IsSpelled false false true false k
unfolding spelled dashed is_spelled
is_handler k e = spelled_so (IsSpelled false false true false) key.ErrorHandler k e (refl, (refl, (refl, refl))) (refl, (refl, (refl, refl)))

is_clause : (k : List ℕ) → is_spelled key.OnException k ≡ true → IsSpelled false false false true k
unfolding spelled dashed is_spelled
is_clause k e = spelled_so (IsSpelled false false false true) key.OnException k e (refl, (refl, (refl, refl))) (refl, (refl, (refl, refl)))

-- ---- what an object with one of them says

abbrev given : Bool → Members → Option Members
given b ms = members_given (cond b (Some (object ms)) None)

record SaysBy (a b c d : Bool) (ms : Members) (e : Part) : Type 0 where
  counted : (a || b) ≡ counts e
  route : (k : ℕ) → route_given k (given a ms) (given b ms) ≡ route_in k e
  head : (i k : ℕ) → cond a (Some (route_head i k ms)) (cond b (Some (from_head i k ms)) None) ≡ head_in i k e
  handler : (later : Handler) → handler_or (given c ms) later ≡ handler_else e later
  clause : (cs : List NestedClause) → with_clause (given d ms) cs ≡ clause_before e cs

says_here : (k : List ℕ) (ms : Members) (e : Part) → SaysBy (is_spelled key.Route k) (is_spelled key.From k) (is_spelled key.ErrorHandler k) (is_spelled key.OnException k) ms e → Says (object (member k (object ms) no_members)) e
says_here k ms e s = record { counted = s.counted; route = s.route; head = s.head; handler = s.handler; clause = s.clause }

says_by : (a b c d : Bool) (k : List ℕ) (ms : Members) (e : Part) → IsSpelled a b c d k → SaysBy a b c d ms e → Says (object (member k (object ms) no_members)) e
says_by a b c d k ms e q s =
    let route = is_spelled key.Route k in
    let from = is_spelled key.From k in
    let handler = is_spelled key.ErrorHandler k in
    says_here k ms e
    (subst (λ (x : Bool). SaysBy route from handler x ms e) (sym q.1.1.1)
    (subst (λ (x : Bool). SaysBy route from x d ms e) (sym q.1.1.0)
    (subst (λ (x : Bool). SaysBy route x c d ms e) (sym q.1.0)
    (subst (λ (x : Bool). SaysBy x b c d ms e) (sym q.0) s))))

-- ---- by the item's key

abbrev route_row : Row
route_row = row.One key.Route kind.Route

abbrev from_row : Row
from_row = row.One key.From kind.From

abbrev handler_row : Row
handler_row = row.One key.ErrorHandler kind.ErrorHandler

abbrev clause_row : Row
clause_row = row.One key.OnException kind.OnException

-- a kind of neither a text nor a list
only_object : (P : Json → Type 0) (n : Names) (d : ℕ) (ps : List (List ℕ × List ℕ)) (v : Kind) (t : Json) → rule_of v ≡ None → list_of v ≡ None → IsFaultless n d ps v t → ((ms : Members) → IsFaultless n d ps v (object ms) → P (object ms)) → P t
only_object P n d ps v null r l e f = absurd (fits n d ps v null e)
only_object P n d ps v (flag b) r l e f = absurd (let h : Some cause.WrongKind ≡ None = sym (ap (λ (x : Option Rule). flag_cause x b) r) ∙ fits n d ps v (flag b) e in cc)
only_object P n d ps v (whole z) r l e f = absurd (let h : Some cause.WrongKind ≡ None = sym (ap (λ (x : Option Rule). whole_cause x z) r) ∙ fits n d ps v (whole z) e in cc)
only_object P n d ps v float r l e f = absurd (fits n d ps v float e)
only_object P n d ps v (word w) r l e f = absurd (subst (λ (x : Option Rule). WordFits n ps x w) r (fits n d ps v (word w) e))
only_object P n d ps v (list ts) r l e f = absurd (let h : Some cause.WrongKind ≡ None = sym (ap (λ (x : Option Listed). own_list d x (has_none ts)) l) ∙ (fits n d ps v (list ts) e).0 in cc)
only_object P n d ps v (object ms) r l e f = f ms e

route_item : (n : Names) (ps : List (List ℕ × List ℕ)) (k : List ℕ) (t : Json) → is_spelled key.Route k ≡ true → IsFaultless n 0 ps kind.Route t → Fitting n (object (member k t no_members))
route_item n ps k t q e = with_object (λ x. Fitting n (object (member k x no_members))) n 0 ps kind.Route t for_route e (λ ms o. record {
  part = a_route (λ j. whole_route j ms) (λ i j. route_head i j ms);
  says = says_by true false false false k ms _ (is_route k q) (record { counted = refl; route = λ j. refl; head = λ i j. refl; handler = λ h. refl; clause = λ cs. refl });
  fits = whole_said n ms o;
})

from_item : (n : Names) (ps : List (List ℕ × List ℕ)) (k : List ℕ) (t : Json) → is_spelled key.From k ≡ true → IsFaultless n 0 ps kind.From t → Fitting n (object (member k t no_members))
from_item n ps k t q e = with_object (λ x. Fitting n (object (member k x no_members))) n 0 ps kind.From t for_from e (λ ms o. record {
  part = a_route (λ j. from_route j ms) (λ i j. from_head i j ms);
  says = says_by false true false false k ms _ (is_from k q) (record { counted = refl; route = λ j. refl; head = λ i j. refl; handler = λ h. refl; clause = λ cs. refl });
  fits = from_said n ms o;
})

handler_item : (n : Names) (ps : List (List ℕ × List ℕ)) (k : List ℕ) (t : Json) → is_spelled key.ErrorHandler k ≡ true → IsFaultless n 0 ps kind.ErrorHandler t → Fitting n (object (member k t no_members))
unfolding rule_of list_of shape_of
handler_item n ps k t q e = only_object (λ x. Fitting n (object (member k x no_members))) n 0 ps kind.ErrorHandler t refl refl e (λ ms f. record {
  part = a_handler (handler_of ms);
  says = says_by false false true false k ms _ (is_handler k q) (record { counted = refl; route = λ j. refl; head = λ i j. refl; handler = λ h. refl; clause = λ cs. refl });
  fits = handler_of_fits n ms (handler_object_fits n 0 ps kind.ErrorHandler ms refl f).1;
})

clause_item : (n : Names) (ps : List (List ℕ × List ℕ)) (k : List ℕ) (t : Json) → is_spelled key.OnException k ≡ true → IsFaultless n 0 ps kind.OnException t → Fitting n (object (member k t no_members))
clause_item n ps k t q e = with_object (λ x. Fitting n (object (member k x no_members))) n 0 ps kind.OnException t for_clause e (λ ms o. record {
  part = a_clause (clause_in ms);
  says = says_by false false false true k ms _ (is_clause k q) (record { counted = refl; route = λ j. refl; head = λ i j. refl; handler = λ h. refl; clause = λ cs. refl });
  fits = clause_fits n ms o;
})

-- ---- the items

keyed_item : (n : Names) (ps : List (List ℕ × List ℕ)) (k : List ℕ) (t : Json) (r : Row) → row_for k (rows kind.Item) ≡ Some r → IsFaultless n 0 ps (kind_in r) t → Fitting n (object (member k t no_members))
unfolding rows
keyed_item n ps k t r e f =
    let at : (s : Row) → s ≡ r → IsFaultless n 0 ps (kind_in s) t = λ s p. subst (λ (x : Row). IsFaultless n 0 ps (kind_in x) t) (sym p) f in
    row_cases (is_spelled key.Route k) route_row r _ e (λ q p. route_item n ps k t q (at route_row p))
    (λ e. row_cases (is_spelled key.From k) from_row r _ e (λ q p. from_item n ps k t q (at from_row p))
    (λ e. row_cases (is_spelled key.ErrorHandler k) handler_row r _ e (λ q p. handler_item n ps k t q (at handler_row p))
    (λ e. row_cases (is_spelled key.OnException k) clause_row r None e (λ q p. clause_item n ps k t q (at clause_row p))
    (λ e. absurd cc))))

item_fits : (n : Names) (t : Json) → IsFaultless n 0 [] kind.Item t → Fitting n t
unfolding rule_of list_of shape_of
item_fits n t e = only_object (Fitting n) n 0 [] kind.Item t refl refl e (λ ms f.
    let o = item_object_fits n 0 [] kind.Item ms refl f in
    subst (λ (x : Members). Fitting n (object x)) (sym o.is) (keyed_item n _ o.key o.value o.row o.known o.faultless))

pub items_fit : (n : Names) (ts : Items) → EachItem (IsFaultless n 0 [] kind.Item) ts → EachItem (Fitting n) ts
items_fit n no_items e = tt
items_fit n (item t ts) e = (item_fits n t e.0, items_fit n ts e.1)
