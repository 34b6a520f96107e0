-- A set of routes that is printed has no fault.
use Rattle.std.proofs.Common.{◌≡◌, Bool, false, List, ◌++◌, Option, None, ap, ◌∙◌, append_assoc}
use Rattle.std.specs.Prelude.{codes}
use Rattle.eip_text.specs.Json.{Json, list, Items, items_of}
use Rattle.eip_route.specs.Nest.{NestedSet}
use Rattle.eip_route.specs.declared.route.Names.{Names}
use Rattle.eip_route_grammar.specs.Objects.{when}
use Rattle.eip_route_faults.specs.Sites.{found, items_sites, first_fault}
use Rattle.eip_route_grammar.specs.declared.fault.Cause.TheVariants as cause
use Rattle.eip_route_grammar.specs.declared.fault.RouteFault.{RouteFault}
use Rattle.eip_route_grammar.specs.declared.table.Kind.TheVariants as kind
use Rattle.eip_route_file.specs.Later.{too_many, later_fault, as_sites, items_file, file_sites}
use Rattle.eip_route_validity.specs.Fit.{SetFits}
use Rattle.eip_route_canonical.specs.Canonical.{list_of, handler_items, clauses_json, routes_json, set_items}
use Rattle.eip_route_roundtrip.proofs.Fine.{ItemsFine, none_at_all, none_found, none_under, none_both}
use Rattle.eip_route_roundtrip.proofs.FineItems.{items_fine}
use Rattle.eip_route_roundtrip.proofs.FineLater.{few_routes, nothing_twice}

-- a file whose items have no fault, of not too many routes, where nothing stands twice
list_faultless : (n : Names) (ts : Items) → too_many 256 ts ≡ false → ItemsFine n 0 kind.Item ts → later_fault ts ≡ None → first_fault (file_sites n (list ts)) ≡ None
unfolding file_sites
list_faultless n ts few fine later =
    none_under (codes "$") (items_file n ts)
    (none_both (found (when (too_many 256 ts) cause.TooManyRoutes)) (items_sites n 0 kind.Item 0 ts ++ as_sites (later_fault ts))
    (none_found (when (too_many 256 ts) cause.TooManyRoutes) (ap (λ (t : Bool). when t cause.TooManyRoutes) few))
    (none_both (items_sites n 0 kind.Item 0 ts) (as_sites (later_fault ts)) (fine 0) (ap (λ (o : Option RouteFault). first_fault (as_sites o)) later ∙ none_at_all)))

-- what is printed of nested steps has no fault
pub faultless_again : (n : Names) (x : NestedSet) → SetFits n x → first_fault (file_sites n (list_of (set_items x))) ≡ None
faultless_again n x fits =
    ap (λ (js : List Json). first_fault (file_sites n (list_of js))) (append_assoc (handler_items x.handler) (clauses_json x.clauses) (routes_json x.routes))
    ∙ list_faultless n (items_of (handler_items x.handler ++ (clauses_json x.clauses ++ routes_json x.routes))) (few_routes n x fits) (items_fine n x fits) (nothing_twice n x fits)
