-- What a route file without a fault says fits.
use Rattle.std.proofs.Common.{◌≡◌, ◌≤◌, false, [], length, Option, Some, None, codes, arith}
use Rattle.eip_text.specs.Json.{Json, list, Items}
use Rattle.eip_route.specs.declared.route.Names.{Names}
use Rattle.eip_route_grammar.specs.Objects.{when}
use Rattle.eip_route_faults.specs.Sites.{found, items_sites, first_fault}
use Rattle.eip_route_grammar.specs.declared.fault.Cause.TheVariants as cause
use Rattle.eip_route_grammar.specs.declared.fault.RouteFault.{RouteFault}
use Rattle.eip_route_grammar.specs.declared.table.Kind.TheVariants as kind
use Rattle.eip_route_file.specs.Later.{too_many, second_handler, heads, second_route, later_fault, as_sites, list_file, items_file, whole_sites, file_sites}
use Rattle.eip_route_values.specs.Sets.{routes_of, nest_items, nest}
use Rattle.eip_route_validity.specs.Fit.{SetFits}
use Rattle.eip_route_validity.proofs.fitting.Faultless.{or_none, append_none, under_none, found_none, each_item}
use Rattle.eip_route_validity.proofs.fitting.Keyed.{fresh_by}
use Rattle.eip_route_validity.proofs.filed.Apart.{routes_apart}
use Rattle.eip_route_validity.proofs.filed.Items.{items_fit}
use Rattle.eip_route_validity.proofs.filed.Listed.{routes_counted, routes_fit, clauses_fit, handler_fits, heads_are}

none_later : (o : Option RouteFault) → first_fault (as_sites o) ≡ None → o ≡ None
unfolding first_fault
none_later None e = e
none_later (Some f) e = absurd cc

list_set_fits : (n : Names) (ts : Items) → first_fault (items_file n ts) ≡ None → SetFits n (nest_items ts)
list_set_fits n ts e =
    let many = append_none (found (when (too_many 256 ts) cause.TooManyRoutes)) (list_file n ts) e in
    let parts = append_none (items_sites n 0 kind.Item 0 ts) (as_sites (later_fault ts)) many.1 in
    let later = or_none (second_handler 0 false ts) (second_route [] (heads 0 1 ts)) (none_later (later_fault ts) parts.1) in
    let items = items_fit n ts (each_item n 0 kind.Item 0 ts parts.0) in
    let count : length (routes_of 1 ts) ≤ 256 = routes_counted n ts 256 1 items (fresh_by (too_many 256 ts) cause.TooManyRoutes None (found_none _ many.0)).0 in
    record {
      count = count;
      routes = routes_fit n ts 1 items (omega arith);
      apart = (routes_apart [] [] (heads 0 1 ts) (routes_of 1 ts) tt (heads_are n ts 0 1 items) later.1).1;
      handler = handler_fits n ts items;
      clauses = clauses_fit n ts items;
    }

tree_fits : (n : Names) (t : Json) → first_fault (whole_sites n t) ≡ None → SetFits n (nest t)
tree_fits n (list ts) e = list_set_fits n ts e
tree_fits n _ e = absurd (let h = found_none (Some cause.WrongKind) e in cc)

pub file_fits : (n : Names) (t : Json) → first_fault (file_sites n t) ≡ None → SetFits n (nest t)
unfolding file_sites
file_fits n t e = tree_fits n t (under_none (codes "$") (whole_sites n t) e)
