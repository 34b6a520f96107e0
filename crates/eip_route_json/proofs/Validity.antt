-- The set of bytes in which nothing is wrong is valid.
use Rattle.std.proofs.Common.{◌≡◌, ℕ, Bool, true, false, List, Option, Some, None}
use Rattle.std.specs.Prelude.{if◌then◌else◌}
use Rattle.eip_text.specs.Json.{Json, json_read}
use Rattle.eip_route.specs.Valid.{IsValid}
use Rattle.eip_route.specs.declared.route.Names.{Names}
use Rattle.eip_route_faults.specs.Sites.{first_fault}
use Rattle.eip_route_grammar.specs.declared.fault.Cause.{Cause}
use Rattle.eip_route_grammar.specs.declared.fault.Cause.TheVariants as cause
use Rattle.eip_route_json.specs.Reading.{whole_file, tree_sites, tree_set, is_too_long, byte_sites, set_of}
use Rattle.eip_route_values.specs.Sets.{nest}
use Rattle.eip_route_validity.proofs.filed.Whole.{file_fits}
use Rattle.eip_route_validity.proofs.ValidSets.{fits_valid}

is_wrong : (c : Cause) → first_fault (whole_file c) ≡ None → ⊥
unfolding first_fault
is_wrong c h = cc h

tree_valid : (n : Names) (t : Option Json) → first_fault (tree_sites n t) ≡ None → IsValid (tree_set n t)
tree_valid n None h = absurd (is_wrong cause.NotJson h)
tree_valid n (Some t) h = fits_valid n (nest t) (file_fits n t h)

pub read_valid : (n : Names) (bytes : List ℕ) → first_fault (byte_sites n bytes) ≡ None → IsValid (set_of n bytes)
unfolding byte_sites set_of
read_valid n bytes h = by_length (is_too_long bytes) h
  where
    by_length : (b : Bool) → first_fault (if b then whole_file cause.TooLong else tree_sites n (json_read bytes)) ≡ None → IsValid (tree_set n (json_read bytes))
    by_length true h = absurd (is_wrong cause.TooLong h)
    by_length false h = tree_valid n (json_read bytes) h
