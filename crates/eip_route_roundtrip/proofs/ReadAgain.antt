-- What is printed of the set that a file without a fault gives is read as that set.
use Rattle.std.proofs.Common.{◌≡◌, ℕ, Bool, true, false, List, [], ◌∷◌, ◌++◌, Option, Some, None, refl, sym, subst, ap, ◌∙◌, if◌then◌else◌}
use Rattle.std.specs.Str.{IsUtf8}
use Rattle.eip_text.specs.Json.{Json, json_read}
use Rattle.eip_text.specs.JsonText.{json_text, has_float}
use Rattle.eip_route.specs.Nest.{NestedSet, flat_set}
use Rattle.eip_route.specs.declared.route.Names.{Names}
use Rattle.eip_route_faults.specs.Sites.{Site, first_fault}
use Rattle.eip_route_grammar.specs.declared.fault.Cause.{Cause}
use Rattle.eip_route_grammar.specs.declared.fault.Cause.TheVariants as cause
use Rattle.eip_route_file.specs.Later.{file_sites}
use Rattle.eip_route_validity.specs.Fit.{SetFits}
use Rattle.eip_route_json.specs.Reading.{whole_file, tree_sites, is_too_long, byte_sites, tree_set, set_of}
use Rattle.eip_route_values.specs.Sets.{nest}
use Rattle.eip_route_canonical.specs.Canonical.{list_of, set_items, set_json, canonical_text}
use Rattle.eip_route_print.proofs.Floats.{floatless}
use Rattle.eip_route_roundtrip.proofs.LineRead.{line_read}
use Rattle.eip_route_roundtrip.proofs.OrderedFile.{set_canonical, set_shallow}
use Rattle.eip_route_roundtrip.proofs.FormedSteps.{back_fitting}

-- ---- bytes without a fault

whole_fault : (c : Cause) → first_fault (whole_file c) ≡ None → ⊥
unfolding first_fault
whole_fault c h = cc

not_long : (b : Bool) (ss : List Site) → first_fault (if b then whole_file cause.TooLong else ss) ≡ None → first_fault ss ≡ None
not_long true ss h = absurd (whole_fault cause.TooLong h)
not_long false ss h = h

tree_of : (n : Names) (o : Option Json) → first_fault (tree_sites n o) ≡ None → (t : Json) × ((o ≡ Some t) × (first_fault (file_sites n t) ≡ None))
tree_of n None h = absurd (whole_fault cause.NotJson h)
tree_of n (Some t) h = (t, (refl, h))

bytes_tree : (n : Names) (bytes : List ℕ) → first_fault (byte_sites n bytes) ≡ None → (t : Json) × ((json_read bytes ≡ Some t) × (first_fault (file_sites n t) ≡ None))
unfolding byte_sites
bytes_tree n bytes h = tree_of n (json_read bytes) (not_long (is_too_long bytes) (tree_sites n (json_read bytes)) h)

tree_set_of : (n : Names) (bytes : List ℕ) (t : Json) → json_read bytes ≡ Some t → set_of n bytes ≡ flat_set n (nest t)
unfolding set_of
tree_set_of n bytes t e = ap (tree_set n) e

-- ---- the text of a set that fits

text_of_set : (n : Names) (x : NestedSet) → SetFits n x → canonical_text (flat_set n x) ≡ json_text (list_of (set_items x)) ++ 10 ∷ []
unfolding canonical_text set_json
text_of_set n x h = ap (λ y. json_text (list_of (set_items y)) ++ 10 ∷ []) (back_fitting n x h)

pub set_floatless : (n : Names) (x : NestedSet) → SetFits n x → has_float (list_of (set_items x)) ≡ false
unfolding set_json
set_floatless n x h = subst (λ y. has_float (list_of (set_items y)) ≡ false) (back_fitting n x h) (floatless (flat_set n x))

pub text_read : (n : Names) (x : NestedSet) (text : List ℕ) → SetFits n x → text ≡ canonical_text (flat_set n x) → IsUtf8 text → json_read text ≡ Some (list_of (set_items x))
text_read n x text h e utf8 =
    line_read (list_of (set_items x)) text (e ∙ text_of_set n x h) utf8 (set_canonical n x h) (set_floatless n x h) (set_shallow n x h)

-- ---- the law

pub read_again :
    ((n : Names) (t : Json) → first_fault (file_sites n t) ≡ None → SetFits n (nest t)) →
    ((n : Names) (x : NestedSet) → SetFits n x → nest (list_of (set_items x)) ≡ x) →
    ((n : Names) (x : NestedSet) → SetFits n x → first_fault (file_sites n (list_of (set_items x))) ≡ None) →
    (names : Names) (bytes text : List ℕ) → first_fault (byte_sites names bytes) ≡ None → text ≡ canonical_text (set_of names bytes) → IsUtf8 text →
    (tree : Json) × (json_read text ≡ Some tree) × (first_fault (file_sites names tree) ≡ None) × (flat_set names (nest tree) ≡ set_of names bytes)
read_again file_fits nested_again faultless_again names bytes text faultless printed utf8 =
    let tree = bytes_tree names bytes faultless in
    let x = nest tree.0 in
    let fits : SetFits names x = file_fits names tree.0 tree.1.1 in
    let set : set_of names bytes ≡ flat_set names x = tree_set_of names bytes tree.0 tree.1.0 in (
      list_of (set_items x),
      text_read names x text fits (printed ∙ ap canonical_text set) utf8,
      faultless_again names x fits,
      ap (flat_set names) (nested_again names x fits) ∙ sym set,
    )
