-- Worked rows of the table of operators, and of values.
use Rattle.std.specs.Prelude.{◌≡◌, true, false, [], ◌∷◌, codes, Some, None, refl}
use Rattle.memchr.specs.Find.{matches_from, first_of}
use Rattle.eip_text.specs.Numbers.{whole_of}
use Rattle.eip_simple_read.specs.declared.tree.Function.TheVariants.{Body, Header, Property, RouteId}
use Rattle.eip_simple_read.specs.declared.tree.Part.TheVariants.{Plain, Call}
use Rattle.eip_simple_read.specs.declared.tree.Op.TheVariants.{Equal, NotEqual, EqualFold, Less, AtMost, Contains, NotContains, ContainsFold, StartsWith, EndsWith, In, Range, NotRange}
use Rattle.eip_simple_read.specs.declared.tree.Side.TheVariants as side
use Rattle.eip_simple_read.specs.declared.tree.Test.TheVariants.{Single, Compare}
use Rattle.eip_simple.specs.Views.{Seen}
use Rattle.eip_simple.specs.Values.{template_value}
use Rattle.eip_simple.specs.Orders.{order}
use Rattle.eip_simple.specs.Operators.{occurs, is_among, is_within, op_holds}
use Rattle.eip_simple.specs.Holding.{predicate_holds}

-- ---- numbers where both are, else bytes

nine_below_ten : op_holds Less (Some (codes "9")) (Some (codes "10")) ≡ true
unfolding whole_of order
nine_below_ten = refl

nine_a_not_below_ten : op_holds Less (Some (codes "9a")) (Some (codes "10")) ≡ false
unfolding whole_of order
nine_a_not_below_ten = refl

a_number_in_two_spellings : op_holds Equal (Some (codes "-07")) (Some (codes "-7")) ≡ true
unfolding whole_of order
a_number_in_two_spellings = refl

bytes_keep_their_case : op_holds Equal (Some (codes "a")) (Some (codes "A")) ≡ false
unfolding whole_of order
bytes_keep_their_case = refl

beyond_64_bits_by_bytes : op_holds AtMost (Some (codes "9223372036854775808")) (Some (codes "93")) ≡ true
unfolding whole_of order
beyond_64_bits_by_bytes = refl

-- ---- absent sides

both_absent : op_holds Equal None None ≡ true
both_absent = refl

absent_is_not_empty : op_holds NotEqual None (Some []) ≡ true
absent_is_not_empty = refl

nothing_below_absent : op_holds AtMost None None ≡ false
nothing_below_absent = refl

a_negation_of_absent : op_holds NotContains (Some (codes "a")) None ≡ true
a_negation_of_absent = refl

-- ---- texts

up_to_case : op_holds EqualFold (Some (codes "aB")) (Some (codes "Ab")) ≡ true
up_to_case = refl

in_the_middle : op_holds Contains (Some (codes "hello")) (Some (codes "ell")) ≡ true
unfolding occurs matches_from first_of
in_the_middle = refl

not_the_other_way : op_holds Contains (Some (codes "ell")) (Some (codes "hello")) ≡ false
unfolding occurs matches_from first_of
not_the_other_way = refl

in_any_case : op_holds ContainsFold (Some (codes "Hello")) (Some (codes "ELL")) ≡ true
unfolding occurs matches_from first_of
in_any_case = refl

at_the_front : op_holds StartsWith (Some (codes "hello")) (Some (codes "he")) ≡ true
at_the_front = refl

longer_than_the_text : op_holds EndsWith (Some (codes "lo")) (Some (codes "hello")) ≡ false
longer_than_the_text = refl

among_numbers : op_holds In (Some (codes "9")) (Some (codes "8,09")) ≡ true
unfolding whole_of order is_among
among_numbers = refl

among_pieces : op_holds In (Some (codes "a,b")) (Some (codes "a,b")) ≡ false
unfolding whole_of order is_among
among_pieces = refl

-- ---- ranges

both_bounds_are_in : op_holds Range (Some (codes "9")) (Some (codes "5..9")) ≡ true
unfolding whole_of is_within
both_bounds_are_in = refl

a_bad_bound : op_holds NotRange (Some (codes "5")) (Some (codes "1..x")) ≡ true
unfolding whole_of is_within
a_bad_bound = refl

-- ---- values and predicates

sample : Seen
sample = record { message = record { body = codes "b"; headers = (codes "Name", codes "v") ∷ []; properties = (codes "p", codes "q") ∷ [] }; number = 12; route = codes "r" }

a_value : template_value (record { parts = Plain (codes "x") ∷ Call (Header (codes "nAME")) ∷ Call (Property (codes "P")) ∷ Call RouteId ∷ Call Body ∷ [] }) sample ≡ codes "xvrb"
unfolding sample template_value
a_value = refl

some_conjunction : predicate_holds (record { any = (Single side.Null ∷ []) ∷ (Single (side.Call Body) ∷ Compare (side.Call (Property (codes "p"))) Equal (side.Value (record { parts = Plain (codes "q") ∷ [] })) ∷ []) ∷ [] }) sample ≡ true
unfolding sample predicate_holds template_value whole_of order
some_conjunction = refl
