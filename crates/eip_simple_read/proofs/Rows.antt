-- Worked rows of the two readers and of the printed form, by computing.
use Rattle.std.proofs.Common.{◌≡◌, [], ◌∷◌, Ok, Err, true, refl}
use Rattle.std.specs.Prelude.{codes}
use Rattle.eip_text.specs.Names.{is_name}
use Rattle.eip_simple_read.specs.declared.tree.Function.TheVariants.{Body, Header, Property, RouteId}
use Rattle.eip_simple_read.specs.declared.tree.Part.TheVariants as part
use Rattle.eip_simple_read.specs.declared.tree.Side.TheVariants as side
use Rattle.eip_simple_read.specs.declared.tree.Op.TheVariants.{StartsWith, Greater}
use Rattle.eip_simple_read.specs.declared.tree.Test.TheVariants as test
use Rattle.eip_simple_read.specs.declared.tree.Predicate.{Predicate}
use Rattle.eip_simple_read.specs.declared.fault.SimpleFault.TheVariants as fault
use Rattle.eip_simple_read.specs.Reading.{named, function_behind, template, quoted, numeral, word, side_at, symbol, named_operator, operator_at, spaced, gap, pattern_at, test_at, joint_at, tests_at, all_tests}
use Rattle.eip_simple_read.specs.Meaning.{template_of, predicate_of, IsPatternAt}
use Rattle.eip_simple_read.specs.Spelling.{predicate_text}

-- ---- templates

plain_dollar : template_of (codes "a$b") ≡ Ok (record { parts = part.Plain (codes "a$b") ∷ [] })
unfolding is_name named function_behind template template_of
plain_dollar = refl

functions : template_of (codes "$${headers.n}${exchangeProperty.a-b}") ≡ Ok (record { parts = part.Plain (codes "$") ∷ part.Call (Header (codes "n")) ∷ part.Call (Property (codes "a-b")) ∷ [] })
unfolding is_name named function_behind template template_of
functions = refl

no_brace : template_of (codes "ab${body") ≡ Err (fault.BadSimple 2)
unfolding is_name named function_behind template template_of
no_brace = refl

no_name : template_of (codes "${body} ${header.}") ≡ Err (fault.UnknownFunction 8)
unfolding is_name named function_behind template template_of
no_name = refl

-- ---- predicates

no_operator : predicate_of (codes "${body} =") ≡ Err (fault.BadSimple 8)
unfolding is_name named function_behind template quoted numeral word side_at symbol named_operator operator_at spaced gap pattern_at test_at joint_at tests_at all_tests predicate_of
no_operator = refl

no_quote : predicate_of (codes "${body} == 'x") ≡ Err (fault.BadSimple 11)
unfolding is_name named function_behind template quoted numeral word side_at symbol named_operator operator_at spaced gap pattern_at test_at joint_at tests_at all_tests predicate_of
no_quote = refl

no_function : predicate_of (codes "${boddy} == 'x'") ≡ Err (fault.UnknownFunction 0)
unfolding is_name named function_behind template quoted numeral word side_at symbol named_operator operator_at spaced gap pattern_at test_at joint_at tests_at all_tests predicate_of
no_function = refl

no_side : predicate_of (codes "${body} ==") ≡ Err (fault.BadSimple 10)
unfolding is_name named function_behind template quoted numeral word side_at symbol named_operator operator_at spaced gap pattern_at test_at joint_at tests_at all_tests predicate_of
no_side = refl

no_space : predicate_of (codes "${body} <='x'") ≡ Err (fault.BadSimple 10)
unfolding is_name named function_behind template quoted numeral word side_at symbol named_operator operator_at spaced gap pattern_at test_at joint_at tests_at all_tests predicate_of
no_space = refl

no_end : predicate_of (codes "true &&5x") ≡ Err (fault.BadSimple 7)
unfolding is_name named function_behind template quoted numeral word side_at symbol named_operator operator_at spaced gap pattern_at test_at joint_at tests_at all_tests predicate_of
no_end = refl

no_plain_pattern : predicate_of (codes "${body} regex 'a${body}'") ≡ Err (fault.BadSimple 14)
unfolding is_name named function_behind template quoted numeral word side_at symbol named_operator operator_at spaced gap pattern_at test_at joint_at tests_at all_tests predicate_of
no_plain_pattern = refl

no_quoted_pattern : predicate_of (codes "${body} regex 5") ≡ Err (fault.BadSimple 14)
unfolding is_name named function_behind template quoted numeral word side_at symbol named_operator operator_at spaced gap pattern_at test_at joint_at tests_at all_tests predicate_of
no_quoted_pattern = refl

-- where a refused pattern would be reported
pattern_place : IsPatternAt (codes "${body} regex '(' && 5x") 14 (codes "(")
unfolding is_name named function_behind template quoted numeral word side_at symbol named_operator operator_at spaced gap pattern_at test_at joint_at tests_at all_tests
pattern_place = (9, refl, refl)

-- `&&` binds tighter than `||`
bound : predicate_of (codes "true || false && null") ≡ Ok (record {
  any =
      (test.Single (side.Value (record { parts = part.Plain (codes "true") ∷ [] })) ∷ [])
      ∷ (test.Single (side.Value (record { parts = part.Plain (codes "false") ∷ [] })) ∷ test.Single side.Null ∷ []) ∷ [];
})
unfolding is_name named function_behind template quoted numeral word side_at symbol named_operator operator_at spaced gap pattern_at test_at joint_at tests_at all_tests predicate_of
bound = refl

matching : predicate_of (codes " ${routeId} !regex \"it's\" ") ≡ Ok (record { any = (test.Matches (side.Call RouteId) (codes "it's") true ∷ []) ∷ [] })
unfolding is_name named function_behind template quoted numeral word side_at symbol named_operator operator_at spaced gap pattern_at test_at joint_at tests_at all_tests predicate_of
matching = refl

abbrev both : Predicate
both = record {
  any = (test.Compare (side.Call (Header (codes "n"))) StartsWith (side.Value (record { parts = part.Plain (codes "it's") ∷ [] }))
      ∷ test.Compare (side.Call Body) Greater (side.Value (record { parts = part.Plain (codes "-5") ∷ [] })) ∷ []) ∷ [];
}

both_read : predicate_of (codes "${headers.n}  starts with \"it's\" && ${body} > -5") ≡ Ok both
unfolding is_name named function_behind template quoted numeral word side_at symbol named_operator operator_at spaced gap pattern_at test_at joint_at tests_at all_tests predicate_of
both_read = refl

both_printed : predicate_text both ≡ codes "${header.n} startsWith \"it's\" && ${body} > '-5'"
both_printed = refl
