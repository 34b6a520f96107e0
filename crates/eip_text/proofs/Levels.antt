-- The levels of a tree as JSON data.
use Rattle.std.proofs.Common.{ℕ, ℤ, Bool, List, [], ◌∷◌, ◌≡◌, refl, ap, ◌∙◌, sym, map}
use Rattle.eip_text.specs.Json.{Json, null, flag, whole, float, word, list, object, item, member, json, items_json, members_json, items_of, members_of, one_level}
use Rattle.eip_text.specs.declared.tree.Tree.{Tree}
use Rattle.eip_text.specs.declared.tree.Tree.TheOpen.{Tree-F}
use Rattle.eip_text.specs.declared.tree.Tree.TheFolds.{fold-roll-Tree}
use Rattle.eip_text.specs.declared.tree.Tree.TheVariants as tree

pub json_null : json tree.Null ≡ null
unfolding json
json_null = ap json (sym tree.rolls-Null) ∙ fold-roll-Tree Json one_level Tree-F.Null

pub json_flag : (b : Bool) → json (tree.Flag b) ≡ flag b
unfolding json
json_flag b = ap json (sym (tree.rolls-Flag b)) ∙ fold-roll-Tree Json one_level (Tree-F.Flag b)

pub json_whole : (z : ℤ) → json (tree.Whole z) ≡ whole z
unfolding json
json_whole z = ap json (sym (tree.rolls-Whole z)) ∙ fold-roll-Tree Json one_level (Tree-F.Whole z)

pub json_float : json tree.Float ≡ float
unfolding json
json_float = ap json (sym tree.rolls-Float) ∙ fold-roll-Tree Json one_level Tree-F.Float

pub json_word : (w : List ℕ) → json (tree.Word w) ≡ word w
unfolding json
json_word w = ap json (sym (tree.rolls-Word w)) ∙ fold-roll-Tree Json one_level (Tree-F.Word w)

items_mapped : (ts : List Tree) → items_of (map json ts) ≡ items_json ts
items_mapped [] = refl
items_mapped (t ∷ ts) = ap (item (json t)) (items_mapped ts)

members_mapped : (ms : List (List ℕ × Tree)) → members_of (map (λ (m : List ℕ × Tree). (m.0, json m.1)) ms) ≡ members_json ms
members_mapped [] = refl
members_mapped (m ∷ ms) = ap (member m.0 (json m.1)) (members_mapped ms)

pub json_list : (ts : List Tree) → json (tree.List ts) ≡ list (items_json ts)
unfolding json
json_list ts = ap json (sym (tree.rolls-List ts)) ∙ (fold-roll-Tree Json one_level (Tree-F.List ts) ∙ ap list (items_mapped ts))

pub json_object : (ms : List (List ℕ × Tree)) → json (tree.Object ms) ≡ object (members_json ms)
unfolding json
json_object ms = ap json (sym (tree.rolls-Object ms)) ∙ (fold-roll-Tree Json one_level (Tree-F.Object ms) ∙ ap object (members_mapped ms))

-- for code that matches on a tree
pub ruleset json_levels = (json_null, json_flag, json_whole, json_float, json_word, json_list, json_object)
