-- The members of a tree as JSON data.
use Rattle.std.proofs.Common.{ℕ, List, [], ◌∷◌, ◌++◌, ◌≡◌, refl, ap, ◌∙◌, ◌==◌, length, rules}
use Rattle.eip_text.specs.Json.{Json, list, object, item, member, json, items_json, members_json, items_of, members_of}
use Rattle.eip_text.specs.declared.tree.Tree.{Tree}
use Rattle.eip_text.specs.declared.tree.Tree.TheVariants as tree
use Rattle.eip_text.proofs.Levels.{json_list, json_object, json_flag, json_whole, json_word}
use Rattle.eip_route_canonical.specs.Canonical.{is_none, behind}
use Rattle.eip_route_canonical.specs.Trees.{pairs_of, values_of, groups_of}

pub members_same : (ms : List (List ℕ × Tree)) → members_json ms ≡ members_of (pairs_of ms)
members_same [] = refl
members_same (m ∷ ms) = ap (member m.0 (json m.1)) (members_same ms)

items_same : (ts : List Tree) → items_json ts ≡ items_of (values_of ts)
items_same [] = refl
items_same (t ∷ ts) = ap (item (json t)) (items_same ts)

pub object_tree : (ms : List (List ℕ × Tree)) → json (tree.Object ms) ≡ object (members_of (pairs_of ms))
object_tree ms = json_object ms ∙ ap object (members_same ms)

pub list_tree : (ts : List Tree) → json (tree.List ts) ≡ list (items_of (values_of ts))
list_tree ts = json_list ts ∙ ap list (items_same ts)

pub pairs_push : (ms ns : List (List ℕ × Tree)) → pairs_of (ms ++ ns) ≡ pairs_of ms ++ pairs_of ns
pairs_push [] ns = refl
pairs_push (m ∷ ms) ns = ap (λ ps. (m.0, json m.1) ∷ ps) (pairs_push ms ns)

pub values_push : (ts us : List Tree) → values_of (ts ++ us) ≡ values_of ts ++ values_of us
values_push [] us = refl
values_push (t ∷ ts) us = ap (λ js. json t ∷ js) (values_push ts us)

pub groups_push : (gs hs : List (List Tree)) → groups_of (gs ++ hs) ≡ groups_of gs ++ groups_of hs
groups_push [] hs = refl
groups_push (ts ∷ gs) hs = ap (λ gs. values_of ts ∷ gs) (groups_push gs hs)

pub one_more : (ts : List Tree) (t : Tree) (js : List Json) → values_of (ts ++ t ∷ []) ++ js ≡ values_of ts ++ (json t ∷ js)
one_more [] t js = refl
one_more (u ∷ ts) t js = ap (λ ks. json u ∷ ks) (one_more ts t js)

pub none_made : (ms : List (List ℕ × Tree)) (n : ℕ) → n ≡ length ms → (n == 0) ≡ is_none (pairs_of ms)
none_made [] n e = rw e refl
none_made (m ∷ ms) n e = rw e (search rules)

-- the members of pairs that stand behind others
pub members_behind : (ps qs : List (List ℕ × Json)) → members_of (ps ++ qs) ≡ behind (members_of ps) (members_of qs)
members_behind [] qs = refl
members_behind (p ∷ ps) qs = ap (member p.0 p.1) (members_behind ps qs)

pub ruleset trees = (object_tree, list_tree, pairs_push, values_push, groups_push, one_more, json_flag, json_whole, json_word)
