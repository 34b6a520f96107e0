-- What building takes of the items of a list, one behind the other, and of what a tree holds.
use Rattle.std.proofs.Common.{◌≡◌, ℕ, ◌+◌, ◌<◌, true, List, [], ◌∷◌, ◌++◌, length, get_or, drop, Option, Some, refl, sym, ap, ◌∙◌, subst}
use Rattle.std.proofs.lemmas.List.{at_drop_more}
use Rattle.eip_text.proofs.Levels.{json_object, json_list}
use Rattle.eip_text.specs.Json.{Json, list, object, Items, item, json, items_json, members_json}
use Rattle.eip_text.specs.declared.tree.Tree.{Tree}
use Rattle.eip_text.specs.declared.tree.Tree.TheVariants as tree
use Rattle.eip_route_grammar.specs.declared.keys.Key.{Key}
use Rattle.eip_route_values.proofs.Taking.{spent_append, holds_first, holds_behind}
use Rattle.eip_route_values.specs.Taken.{spent, holds, in_list, in_steps, in_step, in_only, in_value, in_own, in_inner, in_each_list, in_each, in_step_of}

-- ---- items

module _ (one : Json → List (List ℕ)) (all : Items → List (List ℕ)) (cons : (t : Json) (ts : Items) → all (item t ts) ≡ one t ++ all ts) where
  opened : (ts : List Tree) (i : ℕ) (x : Tree) → x ≡ get_or ts i x → i < length ts → all (items_json (drop i ts)) ≡ one (json x) ++ all (items_json (drop (i + 1) ts))
  opened ts i x same l =
      let rest = items_json (drop (i + 1) ts) in
      at_drop_more (λ y. all (items_json y)) ts i x l
      ∙ (cons (json (get_or ts i x)) rest ∙ ap (λ (y : Tree). one (json y) ++ all rest) (sym same))

  -- what is known behind one more item
  pub item_left : (ts : List Tree) (i : ℕ) (x : Tree) (whole now after : List ℕ → ℕ) → x ≡ get_or ts i x → i < length ts → whole ≡ spent (all (items_json (drop i ts))) now
      → after ≡ spent (one (json x)) now → whole ≡ spent (all (items_json (drop (i + 1) ts))) after
  item_left ts i x whole now after same l e p =
      let rest = all (items_json (drop (i + 1) ts)) in
      e ∙ (ap (λ (xs : List (List ℕ)). spent xs now) (opened ts i x same l) ∙ (spent_append (one (json x)) rest now ∙ ap (spent rest) (sym p)))

  -- what one item takes is held, and behind it what the others take
  pub item_held : (ts : List Tree) (i : ℕ) (x : Tree) (now : List ℕ → ℕ) → x ≡ get_or ts i x → i < length ts → holds (all (items_json (drop i ts))) now ≡ true → holds (one (json x)) now ≡ true
  item_held ts i x now same l h =
      holds_first (one (json x)) (all (items_json (drop (i + 1) ts))) now (sym (ap (λ (xs : List (List ℕ)). holds xs now) (opened ts i x same l)) ∙ h)

  pub items_held : (ts : List Tree) (i : ℕ) (x : Tree) (now after : List ℕ → ℕ) → x ≡ get_or ts i x → i < length ts → holds (all (items_json (drop i ts))) now ≡ true
      → after ≡ spent (one (json x)) now → holds (all (items_json (drop (i + 1) ts))) after ≡ true
  items_held ts i x now after same l h p =
      let rest = all (items_json (drop (i + 1) ts)) in
      subst (λ (s : List ℕ → ℕ). holds rest s ≡ true) (sym p)
      (holds_behind (one (json x)) rest now (sym (ap (λ (xs : List (List ℕ)). holds xs now) (opened ts i x same l)) ∙ h))

pub step_left : (ts : List Tree) (i : ℕ) (x : Tree) (whole now after : List ℕ → ℕ) → x ≡ get_or ts i x → i < length ts → whole ≡ spent (in_steps (items_json (drop i ts))) now
    → after ≡ spent (in_step (json x)) now → whole ≡ spent (in_steps (items_json (drop (i + 1) ts))) after
step_left = item_left in_step in_steps (λ t ts. refl)

pub step_held : (ts : List Tree) (i : ℕ) (x : Tree) (now : List ℕ → ℕ) → x ≡ get_or ts i x → i < length ts → holds (in_steps (items_json (drop i ts))) now ≡ true → holds (in_step (json x)) now ≡ true
step_held = item_held in_step in_steps (λ t ts. refl)

pub steps_held : (ts : List Tree) (i : ℕ) (x : Tree) (now after : List ℕ → ℕ) → x ≡ get_or ts i x → i < length ts → holds (in_steps (items_json (drop i ts))) now ≡ true
    → after ≡ spent (in_step (json x)) now → holds (in_steps (items_json (drop (i + 1) ts))) after ≡ true
steps_held = items_held in_step in_steps (λ t ts. refl)

pub inner_left : (ts : List Tree) (i : ℕ) (x : Tree) (whole now after : List ℕ → ℕ) → x ≡ get_or ts i x → i < length ts → whole ≡ spent (in_each (items_json (drop i ts))) now
    → after ≡ spent (in_inner (json x)) now → whole ≡ spent (in_each (items_json (drop (i + 1) ts))) after
inner_left = item_left in_inner in_each (λ t ts. refl)

pub inner_held : (ts : List Tree) (i : ℕ) (x : Tree) (now : List ℕ → ℕ) → x ≡ get_or ts i x → i < length ts → holds (in_each (items_json (drop i ts))) now ≡ true → holds (in_inner (json x)) now ≡ true
inner_held = item_held in_inner in_each (λ t ts. refl)

pub inners_held : (ts : List Tree) (i : ℕ) (x : Tree) (now after : List ℕ → ℕ) → x ≡ get_or ts i x → i < length ts → holds (in_each (items_json (drop i ts))) now ≡ true
    → after ≡ spent (in_inner (json x)) now → holds (in_each (items_json (drop (i + 1) ts))) after ≡ true
inners_held = items_held in_inner in_each (λ t ts. refl)

-- ---- what a tree holds

under_list : (f : Json → List (List ℕ)) (t : Tree) (xs ys : List Tree) (s : List ℕ → ℕ) → t ≡ tree.List ys → xs ≡ ys → holds (f (json t)) s ≡ true → holds (f (list (items_json xs))) s ≡ true
under_list f t xs ys s e p h =
    subst (λ (j : Json). holds (f j) s ≡ true) (ap json e ∙ (json_list ys ∙ ap (λ (zs : List Tree). list (items_json zs)) (sym p))) h

under_object : (f : Json → List (List ℕ)) (t : Tree) (xs ys : List (List ℕ × Tree)) (s : List ℕ → ℕ) → t ≡ tree.Object ys → xs ≡ ys → holds (f (json t)) s ≡ true → holds (f (object (members_json xs))) s ≡ true
under_object f t xs ys s e p h =
    subst (λ (j : Json). holds (f j) s ≡ true) (ap json e ∙ (json_object ys ∙ ap (λ (zs : List (List ℕ × Tree)). object (members_json zs)) (sym p))) h

pub list_held : (t : Tree) (xs ys : List Tree) (s : List ℕ → ℕ) → t ≡ tree.List ys → xs ≡ ys → holds (in_list (json t)) s ≡ true → holds (in_steps (items_json xs)) s ≡ true
list_held = under_list in_list

pub each_list_held : (t : Tree) (xs ys : List Tree) (s : List ℕ → ℕ) → t ≡ tree.List ys → xs ≡ ys → holds (in_each_list (json t)) s ≡ true → holds (in_each (items_json xs)) s ≡ true
each_list_held = under_list in_each_list

pub own_held : (t : Tree) (xs ys : List (List ℕ × Tree)) (s : List ℕ → ℕ) → t ≡ tree.Object ys → xs ≡ ys → holds (in_inner (json t)) s ≡ true → holds (in_own (members_json xs)) s ≡ true
own_held = under_object in_inner

pub only_held : (t : Tree) (xs ys : List (List ℕ × Tree)) (s : List ℕ → ℕ) → t ≡ tree.Object ys → xs ≡ ys → holds (in_step (json t)) s ≡ true → holds (in_only (members_json xs)) s ≡ true
only_held = under_object in_step

pub value_held : (o : Option Key) (k : Key) (t : Tree) (xs ys : List (List ℕ × Tree)) (s : List ℕ → ℕ) → o ≡ Some k → t ≡ tree.Object ys → xs ≡ ys → holds (in_value o (json t)) s ≡ true
    → holds (in_step_of k (members_json xs)) s ≡ true
value_held o k t xs ys s some e p h = under_object (in_value (Some k)) t xs ys s e p (subst (λ (v : Option Key). holds (in_value v (json t)) s ≡ true) some h)
