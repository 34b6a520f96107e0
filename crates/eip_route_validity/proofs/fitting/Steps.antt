-- Steps with which nothing is wrong fit, as they nest.
use Rattle.std.proofs.Common.{ℕ, ◌≡◌, ◌+◌, ◌<◌, Bool, true, false, cond, ◌&&◌, List, [], Option, Some, None, is_some, refl, sym, subst, leb-false}
use Rattle.std.specs.Prelude.{nat_le}
use Rattle.std.proofs.lemmas.Bool.{cond_both, true≢false}
use Rattle.eip_text.specs.Json.{Json, null, flag, whole, float, word, list, object, Items, no_items, item, Members, no_members, member}
use Rattle.eip_route.specs.declared.route.Names.{Names}
use Rattle.eip_route.specs.Nest.{no_group, group}
use Rattle.eip_route_grammar.specs.Keys.{is_spelled}
use Rattle.eip_route_grammar.specs.Table.{rows, key_in, kind_in, rule_of, list_of, shape_of, listing}
use Rattle.eip_route_grammar.specs.Objects.{own_keys, keys_of, value_at, value_kind_in, parameters_of}
use Rattle.eip_route_faults.specs.Sites.{own_list, item_kind, deeper, has_none, items_sites, members_sites, first_fault}
use Rattle.eip_route_grammar.specs.declared.fault.Cause.{Cause}
use Rattle.eip_route_grammar.specs.declared.fault.Cause.TheVariants as cause
use Rattle.eip_route_grammar.specs.declared.keys.Key.{Key}
use Rattle.eip_route_grammar.specs.declared.keys.Key.TheVariants as key
use Rattle.eip_route_grammar.specs.declared.table.Kind.{Kind}
use Rattle.eip_route_grammar.specs.declared.table.Kind.TheVariants as kind
use Rattle.eip_route_grammar.specs.declared.table.Listed.{Listed}
use Rattle.eip_route_grammar.specs.declared.table.Nests.TheVariants as nests
use Rattle.eip_route_grammar.specs.declared.table.Row.{Row}
use Rattle.eip_route_grammar.specs.declared.table.Row.TheVariants as row
use Rattle.eip_route_validity.specs.Fit.{Inside, HasGroup, AreBranches, StepsFit, StepFits, GroupsFit, BlockFits}
use Rattle.eip_route_values.specs.Nesting.{nest_list, nest_steps, nest_step, nest_only, nest_value, nest_in, nest_inner, nest_branches_in, nest_branch_list, nest_branches, nest_each_in, nest_each_list, nest_each, nest_one_in}
use Rattle.eip_route_validity.proofs.fitting.Faultless.{IsFaultless, fits, first_item, first_member, object_fits}
use Rattle.eip_route_validity.proofs.fitting.Keyed.{HasRow, row_of_key, must_be_there}
use Rattle.eip_route_validity.proofs.fitting.Values.{IsForObjects, with_object, IsForLists, with_list}
use Rattle.eip_route_validity.proofs.fitting.StepTables.{step_kind, IsStepKey}
use Rattle.eip_route_validity.proofs.fitting.StepKinds.{step_is}
use Rattle.eip_route_validity.proofs.fitting.OneStep.{IsHolder, AreHolders, step_keyed, step_value, text_step_fits, object_step_fits}

-- ---- values of other forms

abbrev IsList : Json → Type 0
IsList (list ts) = Unit {0}
IsList _ = ⊥

abbrev IsObject : Json → Type 0
IsObject (object ms) = Unit {0}
IsObject _ = ⊥

is_list : (n : Names) (d : ℕ) (ps : List (List ℕ × List ℕ)) (v : Kind) (t : Json) → IsForLists v → IsFaultless n d ps v t → IsList t
is_list n d ps v t k e = with_list IsList n d ps v t k e (λ ts o i. tt)

is_object : (n : Names) (d : ℕ) (ps : List (List ℕ × List ℕ)) (v : Kind) (t : Json) → IsForObjects v → IsFaultless n d ps v t → IsObject t
is_object n d ps v t k e = with_object IsObject n d ps v t k e (λ ms o. tt)

for_steps : IsForLists kind.Steps
unfolding rule_of shape_of
for_steps = record { no_rule = refl; closed = refl }

for_batch_steps : IsForLists kind.BatchSteps
unfolding rule_of shape_of
for_batch_steps = record { no_rule = refl; closed = refl }

for_branches : IsForLists kind.Branches
unfolding rule_of shape_of
for_branches = record { no_rule = refl; closed = refl }

is_step : (n : Names) (d : ℕ) (ps : List (List ℕ × List ℕ)) (t : Json) → IsFaultless n d ps kind.Step t → IsObject t
unfolding rule_of list_of
is_step n d ps null e = fits n d ps kind.Step null e
is_step n d ps (flag b) e = let h = fits n d ps kind.Step (flag b) e in cc
is_step n d ps (whole z) e = let h = fits n d ps kind.Step (whole z) e in cc
is_step n d ps float e = fits n d ps kind.Step float e
is_step n d ps (word w) e = fits n d ps kind.Step (word w) e
is_step n d ps (list ts) e = let h = (fits n d ps kind.Step (list ts) e).0 in cc
is_step n d ps (object ms) e = tt

-- ---- a member whose key is sought

-- its value, where the key is spelled so
found_value : (n : Names) (d : ℕ) (ps : List (List ℕ × List ℕ)) (v : Kind) (q : Key) (r : Row) (k : List ℕ) (t : Json) (ms : Members) → HasRow v r → key_in r ≡ q → is_spelled q k ≡ true
    → first_fault (members_sites n d ps v (member k t ms)) ≡ None → IsFaultless n d ps (kind_in r) t
found_value n d ps v q r k t ms h same b e =
    subst (λ (o : Option Row). IsFaultless n d ps (value_kind_in o) t) (row_of_key v (key_in r) (Some r) k h (subst (λ (x : Key). is_spelled x k ≡ true) (sym same) b)) (first_member n d ps v k t ms e).0

-- it stands behind, where it isn't
still_there : (b : Bool) (t : Json) (o : Option Json) → b ≡ false → is_some (cond b (Some t) o) ≡ true → is_some o ≡ true
still_there true t o e h = absurd (true≢false e)
still_there false t o e h = h

-- ---- lists

neither : (b c : Bool) (x y : Cause) → cond b (Some x) (cond c (Some y) None) ≡ None → (b ≡ false) × (c ≡ false)
neither true c x y e = absurd cc
neither false true x y e = absurd cc
neither false false x y e = (refl, refl)

not_deep : (d : ℕ) (filled b : Bool) → own_list d (listing kind.Step nests.Block filled) b ≡ None → d < 16
not_deep d filled b e = leb-false 16 d (neither (filled && b) (nat_le 16 d) _ _ e).1

batch_not_deep : (d : ℕ) (b : Bool) → own_list d (listing kind.Step nests.Batch false) b ≡ None → d < 15
batch_not_deep d b e = leb-false 15 d (neither false (nat_le 15 d) cause.BadValue cause.TooNested e).1

has_branches : (d : ℕ) (ts : Items) → own_list d (listing kind.Step nests.Block true) (has_none ts) ≡ None → HasGroup (nest_branches ts)
has_branches d no_items e = absurd cc
has_branches d (item t ts) e = tt

are_branches : (ts : Items) → AreBranches (nest_branches ts)
are_branches no_items = tt
are_branches (item t ts) = are_branches ts

-- ---- nested

mutual
  unfolding rule_of list_of shape_of

  pub list_fits : (n : Names) (d : ℕ) (ps : List (List ℕ × List ℕ)) (t : Json) → IsFaultless n d ps kind.Steps t → Inside d (StepsFit n (d + 1) (nest_list t))
  list_fits n d ps (list ts) e = let h = fits n d ps kind.Steps (list ts) e in (not_deep d false (has_none ts) h.0, steps_fit_in n (d + 1) 0 ts h.1)
  list_fits n d ps t e = absurd (is_list n d ps kind.Steps t for_steps e)

  steps_fit_in : (n : Names) (d k : ℕ) (ts : Items) → first_fault (items_sites n d kind.Step k ts) ≡ None → StepsFit n d (nest_steps ts)
  steps_fit_in n d k no_items e = tt
  steps_fit_in n d k (item t ts) e = let h = first_item n d kind.Step k t ts e in (step_fits n d [] t h.0, steps_fit_in n d (k + 1) ts h.1)

  pub step_fits : (n : Names) (d : ℕ) (ps : List (List ℕ × List ℕ)) (t : Json) → IsFaultless n d ps kind.Step t → StepFits n d (nest_step t)
  step_fits n d ps (object ms) e = let h = fits n d ps kind.Step (object ms) e in only_fits n d ms h.0 h.1.0
  step_fits n d ps t e = absurd (is_step n d ps t e)

  only_fits : (n : Names) (d : ℕ) (ms : Members) → own_keys (shape_of kind.Step) (rows kind.Step) (keys_of ms) ≡ None → first_fault (members_sites n d (parameters_of ms) kind.Step ms) ≡ None → StepFits n d (nest_only ms)
  only_fits n d no_members o e = absurd cc
  only_fits n d (member k t no_members) o e =
      let s = step_is n d k t (cause.UnknownStep k) o e in
      subst (λ (x : Option Key). StepFits n d (nest_value x t)) (sym s.is) (value_fits n d (parameters_of (member k t no_members)) s.step t s.known s.alone s.faultless)
  only_fits n d (member k t (member l u ms)) o e = absurd cc

  value_fits : (n : Names) (d : ℕ) (ps : List (List ℕ × List ℕ)) (k : Key) (t : Json) → IsStepKey k → ps ≡ [] → IsFaultless n d ps (step_kind k) t → StepFits n d (nest_value (Some k) t)
  value_fits n d ps k (word w) known alone e = text_step_fits n d ps k w alone known (fits n d ps (step_kind k) (word w) e)
  value_fits n d ps k (object ms) known alone e =
      let o = object_fits n d ps (step_kind k) ms (step_keyed k known) e in
      object_step_fits n d k ms known o (record {
        steps = λ r. in_fits n d ms (parameters_of ms) (step_kind k) r (must_be_there (step_kind k) key.Steps kind.Steps ms r o.keys) o.members;
        batch = λ r. batch_in_fits n d ms (parameters_of ms) (step_kind k) r (must_be_there (step_kind k) key.Steps kind.BatchSteps ms r o.keys) o.members;
        branches = λ r. branches_in_fit n d ms (parameters_of ms) (step_kind k) r (must_be_there (step_kind k) key.Steps kind.Branches ms r o.keys) o.members;
        each = λ r u h a. each_in_fits n d ms (parameters_of ms) (step_kind k) r u h a o.members;
        one = λ q u r a. one_in_fits n d ms (parameters_of ms) (step_kind k) q u r a o.members;
      })
  value_fits n d ps k t known alone e = absurd (step_value n d ps k t known e)

  in_fits : (n : Names) (d : ℕ) (ms : Members) (ps : List (List ℕ × List ℕ)) (v : Kind) → HasRow v (row.Must key.Steps kind.Steps) → is_some (value_at key.Steps ms) ≡ true
      → first_fault (members_sites n d ps v ms) ≡ None → Inside d (StepsFit n (d + 1) (nest_in ms))
  in_fits n d no_members ps v r there e = absurd (true≢false (sym there))
  in_fits n d (member name t ms) ps v r there e =
      cond_both (is_spelled key.Steps name) (nest_list t) (nest_in ms) (λ ss. Inside d (StepsFit n (d + 1) ss))
      (λ b. list_fits n d ps t (found_value n d ps v key.Steps (row.Must key.Steps kind.Steps) name t ms r refl b e))
      (λ b. in_fits n d ms ps v r (still_there (is_spelled key.Steps name) t (value_at key.Steps ms) b there) (first_member n d ps v name t ms e).1)

  batch_in_fits : (n : Names) (d : ℕ) (ms : Members) (ps : List (List ℕ × List ℕ)) (v : Kind) → HasRow v (row.Must key.Steps kind.BatchSteps) → is_some (value_at key.Steps ms) ≡ true
      → first_fault (members_sites n d ps v ms) ≡ None → (d < 15) × StepsFit n (d + 2) (nest_in ms)
  batch_in_fits n d no_members ps v r there e = absurd (true≢false (sym there))
  batch_in_fits n d (member name t ms) ps v r there e =
      cond_both (is_spelled key.Steps name) (nest_list t) (nest_in ms) (λ ss. (d < 15) × StepsFit n (d + 2) ss)
      (λ b. batch_list_fits n d ps t (found_value n d ps v key.Steps (row.Must key.Steps kind.BatchSteps) name t ms r refl b e))
      (λ b. batch_in_fits n d ms ps v r (still_there (is_spelled key.Steps name) t (value_at key.Steps ms) b there) (first_member n d ps v name t ms e).1)

  batch_list_fits : (n : Names) (d : ℕ) (ps : List (List ℕ × List ℕ)) (t : Json) → IsFaultless n d ps kind.BatchSteps t → (d < 15) × StepsFit n (d + 2) (nest_list t)
  batch_list_fits n d ps (list ts) e = let h = fits n d ps kind.BatchSteps (list ts) e in (batch_not_deep d (has_none ts) h.0, steps_fit_in n (d + 2) 0 ts h.1)
  batch_list_fits n d ps t e = absurd (is_list n d ps kind.BatchSteps t for_batch_steps e)

  inner_fits : (n : Names) (d : ℕ) (ps : List (List ℕ × List ℕ)) (u : Kind) (t : Json) → IsHolder u → IsFaultless n d ps u t → Inside d (StepsFit n (d + 1) (nest_inner t))
  inner_fits n d ps u (object ms) h e =
      let o = object_fits n d ps u ms h.objects.keyed e in
      in_fits n d ms (parameters_of ms) u h.steps (must_be_there u key.Steps kind.Steps ms h.steps o.keys) o.members
  inner_fits n d ps u t h e = absurd (is_object n d ps u t h.objects e)

  branches_in_fit : (n : Names) (d : ℕ) (ms : Members) (ps : List (List ℕ × List ℕ)) (v : Kind) → HasRow v (row.Must key.Steps kind.Branches) → is_some (value_at key.Steps ms) ≡ true
      → first_fault (members_sites n d ps v ms) ≡ None → (HasGroup (nest_branches_in ms) × AreBranches (nest_branches_in ms)) × GroupsFit n d (nest_branches_in ms)
  branches_in_fit n d no_members ps v r there e = absurd (true≢false (sym there))
  branches_in_fit n d (member name t ms) ps v r there e =
      cond_both (is_spelled key.Steps name) (nest_branch_list t) (nest_branches_in ms) (λ gs. (HasGroup gs × AreBranches gs) × GroupsFit n d gs)
      (λ b. branch_list_fits n d ps t (found_value n d ps v key.Steps (row.Must key.Steps kind.Branches) name t ms r refl b e))
      (λ b. branches_in_fit n d ms ps v r (still_there (is_spelled key.Steps name) t (value_at key.Steps ms) b there) (first_member n d ps v name t ms e).1)

  branch_list_fits : (n : Names) (d : ℕ) (ps : List (List ℕ × List ℕ)) (t : Json) → IsFaultless n d ps kind.Branches t → (HasGroup (nest_branch_list t) × AreBranches (nest_branch_list t)) × GroupsFit n d (nest_branch_list t)
  branch_list_fits n d ps (list ts) e =
      let h = fits n d ps kind.Branches (list ts) e in
      ((has_branches d ts h.0, are_branches ts), branches_fit n d 0 ts (not_deep d true (has_none ts) h.0) h.1)
  branch_list_fits n d ps t e = absurd (is_list n d ps kind.Branches t for_branches e)

  branches_fit : (n : Names) (d k : ℕ) (ts : Items) → d < 16 → first_fault (items_sites n (d + 1) kind.Step k ts) ≡ None → GroupsFit n d (nest_branches ts)
  branches_fit n d k no_items l e = tt
  branches_fit n d k (item t ts) l e = let h = first_item n (d + 1) kind.Step k t ts e in ((l, (step_fits n (d + 1) [] t h.0, tt)), branches_fit n d (k + 1) ts l h.1)

  each_in_fits : (n : Names) (d : ℕ) (ms : Members) (ps : List (List ℕ × List ℕ)) (v : Kind) (r : Row) (u : Kind) → HasRow v r → AreHolders (kind_in r) u → first_fault (members_sites n d ps v ms) ≡ None
      → GroupsFit n d (nest_each_in (key_in r) ms)
  each_in_fits n d no_members ps v r u h a e = tt
  each_in_fits n d (member name t ms) ps v r u h a e =
      cond_both (is_spelled (key_in r) name) (nest_each_list t) (nest_each_in (key_in r) ms) (GroupsFit n d)
      (λ b. each_list_fits n d ps (kind_in r) u t a (found_value n d ps v (key_in r) r name t ms h refl b e))
      (λ b. each_in_fits n d ms ps v r u h a (first_member n d ps v name t ms e).1)

  each_list_fits : (n : Names) (d : ℕ) (ps : List (List ℕ × List ℕ)) (w u : Kind) (t : Json) → AreHolders w u → IsFaultless n d ps w t → GroupsFit n d (nest_each_list t)
  each_list_fits n d ps w u (list ts) a e =
      let h = fits n d ps w (list ts) e in
      each_fits n d 0 u ts a.holder (subst (λ (x : Option Listed). first_fault (items_sites n (deeper d x) (item_kind x) 0 ts) ≡ None) a.listed h.1)
  each_list_fits n d ps w u t a e = absurd (is_list n d ps w t a.lists e)

  each_fits : (n : Names) (d k : ℕ) (u : Kind) (ts : Items) → IsHolder u → first_fault (items_sites n d u k ts) ≡ None → GroupsFit n d (nest_each ts)
  each_fits n d k u no_items a e = tt
  each_fits n d k u (item t ts) a e = let h = first_item n d u k t ts e in (inner_fits n d [] u t a h.0, each_fits n d (k + 1) u ts a h.1)

  one_in_fits : (n : Names) (d : ℕ) (ms : Members) (ps : List (List ℕ × List ℕ)) (v : Kind) (q : Key) (u : Kind) → HasRow v (row.May q u) → IsHolder u → first_fault (members_sites n d ps v ms) ≡ None
      → GroupsFit n d (nest_one_in q ms)
  one_in_fits n d no_members ps v q u r a e = tt
  one_in_fits n d (member name t ms) ps v q u r a e =
      cond_both (is_spelled q name) (group (nest_inner t) no_group) (nest_one_in q ms) (GroupsFit n d)
      (λ b. (inner_fits n d ps u t a (found_value n d ps v q (row.May q u) name t ms r refl b e), tt))
      (λ b. one_in_fits n d ms ps v q u r a (first_member n d ps v name t ms e).1)

-- a list of steps
pub steps_fit : (n : Names) (d : ℕ) (ps : List (List ℕ × List ℕ)) (t : Json) → IsFaultless n d ps kind.Steps t → BlockFits n d (nest_list t)
steps_fit n d ps t e = list_fits n d ps t e
