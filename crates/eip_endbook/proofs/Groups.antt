-- The open groups of a run, shown and printed one by one.
use Rattle.std.proofs.Common.{◌≡◌, ℕ, zero, suc, ◌+◌, ◌<◌, ◌≤◌, Bool, true, false, cond, List, [], ◌∷◌, ◌++◌, length, take_all, filter, Option, Some, None, refl, sym, ap, ◌∙◌, arith, inl, inr}
use Rattle.std.specs.Prelude.{option_map}
use Rattle.std.specs.List.{slice_get, flat_map}
use Rattle.std.proofs.lemmas.Bool.{cases_lt}
use Rattle.std.proofs.lemmas.Option.{slice_get_within}
use Rattle.eip_aggregator.specs.declared.closed.OpenGroup.{OpenGroup}
use Rattle.eip_history.specs.Plan.{Plan}
use Rattle.eip_history.specs.Own.{Past}
use Rattle.eip_history.specs.Groups.{Group, is_open}
use Rattle.eip_history.specs.Births.{groups}
use Rattle.eip_history.specs.Stop.{open_groups}
use Rattle.eip_history.specs.BookText.{group_line_of, line_of_group, groups_text}
use Rattle.eip_history.proofs.GroupNumbers.{GroupsFrom, groups-numbered}
use Rattle.eip_history.proofs.Lists.{slice_get-some}
use Rattle.eip_history.proofs.TextSteps.{groups-more}
use Rattle.eip_tables.specs.Groups.{Shown, seen_group, shown_group}

-- the k-th of those that pass a test has at least its place's number
passed-numbered : (p : Group → Bool) (n : ℕ) (gs : List Group) (k : ℕ) (g : Group) → GroupsFrom n gs → slice_get (filter p gs) k ≡ Some g → n + k ≤ g.number
passed-numbered p n [] k g ns h = absurd (cc h)
passed-numbered p n (h' ∷ gs) k g ns h = by_test (p h') h (λ j e. passed-numbered p (n + 1) gs j g ns.1 e)
  where
    by_place : (k : ℕ) → slice_get (h' ∷ filter p gs) k ≡ Some g → ((j : ℕ) → slice_get (filter p gs) j ≡ Some g → n + 1 + j ≤ g.number) → n + k ≤ g.number
    by_place zero e later = let same : h' ≡ g = cc e in let m = ap (λ (x : Group). x.number) same in omega (arith, m, ns.0)
    by_place (suc j) e later = let m = later j e in omega (arith, m)

    by_test : (v : Bool) → slice_get (cond v (h' ∷ filter p gs) (filter p gs)) k ≡ Some g → ((j : ℕ) → slice_get (filter p gs) j ≡ Some g → n + 1 + j ≤ g.number) → n + k ≤ g.number
    by_test true e later = by_place k e later
    by_test false e later = let m = later k e in omega (arith, m)

-- the group that is shown
pub record IsShown (s : Plan) (past : Past) (k : ℕ) (g : OpenGroup) : Type 0 where
  pub group : Group
  pub at : slice_get (open_groups s past) k ≡ Some group
  pub line : group_line_of g.number g.size g.key.now ≡ line_of_group group
  pub number : k < g.number

pub shown : (s : Plan) (past : Past) (k : ℕ) (g : OpenGroup) → Some (seen_group g) ≡ option_map shown_group (slice_get (open_groups s past) k) → IsShown s past k g
shown s past k g h = by_group (slice_get (open_groups s past) k) refl h
  where
    by_group : (o : Option Group) → slice_get (open_groups s past) k ≡ o → Some (seen_group g) ≡ option_map shown_group o → IsShown s past k g
    by_group None at e = absurd (cc e)
    by_group (Some x) at e =
        let same : seen_group g ≡ shown_group x = cc e in
        let number : g.number ≡ x.number = ap (λ (r : Shown). r.number) same in
        let size : g.size ≡ length x.parts = ap (λ (r : Shown). r.size) same in
        let key : g.key.now ≡ x.key = ap (λ (r : Shown). r.key) same in
        let least = passed-numbered is_open 1 (groups s past) k x (groups-numbered s past) at in
        record { group = x; at = at; line = rw (number, size, key) refl; number = omega (arith, least, number) }

-- one more group, one more line
pub shown-more : (s : Plan) (past : Past) (k : ℕ) (g : OpenGroup) (i : IsShown s past k g) → groups_text s past (k + 1) ≡ groups_text s past k ++ group_line_of g.number g.size g.key.now
shown-more s past k g i = groups-more s past k i.group i.at ∙ ap (λ t. groups_text s past k ++ t) (sym i.line)

pub shown-within : (s : Plan) (past : Past) (k : ℕ) (g : OpenGroup) → IsShown s past k g → k < length (open_groups s past)
shown-within s past k g i = slice_get_within (open_groups s past) k i.group i.at

-- behind the last of them all have their lines
pub shown-last : (s : Plan) (past : Past) (k : ℕ) → None ≡ option_map shown_group (slice_get (open_groups s past) k)
    → groups_text s past k ≡ groups_text s past (length (open_groups s past))
unfolding groups_text
shown-last s past k h =
    let all : length (open_groups s past) ≤ k = elim (cases_lt k (length (open_groups s past))) [
      | inl l ↦ (let g = slice_get-some (open_groups s past) k l in absurd (let e = rw g.1 at h in cc e))
      | inr l ↦ l
    ] in
    ap (flat_map line_of_group) (take_all k (open_groups s past) all ∙ sym (take_all (length (open_groups s past)) (open_groups s past) (omega arith)))
