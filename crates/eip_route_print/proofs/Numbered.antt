-- Numbered blocks lead back to the steps as they nested.
use Rattle.std.proofs.Common.{ℕ, List, [], ◌∷◌, ◌++◌, ◌+◌, ◌≡◌, Option, Some, None, length, refl, ap, sym, subst, ◌∙◌, true, false, arith, eqb, append_assoc, append-nil, length-append}
use Rattle.std.proofs.lemmas.Bool.{eq-eqb, ne_eqb}
use Rattle.eip_route_print.specs.Formed.{AreFormed, StepFormed, GroupsFormed, LastFormed, ClausesFormed, RoutesFormed, SetFormed}
use Rattle.eip_route.proofs.Filled.{held_filled, many_numbers}
use Rattle.eip_route.specs.Nest.{Frame, HasGroups, NestedStep, NestedSteps, NestedGroups, NestedLast, NestedClause, NestedRoute, NestedSet, leaf, holds, none, more, no_group, group, no_last, last, fill, headed, number_of, flat_steps, flat_step, flat_groups, flat_last, flat_block, flat_clauses, flat_routes, flat_set, un_groups, un_held, un_last, un_step, un_steps, un_block, un_clauses, un_routes, un_set}
use Rattle.eip_route.specs.declared.route.Block.{Block}
use Rattle.eip_route.specs.declared.route.Names.{Names}

-- ---- where blocks stand

-- the blocks bs stand among all from number k on, where all are numbered from m
record At (m : ℕ) (all : List Block) (k : ℕ) (bs : List Block) : Type 0 where
  front : List Block
  back : List Block
  cut : all ≡ front ++ (bs ++ back)
  place : k ≡ m + length front

left : {m : ℕ} {all : List Block} {k : ℕ} (xs ys : List Block) → At m all k (xs ++ ys) → At m all k xs
left xs ys a = record { front = a.front; back = ys ++ a.back; cut = a.cut ∙ ap (λ bs. a.front ++ bs) (append_assoc xs ys a.back); place = a.place }

right : {m : ℕ} {all : List Block} {k : ℕ} (xs ys : List Block) → At m all k (xs ++ ys) → At m all (k + length xs) ys
right xs ys a = record {
  front = a.front ++ xs;
  back = a.back;
  cut = a.cut ∙ (ap (λ bs. a.front ++ bs) (append_assoc xs ys a.back) ∙ sym (append_assoc a.front xs (ys ++ a.back)));
  place = omega (arith, a.place, length-append a.front xs);
}

found : (front : List Block) (m j : ℕ) (b : Block) (bs : List Block) → j ≡ m + length front → un_block m (front ++ b ∷ bs) j ≡ un_steps (λ i. un_block (j + 1) bs i) b.steps
unfolding un_block
found [] m j b bs e =
    let same : j ≡ m = omega arith in
    rw (eq-eqb j m same, same) refl
found (c ∷ front) m j b bs e =
    let apart : eqb j m ≡ false = ne_eqb j m (λ (q : j ≡ m). omega arith) in
    rw apart (found front (m + 1) j b bs (omega arith))

-- a block whose steps lead back to ss
at_block : (m : ℕ) (all : List Block) (k : ℕ) (ss : NestedSteps) (a : At m all k (headed (flat_steps (k + 1) ss))) →
    (At (k + 1) ((flat_steps (k + 1) ss).blocks ++ a.back) (k + 1) (flat_steps (k + 1) ss).blocks →
    un_steps (λ i. un_block (k + 1) ((flat_steps (k + 1) ss).blocks ++ a.back) i) (flat_steps (k + 1) ss).steps ≡ ss) →
    un_block m all k ≡ ss
at_block m all k ss a inner =
    ap (λ bs. un_block m bs k) a.cut ∙ (found a.front m k _ _ a.place ∙ inner (record { front = []; back = a.back; cut = refl; place = omega arith }))

-- ---- steps

mutual
  back_steps : (m : ℕ) (all : List Block) (k : ℕ) (ss : NestedSteps) → AreFormed ss → At m all k (flat_steps k ss).blocks → un_steps (λ i. un_block m all i) (flat_steps k ss).steps ≡ ss
  back_steps m all k none h a = refl
  back_steps m all k (more s ss) h a =
      ap (λ x. more x (un_steps (λ i. un_block m all i) (flat_steps (k + length (flat_step k s).blocks) ss).steps)) (back_step m all k s h.0 (left (flat_step k s).blocks (flat_steps (k + length (flat_step k s).blocks) ss).blocks a)) ∙
      ap (more s) (back_steps m all (k + length (flat_step k s).blocks) ss h.1 (right (flat_step k s).blocks (flat_steps (k + length (flat_step k s).blocks) ss).blocks a))

  back_step : (m : ℕ) (all : List Block) (k : ℕ) (s : NestedStep) → StepFormed s → At m all k (flat_step k s).blocks → un_step (λ i. un_block m all i) (flat_step k s).step ≡ s
  back_step m all k (leaf s) h a = ap (un_held (λ i. un_block m all i) s) h
  back_step m all k (holds f gs) h a =
      let ns = (flat_groups k gs).numbers in
      let counted : HasGroups f (length ns) = subst (HasGroups f) (sym (many_numbers k gs)) h.0 in
      ap (un_held (λ i. un_block m all i) (fill f ns)) (held_filled f ns counted h.1.0) ∙ ap (holds f) (back_groups m all k gs h.1.1 a)

  back_groups : (m : ℕ) (all : List Block) (k : ℕ) (gs : NestedGroups) → GroupsFormed gs → At m all k (flat_groups k gs).blocks → un_groups (λ i. un_block m all i) (flat_groups k gs).numbers ≡ gs
  back_groups m all k no_group h a = refl
  back_groups m all k (group ss gs) h a =
      let first = headed (flat_steps (k + 1) ss) in
      let others = flat_groups (k + length first) gs in
      let l = left first others.blocks a in
      ap (λ x. group x (un_groups (λ i. un_block m all i) others.numbers)) (at_block m all k ss l (back_steps (k + 1) ((flat_steps (k + 1) ss).blocks ++ l.back) (k + 1) ss h.0)) ∙
      ap (group ss) (back_groups m all (k + length first) gs h.1 (right first others.blocks a))

back_last : (m : ℕ) (all : List Block) (k : ℕ) (l : NestedLast) → LastFormed l → At m all k (flat_last k l) → un_last (λ i. un_block m all i) (number_of k (flat_last k l)) ≡ l
back_last m all k no_last h a = refl
back_last m all k (last ss) h a = ap last (at_block m all k ss a (back_steps (k + 1) ((flat_steps (k + 1) ss).blocks ++ a.back) (k + 1) ss h))

-- ---- the set

back_clauses : (all : List Block) (k : ℕ) (cs : List NestedClause) → ClausesFormed cs → At 0 all k (flat_clauses k cs).blocks → un_clauses all (flat_clauses k cs).clauses ≡ cs
back_clauses all k [] h a = refl
back_clauses all k (c ∷ cs) h a =
    let first = flat_last k c.steps in
    let others = flat_clauses (k + length first) cs in
    ap (λ x. record c { steps = x } ∷ un_clauses all others.clauses) (back_last 0 all k c.steps h.0 (left first others.blocks a)) ∙
    ap (λ x. c ∷ x) (back_clauses all (k + length first) cs h.1 (right first others.blocks a))

back_routes : (all : List Block) (k : ℕ) (rs : List NestedRoute) → RoutesFormed rs → At 0 all k (flat_routes k rs).blocks → un_routes all (flat_routes k rs).routes ≡ rs
back_routes all k [] h a = refl
back_routes all k (r ∷ rs) h a =
    let first = flat_block k r.steps in
    let others = flat_routes (k + length first) rs in
    let l = left first others.blocks a in
    ap (λ x. record r { steps = x } ∷ un_routes all others.routes) (at_block 0 all k r.steps l (back_steps (k + 1) ((flat_steps (k + 1) r.steps).blocks ++ l.back) (k + 1) r.steps h.0)) ∙
    ap (λ x. r ∷ x) (back_routes all (k + length first) rs h.1 (right first others.blocks a))

pub back_set : (names : Names) (s : NestedSet) → SetFormed s → un_set (flat_set names s) ≡ s
back_set names s h =
    let cs = flat_clauses 0 s.clauses in
    let rs = flat_routes (length cs.blocks) s.routes in
    let all = cs.blocks ++ rs.blocks in
    let whole : At 0 all 0 all = record { front = []; back = []; cut = sym (append-nil all); place = refl } in
    let behind : At 0 all (length cs.blocks) rs.blocks = record { front = cs.blocks; back = []; cut = ap (λ bs. cs.blocks ++ bs) (sym (append-nil rs.blocks)); place = omega arith } in
    ap (λ x. record s { clauses = x; routes = un_routes all rs.routes }) (back_clauses all 0 s.clauses h.0 (left cs.blocks rs.blocks whole)) ∙
    ap (λ x. record s { routes = x }) (back_routes all (length cs.blocks) s.routes h.1 behind)
