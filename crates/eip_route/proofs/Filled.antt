-- The step of a frame says its frame and the numbers of its blocks again.
use Rattle.std.proofs.Common.{◌≡◌, ℕ, ◌+◌, Bool, true, false, cond, List, [], ◌∷◌, ◌++◌, Option, Some, None, length, refl, ap, sym, subst, ◌∙◌, arith, eqb}
use Rattle.std.proofs.lemmas.Bool.{eq-eqb, ne_eqb, and_parts, false≢true}
use Rattle.std.proofs.lemmas.List.Sums.{AllPass-from_list_all}
use Rattle.std.specs.List.{list_all}
use Rattle.std.specs.Prelude.{bytes_eq, decimal, is_some, ◌&&◌}
use Rattle.eip_text.specs.Names.{is_name, is_name_byte}
use Rattle.eip_route.specs.Nest.{Frame, chooses, filters, splits, multicasts, aggregates, runs_once, tries, Catching, HasGroups, IsNamed, FrameNamed, NestedGroups, no_group, group, count, of_last, rest_of, past, cases_with, last_with, checks_of, catches_with, catchings_of, own_repository, repository_of, name_given, fill, held, flat_block, flat_groups, case_numbers, catch_numbers, last_number, numbers_in, step_numbers}
use Rattle.eip_route.specs.declared.step.Check.{Check}
use Rattle.eip_route.specs.declared.step.Step.{Step}

-- ---- repositories

same_bytes : (w : List ℕ) → bytes_eq w w ≡ true
same_bytes [] = refl
same_bytes (b ∷ bs) = rw (eq-eqb b b refl, same_bytes bs) refl

hash : (b : ℕ) → is_name_byte b ≡ true → eqb b 35 ≡ false
hash b h = ne_eqb b 35 (λ (e : b ≡ 35). let f : false ≡ true = subst (λ x. is_name_byte x ≡ true) e h in absurd (false≢true f))

-- no Name begins with a `#`
not_own : (name : List ℕ) (n : ℕ) → is_name name ≡ true → bytes_eq name (own_repository n) ≡ false
unfolding own_repository is_name
not_own [] n h = refl
not_own (b ∷ bs) n h =
    let bytes : list_all is_name_byte (b ∷ bs) ≡ true = (and_parts _ _ h).1 in
    let first : is_name_byte b ≡ true = AllPass-from_list_all is_name_byte (b ∷ bs) bytes 0 0 (omega arith) in
    ap (λ t. t && bytes_eq bs (decimal n)) (hash b first)

given : (k : ℕ) (o : Option (List ℕ)) → IsNamed o → name_given k (repository_of k o) ≡ o
given k None h = ap (λ b. cond b None (Some (own_repository k))) (same_bytes (own_repository k))
given k (Some name) h = ap (λ b. cond b None (Some name)) (not_own name k h)

-- ---- choices

pub checks_again : (cs : List Check) (ns : List ℕ) → checks_of (cases_with cs ns) ≡ cs
checks_again [] ns = refl
checks_again (c ∷ cs) ns = ap (λ rest. c ∷ rest) (checks_again cs (rest_of ns))

last_again : (l : Bool) (ns : List ℕ) → is_some (last_with l ns) ≡ l
last_again true ns = refl
last_again false ns = refl

last_numbers : (l : Bool) (ns : List ℕ) → length ns ≡ of_last l → last_number (last_with l ns) ≡ ns
last_numbers true [] h = absurd (omega arith)
last_numbers true (n ∷ []) h = refl
last_numbers true (n ∷ m ∷ ns) h = absurd (omega arith)
last_numbers false [] h = refl
last_numbers false (n ∷ ns) h = absurd (omega arith)

choice_numbers : (cs : List Check) (l : Bool) (ns : List ℕ) → length ns ≡ length cs + of_last l → case_numbers (cases_with cs ns) ++ last_number (last_with l (past cs ns)) ≡ ns
choice_numbers [] l ns h = last_numbers l ns (omega arith)
choice_numbers (c ∷ cs) l [] h = absurd (omega arith)
choice_numbers (c ∷ cs) l (n ∷ ns) h = ap (λ rest. n ∷ rest) (choice_numbers cs l ns (omega arith))

-- ---- tries

same_catching : (c : Catching) (cs ds : List Catching) → cs ≡ ds → c ∷ cs ≡ c ∷ ds
same_catching c cs ds p = ap (λ rest. c ∷ rest) p

catchings_again : (cs : List Catching) (ns : List ℕ) → catchings_of (catches_with cs ns) ≡ cs
catchings_again [] ns = refl
catchings_again (c ∷ cs) ns = same_catching c (catchings_of (catches_with cs (rest_of ns))) cs (catchings_again cs (rest_of ns))

catches_numbers : (cs : List Catching) (l : Bool) (ns : List ℕ) → length ns ≡ length cs + of_last l → catch_numbers (catches_with cs ns) ++ last_number (last_with l (past cs ns)) ≡ ns
catches_numbers [] l ns h = last_numbers l ns (omega arith)
catches_numbers (c ∷ cs) l [] h = absurd (omega arith)
catches_numbers (c ∷ cs) l (n ∷ ns) h = ap (λ rest. n ∷ rest) (catches_numbers cs l ns (omega arith))

-- ---- the law

abbrev pair : Frame → List ℕ → Option (Frame × List ℕ)
pair f ns = Some (f, ns)

same_pair : (f g : Frame) (ms ns : List ℕ) → f ≡ g → ms ≡ ns → pair f ms ≡ pair g ns
same_pair f g ms ns p q = λ i. Some (p i, q i)

same_choice : (cs ds : List Check) (l m : Bool) → cs ≡ ds → l ≡ m → chooses cs l ≡ chooses ds m
same_choice cs ds l m p q = cc

same_try : (cs ds : List Catching) (l m : Bool) → cs ≡ ds → l ≡ m → tries cs l ≡ tries ds m
same_try cs ds l m p q = λ i. tries (p i) (q i)

pub held_filled : (f : Frame) (ns : List ℕ) → HasGroups f (length ns) → FrameNamed f → held (fill f ns) ≡ Some (f, ns)
held_filled (chooses cs l) ns h g =
    same_pair _ (chooses cs l) _ ns (same_choice _ cs _ l (checks_again cs ns) (last_again l (past cs ns))) (choice_numbers cs l ns h)
held_filled (multicasts fan) ns h g = refl
held_filled (tries cs l) [] h g = absurd (omega arith)
held_filled (tries cs l) (n ∷ ns) h g =
    same_pair _ (tries cs l) _ (n ∷ ns) (same_try _ cs _ l (catchings_again cs ns) (last_again l (past cs ns))) (ap (λ rest. n ∷ rest) (catches_numbers cs l ns (omega arith)))
held_filled (filters c) [] h g = absurd (omega arith)
held_filled (filters c) (n ∷ []) h g = refl
held_filled (filters c) (n ∷ m ∷ ns) h g = absurd (omega arith)
held_filled (splits how fan) [] h g = absurd (omega arith)
held_filled (splits how fan) (n ∷ []) h g = refl
held_filled (splits how fan) (n ∷ m ∷ ns) h g = absurd (omega arith)
held_filled (aggregates a) [] h g = absurd (omega arith)
held_filled (aggregates a) (n ∷ []) h g = refl
held_filled (aggregates a) (n ∷ m ∷ ns) h g = absurd (omega arith)
held_filled (runs_once e name skip eager remove) [] h g = absurd (omega arith)
held_filled (runs_once e name skip eager remove) (n ∷ []) h g = ap (λ (o : Option (List ℕ)). pair (runs_once e o skip eager remove) (n ∷ [])) (given n name g)
held_filled (runs_once e name skip eager remove) (n ∷ m ∷ ns) h g = absurd (omega arith)

-- ---- numbers

pub held_numbers : (s : Step) → step_numbers s ≡ numbers_in (held s)
unfolding step_numbers
held_numbers s = refl

-- a step without blocks has no numbers
pub leaf_numbers : (s : Step) → held s ≡ None → step_numbers s ≡ []
leaf_numbers s h = held_numbers s ∙ ap numbers_in h

pub fill_numbers : (f : Frame) (ns : List ℕ) → HasGroups f (length ns) → FrameNamed f → step_numbers (fill f ns) ≡ ns
fill_numbers f ns h g = held_numbers (fill f ns) ∙ ap numbers_in (held_filled f ns h g)

-- a number for each group
pub many_numbers : (k : ℕ) (gs : NestedGroups) → length (flat_groups k gs).numbers ≡ count gs
many_numbers k no_group = refl
many_numbers k (group ss gs) = omega (arith, many_numbers (k + length (flat_block k ss)) gs)
