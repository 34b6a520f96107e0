-- Trees, and groups of trees, that are pushed or taken one behind another.
use Rattle.std.proofs.Common.{ℕ, ◌+◌, ◌≤◌, List, [], ◌∷◌, ◌++◌, drop, length, ◌≡◌, refl, ap, ◌∙◌, sym, append_assoc, arith, codes}
use Rattle.std.proofs.Math.ListN.{drop_of_length-le}
use Rattle.std.proofs.lemmas.List.{append-nil}
use Rattle.eip_text.specs.Json.{Json, json}
use Rattle.eip_text.specs.declared.tree.Tree.{Tree}
use Rattle.eip_route.specs.Nest.{catchings_of, checks_of, past, rest_of}
use Rattle.eip_route.specs.declared.step.Catch.{Catch}
use Rattle.eip_route.specs.declared.step.Check.{Check}
use Rattle.eip_route_canonical.proofs.Objects.{one_more, values_push}
use Rattle.eip_route_canonical.specs.Canonical.{list_of, one, guarded_json, catch_json, catches_pairs, first_json, all_json, cases_json, catches_json}
use Rattle.eip_route_canonical.specs.Trees.{values_of, groups_of}

-- one more item of a list that is printed item by item
pub pushed : {A : Type 0} (S : List A → List Json) (g : A → Json) (xs : List A) (k : ℕ) (its more : List Tree) (t : Tree) (x : A) (w : List Json) →
    ((y : A) (ys : List A) → S (y ∷ ys) ≡ g y ∷ S ys) →
    values_of its ++ S (drop k xs) ≡ w → drop k xs ≡ x ∷ drop (k + 1) xs → more ≡ its ++ t ∷ [] → json t ≡ g x → values_of more ++ S (drop (k + 1) xs) ≡ w
pushed S g xs k its more t x w e i d m j =
    ap (λ ts. values_of ts ++ S (drop (k + 1) xs)) m
    ∙ (one_more its t (S (drop (k + 1) xs))
    ∙ (ap (λ v. values_of its ++ (v ∷ S (drop (k + 1) xs))) j
    ∙ (ap (λ vs. values_of its ++ vs) (sym (e x (drop (k + 1) xs)))
    ∙ (ap (λ ys. values_of its ++ S ys) (sym d) ∙ i))))

-- the list is printed
pub all_pushed : {A : Type 0} (S : List A → List Json) (xs : List A) (k : ℕ) (its : List Tree) (w : List Json) → S [] ≡ [] →
    values_of its ++ S (drop k xs) ≡ w → length xs ≤ k → values_of its ≡ w
all_pushed S xs k its w n i h =
    sym (append-nil (values_of its))
    ∙ (ap (λ vs. values_of its ++ vs) (sym n)
    ∙ (ap (λ ys. values_of its ++ S ys) (sym (drop_of_length-le xs h)) ∙ i))

-- nothing is pushed
pub none_pushed : (its : List Tree) (js : List Json) → js ≡ [] → values_of its ≡ values_of its ++ js
none_pushed its js e = sym (ap (λ vs. values_of its ++ vs) e ∙ append-nil (values_of its))

-- ---- groups

-- the steps of one more group
pub group_taken : (its more ts : List Tree) (gs hs : List (List Tree)) (w : List Json) → values_of its ++ all_json (groups_of gs) ≡ w → gs ≡ ts ∷ hs → more ≡ its ++ ts → values_of more ++ all_json (groups_of hs) ≡ w
group_taken its more ts gs hs w i e m =
    ap (λ us. values_of us ++ all_json (groups_of hs)) m
    ∙ (ap (λ js. js ++ all_json (groups_of hs)) (values_push its ts)
    ∙ (append_assoc (values_of its) (values_of ts) (all_json (groups_of hs))
    ∙ (ap (λ us. values_of its ++ all_json (groups_of us)) (sym e) ∙ i)))

-- no group is left
pub none_taken : (its : List Tree) (gs : List (List Tree)) (w : List Json) → values_of its ++ all_json (groups_of gs) ≡ w → length gs ≡ 0 → values_of its ≡ w
none_taken its [] w i h = sym (append-nil (values_of its)) ∙ i
none_taken its (ts ∷ gs) w i h = absurd (omega arith)

-- no case is left
pub all_cases : (cs : List (Check × ℕ)) (k : ℕ) (its : List Tree) (gs : List (List Json)) (w : List Json) → values_of its ++ cases_json (checks_of (drop k cs)) gs ≡ w → length cs ≤ k → values_of its ≡ w
all_cases cs k its gs w i h =
    sym (append-nil (values_of its)) ∙ (ap (λ ds. values_of its ++ cases_json (checks_of ds) gs) (sym (drop_of_length-le cs h)) ∙ i)

-- one more case, with the steps of a group
pub case_pushed : (cs : List (Check × ℕ)) (k : ℕ) (its more : List Tree) (t steps : Tree) (c : Check × ℕ) (gs hs : List (List Json)) (w : List Json) → values_of its ++ cases_json (checks_of (drop k cs)) gs ≡ w →
    drop k cs ≡ c ∷ drop (k + 1) cs → more ≡ its ++ t ∷ [] → json t ≡ guarded_json c.0 (json steps) → json steps ≡ list_of (first_json gs) → hs ≡ rest_of gs → values_of more ++ cases_json (checks_of (drop (k + 1) cs)) hs ≡ w
case_pushed cs k its more t steps c gs hs w i d m j s r =
    ap (λ ts. values_of ts ++ cases_json (checks_of (drop (k + 1) cs)) hs) m
    ∙ (one_more its t (cases_json (checks_of (drop (k + 1) cs)) hs)
    ∙ (ap (λ v. values_of its ++ (v ∷ cases_json (checks_of (drop (k + 1) cs)) hs)) (j ∙ ap (guarded_json c.0) s)
    ∙ (ap (λ us. values_of its ++ (guarded_json c.0 (list_of (first_json gs)) ∷ cases_json (checks_of (drop (k + 1) cs)) us)) r
    ∙ (ap (λ ds. values_of its ++ cases_json (checks_of ds) gs) (sym d) ∙ i))))

pub case_passed : (cs : List (Check × ℕ)) (k : ℕ) (c : Check × ℕ) (gs hs w : List (List Json)) → past (checks_of (drop k cs)) gs ≡ w → drop k cs ≡ c ∷ drop (k + 1) cs → hs ≡ rest_of gs
    → past (checks_of (drop (k + 1) cs)) hs ≡ w
case_passed cs k c gs hs w i d r = ap (past (checks_of (drop (k + 1) cs))) r ∙ (ap (λ ds. past (checks_of ds) gs) (sym d) ∙ i)

-- the same of catches
pub all_catches : (cs : List Catch) (k : ℕ) (its : List Tree) (gs : List (List Json)) (w : List Json) → values_of its ++ catches_json (catchings_of (drop k cs)) gs ≡ w → length cs ≤ k → values_of its ≡ w
all_catches cs k its gs w i h =
    sym (append-nil (values_of its)) ∙ (ap (λ ds. values_of its ++ catches_json (catchings_of ds) gs) (sym (drop_of_length-le cs h)) ∙ i)

pub catch_pushed : (cs : List Catch) (k : ℕ) (its more : List Tree) (t steps : Tree) (c : Catch) (gs hs : List (List Json)) (w : List Json) → values_of its ++ catches_json (catchings_of (drop k cs)) gs ≡ w →
    drop k cs ≡ c ∷ drop (k + 1) cs → more ≡ its ++ t ∷ [] → json t ≡ catch_json c.names c.when (json steps) → json steps ≡ list_of (first_json gs) → hs ≡ rest_of gs
    → values_of more ++ catches_json (catchings_of (drop (k + 1) cs)) hs ≡ w
catch_pushed cs k its more t steps c gs hs w i d m j s r =
    ap (λ ts. values_of ts ++ catches_json (catchings_of (drop (k + 1) cs)) hs) m
    ∙ (one_more its t (catches_json (catchings_of (drop (k + 1) cs)) hs)
    ∙ (ap (λ v. values_of its ++ (v ∷ catches_json (catchings_of (drop (k + 1) cs)) hs)) (j ∙ ap (catch_json c.names c.when) s)
    ∙ (ap (λ us. values_of its ++ (catch_json c.names c.when (list_of (first_json gs)) ∷ catches_json (catchings_of (drop (k + 1) cs)) us)) r
    ∙ (ap (λ ds. values_of its ++ catches_json (catchings_of ds) gs) (sym d) ∙ i))))

pub catch_passed : (cs : List Catch) (k : ℕ) (c : Catch) (gs hs w : List (List Json)) → past (catchings_of (drop k cs)) gs ≡ w → drop k cs ≡ c ∷ drop (k + 1) cs → hs ≡ rest_of gs
    → past (catchings_of (drop (k + 1) cs)) hs ≡ w
catch_passed cs k c gs hs w i d r = ap (past (catchings_of (drop (k + 1) cs))) r ∙ (ap (λ ds. past (catchings_of ds) gs) (sym d) ∙ i)

-- the member of the catches, where there are any
pub catches_put : (cs : List Catch) (gs : List (List Json)) → 1 ≤ length cs → catches_pairs (catches_json (catchings_of cs) gs) ≡ one (codes "doCatch") (list_of (catches_json (catchings_of cs) gs))
catches_put [] gs h = absurd (omega arith)
catches_put (c ∷ cs) gs h = refl
