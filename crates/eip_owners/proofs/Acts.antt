-- What one inlet did among the acts of all.
use Rattle.std.proofs.Common.{◌≡◌, ◌≢◌, ℕ, ◌+◌, ◌==◌, ◌&&◌, Bool, true, false, cond, List, [], ◌∷◌, ◌++◌, Option, Some, None, refl, sym, ap, ◌∙◌}
use Rattle.std.specs.Prelude.{bytes_eq}
use Rattle.std.proofs.lemmas.Bool.{eq-eqb, eqb-false, eqb-true, ne_eqb}
use Rattle.eip_endpoint.specs.Inlets.{Act, InletAct, InletView, InletGrew, acts_at, given_at, commits_at, faults_at, gave, told, failed}
use Rattle.eip_endpoint.specs.Outside.{acts_by}
use Rattle.eip_owners.specs.Owners.{is_door}

-- the acts of inlet k among these, each as an act of an inlet with index 0
abbrev pub acts_on : ℕ → List InletAct → List InletAct
acts_on k [] = []
acts_on k (j ∷ js) = cond (j.inlet == k) (record { inlet = 0; uri = j.uri; act = j.act } ∷ acts_on k js) (acts_on k js)

pub acts_on-append : (k : ℕ) (js ks : List InletAct) → acts_on k (js ++ ks) ≡ acts_on k js ++ acts_on k ks
acts_on-append k [] ks = refl
acts_on-append k (j ∷ js) ks = by_test (j.inlet == k) (acts_on-append k js ks)
  where
    by_test : (b : Bool) → acts_on k (js ++ ks) ≡ acts_on k js ++ acts_on k ks
        → cond b (record { inlet = 0; uri = j.uri; act = j.act } ∷ acts_on k (js ++ ks)) (acts_on k (js ++ ks))
        ≡ cond b (record { inlet = 0; uri = j.uri; act = j.act } ∷ acts_on k js) (acts_on k js) ++ acts_on k ks
    by_test true ih = ap (λ xs. record { inlet = 0; uri = j.uri; act = j.act } ∷ xs) ih
    by_test false ih = ih

acts_on-own : (k : ℕ) (u : List ℕ) (acts : List Act) → acts_on k (acts_at k u acts) ≡ acts_at 0 u acts
acts_on-own k u [] = refl
acts_on-own k u (a ∷ acts) = rw (eq-eqb k k refl) (ap (λ xs. record { inlet = 0; uri = u; act = a } ∷ xs) (acts_on-own k u acts))

acts_on-other : (k i : ℕ) (u : List ℕ) (acts : List Act) → i ≢ k → acts_on k (acts_at i u acts) ≡ []
acts_on-other k i u [] other = refl
acts_on-other k i u (a ∷ acts) other = rw (ne_eqb i k other) (acts_on-other k i u acts other)

-- acts of another inlet, or of none
pub acts-beside : (k : ℕ) (o : Option ℕ) (u : List ℕ) (acts : List Act) → is_door k o ≡ false → acts_on k (acts_by o u acts) ≡ []
acts-beside k None u acts h = refl
acts-beside k (Some e) u acts h = acts_on-other k e u acts (eqb-false e k h)

-- one inlet under two indices
pub acts-alike : (e i : ℕ) (o r : Option ℕ) (u : List ℕ) (acts : List Act) → is_door e o ≡ is_door i r
    → acts_on e (acts_by o u acts) ≡ acts_on i (acts_by r u acts)
acts-alike e i None r u acts h = sym (acts-beside i r u acts (sym h))
acts-alike e i (Some a) None u acts h = acts-beside e (Some a) u acts h
acts-alike e i (Some a) (Some b) u acts h = by_test (a == e) refl
  where
    by_test : (t : Bool) → (a == e) ≡ t → acts_on e (acts_at a u acts) ≡ acts_on i (acts_at b u acts)
    by_test true g =
        let there : a ≡ e = eqb-true a e g in
        let here : b ≡ i = eqb-true b i (sym h ∙ g) in
        ap (λ j. acts_on e (acts_at j u acts)) there ∙ (acts_on-own e u acts ∙ (sym (acts_on-own i u acts) ∙ ap (λ j. acts_on i (acts_at j u acts)) (sym here)))
    by_test false g = acts_on-other e a u acts (eqb-false a e g) ∙ sym (acts_on-other i b u acts (eqb-false b i (sym h ∙ g)))

-- ---- what an inlet gave, was told and failed is read from its own acts alone

given-on : (k : ℕ) (u : List ℕ) (js : List InletAct) → given_at k u js ≡ given_at 0 u (acts_on k js)
given-on k u [] = refl
given-on k u (j ∷ js) = by_test (j.inlet == k) (given-on k u js)
  where
    by_test : (b : Bool) → given_at k u js ≡ given_at 0 u (acts_on k js)
        → cond (b && bytes_eq j.uri u) (gave j.act ++ given_at k u js) (given_at k u js)
        ≡ given_at 0 u (cond b (record { inlet = 0; uri = j.uri; act = j.act } ∷ acts_on k js) (acts_on k js))
    by_test true ih = ap (λ xs. cond (bytes_eq j.uri u) (gave j.act ++ xs) xs) ih
    by_test false ih = ih

pub commits-on : (k : ℕ) (u : List ℕ) (js : List InletAct) → commits_at k u js ≡ commits_at 0 u (acts_on k js)
commits-on k u [] = refl
commits-on k u (j ∷ js) = by_test (j.inlet == k) (commits-on k u js)
  where
    by_test : (b : Bool) → commits_at k u js ≡ commits_at 0 u (acts_on k js)
        → cond (b && bytes_eq j.uri u) (told j.act ++ commits_at k u js) (commits_at k u js)
        ≡ commits_at 0 u (cond b (record { inlet = 0; uri = j.uri; act = j.act } ∷ acts_on k js) (acts_on k js))
    by_test true ih = ap (λ xs. cond (bytes_eq j.uri u) (told j.act ++ xs) xs) ih
    by_test false ih = ih

pub faults-on : (k : ℕ) (js : List InletAct) → faults_at k js ≡ faults_at 0 (acts_on k js)
faults-on k [] = refl
faults-on k (j ∷ js) = by_test (j.inlet == k) (faults-on k js)
  where
    by_test : (b : Bool) → faults_at k js ≡ faults_at 0 (acts_on k js)
        → cond b (failed j.act + faults_at k js) (faults_at k js)
        ≡ faults_at 0 (cond b (record { inlet = 0; uri = j.uri; act = j.act } ∷ acts_on k js) (acts_on k js))
    by_test true ih = ap (λ n. failed j.act + n) ih
    by_test false ih = ih

-- an inlet behind acts is behind others among which it did the same, whatever its index there
pub InletGrew-same : (k i : ℕ) (js ks : List InletAct) (v w : InletView) → acts_on k js ≡ acts_on i ks → InletGrew k js v w → InletGrew i ks v w
InletGrew-same k i js ks v w same grew =
    let given : (u : List ℕ) → given_at k u js ≡ given_at i u ks = λ u. given-on k u js ∙ (ap (given_at 0 u) same ∙ sym (given-on i u ks)) in
    let commits : (u : List ℕ) → commits_at k u js ≡ commits_at i u ks = λ u. commits-on k u js ∙ (ap (commits_at 0 u) same ∙ sym (commits-on i u ks)) in
    let faults : faults_at k js ≡ faults_at i ks = faults-on k js ∙ (ap (faults_at 0) same ∙ sym (faults-on i ks)) in
    record {
      name = grew.name;
      given = λ u. rw (← given u) (grew.given u);
      left = λ u. rw (← given u) (grew.left u);
      commits = λ u. rw (← commits u) (grew.commits u);
      faults = rw (← faults) grew.faults;
    }
