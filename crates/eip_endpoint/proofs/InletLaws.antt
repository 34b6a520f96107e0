-- How inlets grow by pulls and commits.
use Rattle.std.proofs.Common.{ℕ, zero, suc, ◌≡◌, ◌≢◌, ◌+◌, ◌<◌, List, [], ◌∷◌, ◌++◌, Result, Ok, Err, refl, sym, ap, ◌∙◌, subst, arith, length, map, get_or, append_assoc}
use Rattle.std.specs.Str.{bytes_eq}
use Rattle.std.proofs.Math.ListN.{set}
use Rattle.std.proofs.lemmas.Grind.{common_steps}
use Rattle.std.proofs.lemmas.Slice.Eq.{bytes_eq-Decides}
use Rattle.eip_text.specs.Causes.{Rises}
use Rattle.eip_exchange.specs.declared.end.End.{End}
use Rattle.eip_endpoint.specs.declared.source.Pulled.{Pulled}
use Rattle.eip_endpoint.specs.declared.source.PullFault.{PullFault}
use Rattle.eip_endpoint.specs.declared.source.PullFault.TheVariants as pull
use Rattle.eip_endpoint.specs.declared.source.CommitFault.{CommitFault}
use Rattle.eip_endpoint.specs.declared.source.CommitFault.TheVariants as commit
use Rattle.eip_endpoint.specs.Content.{extended, preceded, where_same}
use Rattle.eip_endpoint.specs.Pulls.{taken, all_taken, given_by, pull_failure, committed, commit_failure}
use Rattle.eip_endpoint.specs.Inlets.{InletView, InletAct, Act, given_at, commits_at, faults_at, InletGrew, InletsGrew, acts_at, acts_of_pull, acts_of_commit}
use Rattle.eip_endpoint.proofs.Told.{extended-none, extended-append, preceded-none, preceded-append, Rises-none, Rises-trans}

pub all_taken-append : (ps qs : List Pulled) → all_taken (ps ++ qs) ≡ all_taken ps ++ all_taken qs
all_taken-append [] qs = refl
all_taken-append (p ∷ ps) qs = ap (λ x. taken p ++ x) (all_taken-append ps qs) ∙ sym (append_assoc (taken p) (all_taken ps) (all_taken qs))

pub given_at-append : (k : ℕ) (u : List ℕ) (js ks : List InletAct) → given_at k u (js ++ ks) ≡ given_at k u js ++ given_at k u ks
given_at-append k u [] ks = refl
given_at-append k u (j ∷ js) ks = let ih = given_at-append k u js ks in grind (arith, common_steps, ih)

pub commits_at-append : (k : ℕ) (u : List ℕ) (js ks : List InletAct) → commits_at k u (js ++ ks) ≡ commits_at k u js ++ commits_at k u ks
commits_at-append k u [] ks = refl
commits_at-append k u (j ∷ js) ks = let ih = commits_at-append k u js ks in grind (arith, common_steps, ih)

pub faults_at-append : (k : ℕ) (js ks : List InletAct) → faults_at k (js ++ ks) ≡ faults_at k js + faults_at k ks
faults_at-append k [] ks = omega arith
faults_at-append k (j ∷ js) ks = let ih = faults_at-append k js ks in grind (arith, common_steps, ih)

-- acts of another inlet give and tell nothing here
pub given_at-other : (k i : ℕ) (u v : List ℕ) (acts : List Act) → i ≢ k → given_at k u (acts_at i v acts) ≡ []
given_at-other k i u v [] other = refl
given_at-other k i u v (a ∷ acts) other = let ih = given_at-other k i u v acts other in grind (arith, common_steps, ih)

pub commits_at-other : (k i : ℕ) (u v : List ℕ) (acts : List Act) → i ≢ k → commits_at k u (acts_at i v acts) ≡ []
commits_at-other k i u v [] other = refl
commits_at-other k i u v (a ∷ acts) other = let ih = commits_at-other k i u v acts other in grind (arith, common_steps, ih)

pub faults_at-other : (k i : ℕ) (v : List ℕ) (acts : List Act) → i ≢ k → faults_at k (acts_at i v acts) ≡ 0
faults_at-other k i v [] other = refl
faults_at-other k i v (a ∷ acts) other = let ih = faults_at-other k i v acts other in grind (arith, common_steps, ih)

-- an inlet without an act of its own stays
pub InletGrew-none :
    (k : ℕ) (js : List InletAct) (v : InletView) → ((u : List ℕ) → given_at k u js ≡ []) → ((u : List ℕ) → commits_at k u js ≡ [])
    → faults_at k js ≡ 0 → InletGrew k js v v
InletGrew-none k js v given commits faults = record {
  name = refl;
  given = λ u. rw (given u) (extended-none (v.given u));
  left = λ u. rw (given u) (preceded-none (v.left u));
  commits = λ u. rw (commits u) (extended-none (v.commits u));
  faults = rw faults (Rises-none v.faults);
}

pub InletGrew-trans :
    (k : ℕ) (js ks : List InletAct) (u v w : InletView) → InletGrew k js u v → InletGrew k ks v w → InletGrew k (js ++ ks) u w
InletGrew-trans k js ks u v w a b = record {
  name = b.name ∙ a.name;
  given = λ x. rw (given_at-append k x js ks)
      (b.given x ∙ ap (λ o. extended o (given_at k x ks)) (a.given x) ∙ extended-append (u.given x) (given_at k x js) (given_at k x ks));
  left = λ x. rw (given_at-append k x js ks, all_taken-append (given_at k x js) (given_at k x ks))
      (a.left x ∙ ap (λ o. preceded (all_taken (given_at k x js)) o) (b.left x)
      ∙ preceded-append (w.left x) (all_taken (given_at k x js)) (all_taken (given_at k x ks)));
  commits = λ x. rw (commits_at-append k x js ks)
      (b.commits x ∙ ap (λ o. extended o (commits_at k x ks)) (a.commits x) ∙ extended-append (u.commits x) (commits_at k x js) (commits_at k x ks));
  faults = rw (faults_at-append k js ks) (Rises-trans _ _ _ _ _ a.faults b.faults);
}

-- without an act the inlets stay
pub InletsGrew-none : (k : ℕ) (vs : List InletView) → InletsGrew k [] vs vs
InletsGrew-none k [] = tt
InletsGrew-none k (v ∷ vs) = (InletGrew-none k [] v (λ u. refl) (λ u. refl) refl, InletsGrew-none (k + 1) vs)

-- acts in a row
pub InletsGrew-trans :
    (k : ℕ) (js ks : List InletAct) (us vs ws : List InletView) → InletsGrew k js us vs → InletsGrew k ks vs ws → InletsGrew k (js ++ ks) us ws
InletsGrew-trans k js ks [] [] [] a b = tt
InletsGrew-trans k js ks (u ∷ us) (v ∷ vs) (w ∷ ws) a b = (InletGrew-trans k js ks u v w a.0 b.0, InletsGrew-trans (k + 1) js ks us vs ws a.1 b.1)
InletsGrew-trans k js ks [] [] (w ∷ ws) a b = b
InletsGrew-trans k js ks [] (v ∷ vs) ws a b = absurd a
InletsGrew-trans k js ks (u ∷ us) [] ws a b = absurd a
InletsGrew-trans k js ks (u ∷ us) (v ∷ vs) [] a b = b

-- an inlet stays through the acts of another one
pub InletGrew-other : (k i : ℕ) (u : List ℕ) (acts : List Act) (v : InletView) → i ≢ k → InletGrew k (acts_at i u acts) v v
InletGrew-other k i u acts v other =
    InletGrew-none k _ v (λ x. given_at-other k i x u acts other) (λ x. commits_at-other k i x u acts other) (faults_at-other k i u acts other)

-- acts of an inlet in front stay out
pub InletsGrew-before : (k i : ℕ) (u : List ℕ) (acts : List Act) (vs : List InletView) → i < k → InletsGrew k (acts_at i u acts) vs vs
InletsGrew-before k i u acts [] h = tt
InletsGrew-before k i u acts (v ∷ vs) h = (InletGrew-other k i u acts v (omega arith), InletsGrew-before (k + 1) i u acts vs (omega arith))

-- the acts of one inlet change that one alone
pub InletsGrew-set :
    {L : Type 0} (f : L → InletView) (k i n : ℕ) (u : List ℕ) (acts : List Act) (ls : List L) (d w : L) → n ≡ k + i → i < length ls
    → InletGrew n (acts_at n u acts) (f (get_or ls i d)) (f w) → InletsGrew k (acts_at n u acts) (map f ls) (map f (set ls i w))
InletsGrew-set f k i n u acts [] d w e h g = absurd (omega arith)
InletsGrew-set f k zero n u acts (l ∷ ls) d w e h g =
    let same : n ≡ k = omega arith in
    (subst (λ m. InletGrew m (acts_at n u acts) (f l) (f w)) same g, InletsGrew-before (k + 1) n u acts (map f ls) (omega arith))
InletsGrew-set f k (suc i) n u acts (l ∷ ls) d w e h g =
    (InletGrew-other k n u acts (f l) (omega arith), InletsGrew-set f (k + 1) i n u acts ls d w (omega arith) (omega arith) g)

-- the inlets keep their names
pub InletsGrew-names : (k : ℕ) (js : List InletAct) (vs ws : List InletView) → InletsGrew k js vs ws → map (λ v. v.name) vs ≡ map (λ w. w.name) ws
InletsGrew-names k js [] [] g = refl
InletsGrew-names k js (v ∷ vs) (w ∷ ws) g =
    let first : v.name ≡ w.name = sym g.0.name in
    let rest : map (λ x. x.name) vs ≡ map (λ x. x.name) ws = InletsGrew-names (k + 1) js vs ws g.1 in
    cc
InletsGrew-names k js [] (w ∷ ws) g = absurd g
InletsGrew-names k js (v ∷ vs) [] g = absurd g

-- and their number
pub InletsGrew-length : (k : ℕ) (js : List InletAct) (vs ws : List InletView) → InletsGrew k js vs ws → length vs ≡ length ws
InletsGrew-length k js [] [] g = refl
InletsGrew-length k js (v ∷ vs) (w ∷ ws) g = ap suc (InletsGrew-length (k + 1) js vs ws g.1)
InletsGrew-length k js [] (w ∷ ws) g = absurd g
InletsGrew-length k js (v ∷ vs) [] g = absurd g

-- texts are compared alike from both sides
bytes_eq-sym : (u v : List ℕ) → bytes_eq u v ≡ bytes_eq v u
bytes_eq-sym u v = grind (arith, common_steps, bytes_eq-Decides u v, bytes_eq-Decides v u)

-- what a pull's acts say is what its answer says
pulled-given :
    (k : ℕ) (u v : List ℕ) (r : Result Pulled PullFault) → given_at k u (acts_at k v (acts_of_pull r)) ≡ where_same u v (given_by r)
pulled-given k u v (Ok p) = let turned = bytes_eq-sym u v in grind (arith, common_steps, turned)
pulled-given k u v (Err pull.Failed) = grind (arith, common_steps)
pulled-given k u v (Err pull.NoMemory) = grind (arith, common_steps)

pulled-commits : (k : ℕ) (u v : List ℕ) (r : Result Pulled PullFault) → commits_at k u (acts_at k v (acts_of_pull r)) ≡ []
pulled-commits k u v (Ok p) = grind (arith, common_steps)
pulled-commits k u v (Err pull.Failed) = grind (arith, common_steps)
pulled-commits k u v (Err pull.NoMemory) = refl

pulled-faults : (k : ℕ) (v : List ℕ) (r : Result Pulled PullFault) → faults_at k (acts_at k v (acts_of_pull r)) ≡ pull_failure r
pulled-faults k v (Ok p) = grind (arith, common_steps)
pulled-faults k v (Err pull.Failed) = grind (arith, common_steps)
pulled-faults k v (Err pull.NoMemory) = refl

-- an inlet behind a pull
pub InletGrew-pulled :
    (k : ℕ) (from : List ℕ) (r : Result Pulled PullFault) (v w : InletView) → w.name ≡ v.name
    → ((u : List ℕ) → w.given u ≡ extended (v.given u) (where_same u from (given_by r)))
    → ((u : List ℕ) → v.left u ≡ preceded (all_taken (where_same u from (given_by r))) (w.left u))
    → ((u : List ℕ) → w.commits u ≡ v.commits u) → Rises (pull_failure r) v.faults w.faults
    → InletGrew k (acts_at k from (acts_of_pull r)) v w
InletGrew-pulled k from r v w name given left commits faults = record {
  name = name;
  given = λ u. rw (pulled-given k u from r) (given u);
  left = λ u. rw (pulled-given k u from r) (left u);
  commits = λ u. rw (pulled-commits k u from r) (commits u ∙ extended-none (v.commits u));
  faults = rw (pulled-faults k from r) faults;
}

-- what a commit's acts say is what its answer says
committed-given :
    (k : ℕ) (u v item : List ℕ) (e : End) (r : Result Unit CommitFault) → given_at k u (acts_at k v (acts_of_commit item e r)) ≡ []
committed-given k u v item e (Ok x) = grind (arith, common_steps)
committed-given k u v item e (Err commit.Failed) = grind (arith, common_steps)
committed-given k u v item e (Err commit.NoMemory) = refl

committed-commits :
    (k : ℕ) (u v item : List ℕ) (e : End) (r : Result Unit CommitFault)
    → commits_at k u (acts_at k v (acts_of_commit item e r)) ≡ where_same u v (committed item e r)
committed-commits k u v item e (Ok x) = let turned = bytes_eq-sym u v in grind (arith, common_steps, turned)
committed-commits k u v item e (Err commit.Failed) = let turned = bytes_eq-sym u v in grind (arith, common_steps, turned)
committed-commits k u v item e (Err commit.NoMemory) = grind (arith, common_steps)

committed-faults :
    (k : ℕ) (v item : List ℕ) (e : End) (r : Result Unit CommitFault) → faults_at k (acts_at k v (acts_of_commit item e r)) ≡ commit_failure r
committed-faults k v item e (Ok x) = grind (arith, common_steps)
committed-faults k v item e (Err commit.Failed) = grind (arith, common_steps)
committed-faults k v item e (Err commit.NoMemory) = refl

-- an inlet behind a commit
pub InletGrew-committed :
    (k : ℕ) (from item : List ℕ) (e : End) (r : Result Unit CommitFault) (v w : InletView) → w.name ≡ v.name
    → ((u : List ℕ) → w.given u ≡ v.given u) → ((u : List ℕ) → w.left u ≡ v.left u)
    → ((u : List ℕ) → w.commits u ≡ extended (v.commits u) (where_same u from (committed item e r)))
    → Rises (commit_failure r) v.faults w.faults → InletGrew k (acts_at k from (acts_of_commit item e r)) v w
InletGrew-committed k from item e r v w name given left commits faults = record {
  name = name;
  given = λ u. rw (committed-given k u from item e r) (given u ∙ extended-none (v.given u));
  left = λ u. rw (committed-given k u from item e r) (sym (left u) ∙ preceded-none (w.left u));
  commits = λ u. rw (committed-commits k u from item e r) (commits u);
  faults = rw (committed-faults k from item e r) faults;
}

-- names over what is seen as inlets: g reads the name that f shows
pub InletsGrew-named :
    {L : Type 0} (f : L → InletView) (g : L → List ℕ) (k : ℕ) (js : List InletAct) (ls ms : List L) → ((l : L) → (f l).name ≡ g l)
    → InletsGrew k js (map f ls) (map f ms) → map g ls ≡ map g ms
InletsGrew-named f g k js [] [] reads grew = refl
InletsGrew-named f g k js (l ∷ ls) (m ∷ ms) reads grew =
    let first : g l ≡ g m = sym (reads l) ∙ sym grew.0.name ∙ reads m in
    let rest : map g ls ≡ map g ms = InletsGrew-named f g (k + 1) js ls ms reads grew.1 in
    cc
InletsGrew-named f g k js [] (m ∷ ms) reads grew = absurd grew
InletsGrew-named f g k js (l ∷ ls) [] reads grew = absurd grew
