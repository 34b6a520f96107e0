-- What contracts see of inlets, and how pulls and commits change it.
use Rattle.std.specs.Prelude.{ℕ, ◌≡◌, ◌+◌, ◌==◌, ◌&&◌, bytes_eq, Bool, cond, List, [], ◌∷◌, ◌++◌, Option, Result, Ok, Err, map}
use Rattle.eip_text.specs.Causes.{Rises}
use Rattle.eip_endpoint.specs.declared.source.Pulled.{Pulled}
use Rattle.eip_endpoint.specs.declared.source.Commit.{Commit}
use Rattle.eip_endpoint.specs.declared.source.Source.{Ghosts}
use Rattle.eip_endpoint.specs.declared.inlets.Inlet.{Inlet}
use Rattle.eip_endpoint.specs.Content.{extended, preceded}
use Rattle.eip_exchange.specs.declared.end.End.{End}
use Rattle.eip_endpoint.specs.declared.source.PullFault.{PullFault}
use Rattle.eip_endpoint.specs.declared.source.PullFault.TheVariants as pull
use Rattle.eip_endpoint.specs.declared.source.CommitFault.{CommitFault}
use Rattle.eip_endpoint.specs.Pulls.{all_taken, commit_failure_in, committed}

-- an inlet: its name, for each printed URI what it has given, has left and was told by commits, and its count of faults
pub record InletView : Type 0 where
  pub name : List ℕ
  pub given : List ℕ → Option (List Pulled)
  pub left : List ℕ → Option (List Pulled)
  pub commits : List ℕ → Option (List Commit)
  pub faults : ℕ

-- an inlet, by the members of its object
abbrev pub inlet_view : {S : Type 0} → Ghosts S → Inlet S → InletView
inlet_view m i =
    record { name = i.name; given = m.given i.object; left = m.left i.object; commits = m.commits i.object; faults = m.inlet_faults i.object }

-- inlets, by the members of their objects
abbrev pub inlet_views : {S : Type 0} → Ghosts S → List (Inlet S) → List InletView
inlet_views m is = map (inlet_view m) is

-- the names of inlets
abbrev pub inlet_names : List InletView → List (List ℕ)
inlet_names vs = map (λ v. v.name) vs

-- what an inlet did: it gave something, failed to, or was told of an end
pub data Act : Type 0 where
  Gave : Pulled → Act
  Failed : Act
  Told : Commit → Act

-- an act of the inlet with an index, from 0, for a printed URI
pub record InletAct : Type 0 where
  pub inlet : ℕ
  pub uri : List ℕ
  pub act : Act

-- what an act gave
abbrev pub gave : Act → List Pulled
gave (Gave p) = p ∷ []
gave Failed = []
gave (Told c) = []

-- what an act told
abbrev pub told : Act → List Commit
told (Gave p) = []
told Failed = []
told (Told c) = c ∷ []

-- 1 for an act that failed
abbrev pub failed : Act → ℕ
failed (Gave p) = 0
failed Failed = 1
failed (Told c) = commit_failure_in c.outcome

-- is it an act of inlet k for this URI
abbrev pub is_act_of : ℕ → List ℕ → InletAct → Bool
is_act_of k u a = (a.inlet == k) && bytes_eq a.uri u

-- what inlet k gave for a URI
abbrev pub given_at : ℕ → List ℕ → List InletAct → List Pulled
given_at k u [] = []
given_at k u (a ∷ js) = cond (is_act_of k u a) (gave a.act ++ given_at k u js) (given_at k u js)

-- what inlet k was told for a URI
abbrev pub commits_at : ℕ → List ℕ → List InletAct → List Commit
commits_at k u [] = []
commits_at k u (a ∷ js) = cond (is_act_of k u a) (told a.act ++ commits_at k u js) (commits_at k u js)

-- how often inlet k failed
abbrev pub faults_at : ℕ → List InletAct → ℕ
faults_at k [] = 0
faults_at k (a ∷ js) = cond (a.inlet == k) (failed a.act + faults_at k js) (faults_at k js)

-- inlet k behind these acts: for each URI it has given, has less left and was told what they say, and its count rose by the failures
pub record InletGrew (k : ℕ) (js : List InletAct) (old new : InletView) : Type 0 where
  pub name : new.name ≡ old.name
  pub given : (u : List ℕ) → new.given u ≡ extended (old.given u) (given_at k u js)
  pub left : (u : List ℕ) → old.left u ≡ preceded (all_taken (given_at k u js)) (new.left u)
  pub commits : (u : List ℕ) → new.commits u ≡ extended (old.commits u) (commits_at k u js)
  pub faults : Rises (faults_at k js) old.faults new.faults

-- the inlets from index k on behind these acts
abbrev pub InletsGrew : ℕ → List InletAct → List InletView → List InletView → Type 0
InletsGrew k js [] [] = Unit {0}
InletsGrew k js (v ∷ vs) (w ∷ ws) = InletGrew k js v w × InletsGrew (k + 1) js vs ws
InletsGrew k js [] (w ∷ ws) = ⊥
InletsGrew k js (v ∷ vs) [] = ⊥

-- acts, all of inlet k for one URI
abbrev pub acts_at : ℕ → List ℕ → List Act → List InletAct
acts_at k u [] = []
acts_at k u (a ∷ acts) = record { inlet = k; uri = u; act = a } ∷ acts_at k u acts

-- the act that a pull's answer tells of; one that found no memory did nothing
abbrev pub acts_of_pull : Result Pulled PullFault → List Act
acts_of_pull (Ok p) = Gave p ∷ []
acts_of_pull (Err pull.Failed) = Failed ∷ []
acts_of_pull (Err pull.NoMemory) = []

-- the act that a commit's answer tells of
abbrev pub acts_of_commits : List Commit → List Act
acts_of_commits [] = []
acts_of_commits (c ∷ cs) = Told c ∷ acts_of_commits cs

abbrev pub acts_of_commit : List ℕ → End → Result Unit CommitFault → List Act
acts_of_commit item e r = acts_of_commits (committed item e r)
