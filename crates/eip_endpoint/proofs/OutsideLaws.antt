-- How what answers tell of follows one another, and how pulls and commits stand beside each other.
use Rattle.std.proofs.Common.{◌≡◌, ℕ, ◌+◌, Bool, true, false, List, [], ◌∷◌, ◌++◌, Option, Some, None, refl, sym, ap, ◌∙◌, append_assoc, arith}
use Rattle.std.proofs.lemmas.Grind.{common_steps, flat_map-append}
use Rattle.std.proofs.lemmas.List.{append-nil}
use Rattle.eip_exchange.specs.declared.birth.Origin.{Origin}
use Rattle.eip_exchange.specs.declared.birth.Origin.TheVariants as from
use Rattle.eip_exchange.specs.declared.end.End.{End}
use Rattle.eip_frames.specs.declared.request.Request.{Request}
use Rattle.eip_frames.specs.declared.request.Request.TheVariants.{Finish}
use Rattle.eip_frames.specs.declared.answer.Answer.{Answer as Reply}
use Rattle.eip_frames.specs.declared.answer.Answer.TheVariants as reply
use Rattle.eip_endpoint.specs.declared.source.Commit.{Commit}
use Rattle.eip_endpoint.specs.declared.source.CommitOutcome.TheVariants as commit
use Rattle.eip_endpoint.specs.Inlets.{InletView, InletAct, given_at, commits_at, faults_at, InletGrew, InletsGrew, acts_at, acts_of_commits}
use Rattle.eip_endpoint.specs.Pulls.{commit_of}
use Rattle.eip_endpoint.specs.Outside.{Answered, Doors, calls, calls_in, acts_by, told_by, commits_for, commits_in, commits}
use Rattle.eip_endpoint.proofs.InletLaws.{given_at-append, commits_at-append, faults_at-append}

pub calls-append : (d : Doors) (vs ws : List Answered) → calls d (vs ++ ws) ≡ calls d vs ++ calls d ws
calls-append d vs ws = flat_map-append (calls_in d) vs ws

pub commits-append : (d : Doors) (vs ws : List Answered) → commits d (vs ++ ws) ≡ commits d vs ++ commits d ws
commits-append d vs ws = flat_map-append (commits_in d) vs ws

-- ---- what inlets were told of gives nothing

told-gives : (k i : ℕ) (u v : List ℕ) (cs : List Commit) → given_at k u (acts_at i v (acts_of_commits cs)) ≡ []
told-gives k i u v [] = refl
told-gives k i u v (c ∷ cs) = let ih = told-gives k i u v cs in grind (arith, common_steps, ih)

door-gives : (k : ℕ) (u v : List ℕ) (o : Option ℕ) (cs : List Commit) → given_at k u (acts_by o v (acts_of_commits cs)) ≡ []
door-gives k u v None cs = refl
door-gives k u v (Some i) cs = told-gives k i u v cs

none-gives : (k : ℕ) (u v : List ℕ) (o : Option ℕ) → given_at k u (acts_by o v []) ≡ []
none-gives k u v None = refl
none-gives k u v (Some i) = refl

by-answer : (k : ℕ) (u v item : List ℕ) (o : Option ℕ) (e : End) (a : Reply) → given_at k u (acts_by o v (told_by item e a)) ≡ []
by-answer k u v item o e reply.Finished = door-gives k u v o (commit_of item e commit.Done)
by-answer k u v item o e reply.CommitFailed = door-gives k u v o (commit_of item e commit.Failed)
by-answer k u v item o e _ = none-gives k u v o

answer-gives : (d : Doors) (k : ℕ) (u : List ℕ) (o : Origin) (q : Request) (a : Reply) → given_at k u (commits_for d o q a) ≡ []
answer-gives d k u (from.Source r item) (Finish e m true) a = by-answer k u (d.uri r) item (d.inlet r) e a
answer-gives d k u _ _ a = refl

pub commits-give : (d : Doors) (vs : List Answered) (k : ℕ) (u : List ℕ) → given_at k u (commits d vs) ≡ []
commits-give d [] k u = refl
commits-give d (v ∷ vs) k u =
    given_at-append k u (commits_in d v) (commits d vs)
    ∙ (ap (λ xs. xs ++ given_at k u (commits d vs)) (answer-gives d k u v.origin v.request v.answer) ∙ commits-give d vs k u)

-- ---- pulls and commits beside each other

mix-second : {X : Type 0} (a b c e : List X) → b ≡ [] → (a ++ b) ++ (c ++ e) ≡ (a ++ c) ++ (b ++ e)
mix-second a b c e none = rw none (ap (λ xs. xs ++ (c ++ e)) (append-nil a) ∙ sym (append_assoc a c e))

mix-third : {X : Type 0} (a b c e : List X) → c ≡ [] → (a ++ b) ++ (c ++ e) ≡ (a ++ c) ++ (b ++ e)
mix-third a b c e none = rw none (append_assoc a b e ∙ ap (λ xs. xs ++ (b ++ e)) (sym (append-nil a)))

given-four : (k : ℕ) (u : List ℕ) (a b c e : List InletAct) → given_at k u ((a ++ b) ++ (c ++ e)) ≡ (given_at k u a ++ given_at k u b) ++ (given_at k u c ++ given_at k u e)
given-four k u a b c e =
    given_at-append k u (a ++ b) (c ++ e)
    ∙ (ap (λ xs. xs ++ given_at k u (c ++ e)) (given_at-append k u a b) ∙ ap (λ xs. (given_at k u a ++ given_at k u b) ++ xs) (given_at-append k u c e))

commits-four : (k : ℕ) (u : List ℕ) (a b c e : List InletAct) → commits_at k u ((a ++ b) ++ (c ++ e)) ≡ (commits_at k u a ++ commits_at k u b) ++ (commits_at k u c ++ commits_at k u e)
commits-four k u a b c e =
    commits_at-append k u (a ++ b) (c ++ e)
    ∙ (ap (λ xs. xs ++ commits_at k u (c ++ e)) (commits_at-append k u a b) ∙ ap (λ xs. (commits_at k u a ++ commits_at k u b) ++ xs) (commits_at-append k u c e))

faults-four : (k : ℕ) (a b c e : List InletAct) → faults_at k ((a ++ b) ++ (c ++ e)) ≡ faults_at k ((a ++ c) ++ (b ++ e))
faults-four k a b c e =
    let whole = faults_at-append k (a ++ b) (c ++ e) in
    let first = faults_at-append k a b in
    let second = faults_at-append k c e in
    let other = faults_at-append k (a ++ c) (b ++ e) in
    let third = faults_at-append k a c in
    let fourth = faults_at-append k b e in
    omega (arith, whole, first, second, other, third, fourth)

-- an inlet that these acts made grow, made by those that give, tell and fail alike
grew-alike : (k : ℕ) (js ks : List InletAct) (v w : InletView) → ((u : List ℕ) → given_at k u js ≡ given_at k u ks) → ((u : List ℕ) → commits_at k u js ≡ commits_at k u ks)
    → faults_at k js ≡ faults_at k ks → InletGrew k js v w → InletGrew k ks v w
grew-alike k js ks v w given commits faults grew = record {
  name = grew.name;
  given = λ u. rw (← given u) (grew.given u);
  left = λ u. rw (← given u) (grew.left u);
  commits = λ u. rw (← commits u) (grew.commits u);
  faults = rw (← faults) grew.faults;
}

-- acts that give nothing may stand behind acts that tell nothing
pub InletsGrew-mix : (n : ℕ) (a b c e : List InletAct) (vs ws : List InletView) → ((k : ℕ) (u : List ℕ) → given_at k u b ≡ []) → ((k : ℕ) (u : List ℕ) → commits_at k u c ≡ [])
    → InletsGrew n ((a ++ b) ++ (c ++ e)) vs ws → InletsGrew n ((a ++ c) ++ (b ++ e)) vs ws
InletsGrew-mix n a b c e [] [] gives tells grew = tt
InletsGrew-mix n a b c e (v ∷ vs) (w ∷ ws) gives tells grew = (
  grew-alike n _ _ v w
      (λ u. given-four n u a b c e ∙ (mix-second _ _ _ _ (gives n u) ∙ sym (given-four n u a c b e)))
      (λ u. commits-four n u a b c e ∙ (mix-third _ _ _ _ (tells n u) ∙ sym (commits-four n u a c b e)))
      (faults-four n a b c e) grew.0,
  InletsGrew-mix (n + 1) a b c e vs ws gives tells grew.1,
)
InletsGrew-mix n a b c e [] (w ∷ ws) gives tells grew = absurd grew
InletsGrew-mix n a b c e (v ∷ vs) [] gives tells grew = absurd grew
