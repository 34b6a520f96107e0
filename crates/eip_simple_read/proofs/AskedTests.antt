-- What is asked of a builder of patterns test by test, as a loop reads them.
use Rattle.std.proofs.Common.{◌≡◌, ℕ, zero, suc, ◌+◌, ◌-◌, ◌<◌, ◌≤◌, List, [], ◌++◌, length, Option, Some, None, Ok, Err, refl, sym, ap, ◌∙◌, subst, append_assoc, arith}
use Rattle.std.proofs.lemmas.List.{append-nil}
use Rattle.eip_text.specs.Cuts.{unspaced}
use Rattle.eip_simple_read.specs.declared.tree.Test.{Test}
use Rattle.eip_simple_read.specs.declared.joints.Joint.{Joint}
use Rattle.eip_simple_read.specs.declared.joints.Joint.TheVariants as joint
use Rattle.eip_simple_read.specs.declared.pattern.PatternFault.TheVariants as refusal
use Rattle.eip_simple_read.specs.declared.fault.Stop.{Stop}
use Rattle.eip_simple_read.specs.declared.fault.Stop.TheVariants as stop
use Rattle.eip_simple_read.specs.Reading.{Fault, Bad, Unknown, Refused, Fails, FailsAt, StopsWithin, test_at, joint_at, all_tests}
use Rattle.eip_simple_read.specs.Meaning.{placed_stop}
use Rattle.eip_simple_read.specs.Builds.{Told, added, built, behind_read, test_patterns, unless_end, tests_patterns, patterns_in, EndsRefused, EndsRefusedAt, Begins, AsksStopped, IsAsked}
use Rattle.eip_simple_read.proofs.Asked.{built_behind, refused_behind, begins_behind, begins_before, begins_built}
use Rattle.eip_simple_read.proofs.Conjunctions.{IsLater, Reads, reads_at, back}

-- total is the patterns so far and those of the rest, also where a pattern of the rest is refused
abbrev pub PatternsSoFar : List (List ℕ) → List ℕ → (Option ℕ → List (List ℕ)) → Type 0
PatternsSoFar past rest total = (n : ℕ) × (length rest < n) × ((refused : Option ℕ) → IsLater refused rest → past ++ tests_patterns refused n rest ≡ total refused)

pub starts_asking : (text rest : List ℕ) → rest ≡ unspaced text → length rest ≤ length text → PatternsSoFar [] rest (λ refused. patterns_in refused text)
unfolding patterns_in
starts_asking text rest e le = (length text + 1, omega arith, λ refused later. ap (tests_patterns refused (length text + 1)) e)

one_more : (refused : Option ℕ) (n : ℕ) (rest : List ℕ) (t : Test) (after : List ℕ) (j : Joint) (next : List ℕ) → test_at refused rest ≡ Ok (t, after) → joint_at after ≡ Ok (j, next)
    → tests_patterns refused (suc n) rest ≡ test_patterns rest ++ unless_end j (tests_patterns refused n next)
unfolding tests_patterns
one_more refused n rest t after j next e k = rw (e, k) refl

none_more : (refused : Option ℕ) (n : ℕ) (rest : List ℕ) (e : Fault) → test_at refused rest ≡ Err e → tests_patterns refused (suc n) rest ≡ test_patterns rest
unfolding tests_patterns
none_more refused n rest e f = rw f (append-nil (test_patterns rest))

none_behind : (n : ℕ) (rest : List ℕ) (t : Test) (after : List ℕ) (e : Fault) → test_at None rest ≡ Ok (t, after) → joint_at after ≡ Err e → tests_patterns None (suc n) rest ≡ test_patterns rest
unfolding tests_patterns
none_behind n rest t after e r f = rw (r, f) (append-nil (test_patterns rest))

at_least : (n : ℕ) (rest : List ℕ) → (more : List (List ℕ)) × (tests_patterns None (suc n) rest ≡ test_patterns rest ++ more)
unfolding tests_patterns
at_least n rest = (behind_read (test_at None rest) (λ (t : Test × List ℕ). behind_read (joint_at t.1) (λ (j : Joint × List ℕ). unless_end j.0 (tests_patterns None n j.1))), refl)

module _ (past : List (List ℕ)) (rest : List ℕ) (total : Option ℕ → List (List ℕ)) where
  pub goes_on_asking : PatternsSoFar past rest total → (t : Test) (after next : List ℕ) (j : Joint) → Reads rest t after → joint_at after ≡ Ok (j, next) → ((more : List (List ℕ)) → unless_end j more ≡ more)
      → length next ≤ length after → length next < length rest → PatternsSoFar (past ++ test_patterns rest) next total
  goes_on_asking s t after next j r k goes short lt = by_fuel s.0 s.1 s.2
    where
      by_fuel : (n : ℕ) → length rest < n → ((refused : Option ℕ) → IsLater refused rest → past ++ tests_patterns refused n rest ≡ total refused) → PatternsSoFar (past ++ test_patterns rest) next total
      by_fuel zero le h = absurd (omega arith)
      by_fuel (suc n) le h = (
        n,
        omega arith,
        λ refused later.
            append_assoc past (test_patterns rest) (tests_patterns refused n next)
            ∙ ap (λ (x : List (List ℕ)). past ++ x) (sym (one_more refused n rest t after j next (reads_at refused rest t after r (back refused next after short later)) k
            ∙ ap (λ (x : List (List ℕ)). test_patterns rest ++ x) (goes (tests_patterns refused n next))))
            ∙ h refused (back refused next rest (omega arith) later),
      )

  -- the last test was read
  ended : PatternsSoFar past rest total → (t : Test) (after next : List ℕ) → test_at None rest ≡ Ok (t, after) → joint_at after ≡ Ok (joint.End, next) → total None ≡ past ++ test_patterns rest
  ended s t after next r k = by_fuel s.0 s.1 (s.2 None tt)
    where
      by_fuel : (n : ℕ) → length rest < n → past ++ tests_patterns None n rest ≡ total None → total None ≡ past ++ test_patterns rest
      by_fuel zero le h = absurd (omega arith)
      by_fuel (suc n) le h = sym h ∙ ap (λ (x : List (List ℕ)). past ++ x) (one_more None n rest t after joint.End next r k ∙ append-nil (test_patterns rest))

  stopped_in : PatternsSoFar past rest total → (refused : Option ℕ) (e : Fault) → IsLater refused rest → test_at refused rest ≡ Err e → total refused ≡ past ++ test_patterns rest
  stopped_in s refused e later f = by_fuel s.0 s.1 (s.2 refused later)
    where
      by_fuel : (n : ℕ) → length rest < n → past ++ tests_patterns refused n rest ≡ total refused → total refused ≡ past ++ test_patterns rest
      by_fuel zero le h = absurd (omega arith)
      by_fuel (suc n) le h = sym h ∙ ap (λ (x : List (List ℕ)). past ++ x) (none_more refused n rest e f)

  stopped_behind : PatternsSoFar past rest total → (t : Test) (after : List ℕ) (e : Fault) → test_at None rest ≡ Ok (t, after) → joint_at after ≡ Err e → total None ≡ past ++ test_patterns rest
  stopped_behind s t after e r f = by_fuel s.0 s.1 (s.2 None tt)
    where
      by_fuel : (n : ℕ) → length rest < n → past ++ tests_patterns None n rest ≡ total None → total None ≡ past ++ test_patterns rest
      by_fuel zero le h = absurd (omega arith)
      by_fuel (suc n) le h = sym h ∙ ap (λ (x : List (List ℕ)). past ++ x) (none_behind n rest t after e r f)

  -- the patterns of the test in front are among all
  among : PatternsSoFar past rest total → (more : List (List ℕ)) × (total None ≡ past ++ (test_patterns rest ++ more))
  among s = by_fuel s.0 s.1 (s.2 None tt)
    where
      by_fuel : (n : ℕ) → length rest < n → past ++ tests_patterns None n rest ≡ total None → (more : List (List ℕ)) × (total None ≡ past ++ (test_patterns rest ++ more))
      by_fuel zero le h = absurd (omega arith)
      by_fuel (suc n) le h = let a = at_least n rest in (a.0, sym h ∙ ap (λ (x : List (List ℕ)). past ++ x) a.1)

  -- memory was wanting in the test in front or behind it
  pub asks_starved : PatternsSoFar past rest total → (b m n : Told) → m ≡ added b (built past) → Begins (test_patterns rest) m n → Begins (total None) b n
  asks_starved s b m n h a =
      let all = among s in
      subst (λ (x : List (List ℕ)). Begins x b n) (sym all.1) (begins_behind past (test_patterns rest ++ all.0) b m n h (begins_before (test_patterns rest) all.0 m n a))

  pub asks_done : PatternsSoFar past rest total → (t : Test) (after next : List ℕ) → test_at None rest ≡ Ok (t, after) → joint_at after ≡ Ok (joint.End, next) → (b m n : Told) → m ≡ added b (built past)
      → n ≡ added m (built (test_patterns rest)) → n ≡ added b (built (total None))
  asks_done s t after next r k b m n h a = built_behind past (test_patterns rest) b m n h a ∙ ap (λ (x : List (List ℕ)). added b (built x)) (sym (ended s t after next r k))

  pub asks_test : PatternsSoFar past rest total → (stopped : Stop) → FailsAt stopped (λ refused. test_at refused rest) → StopsWithin {X = Unit {0}} (length rest) (Err stopped) → (b m n : Told)
      → m ≡ added b (built past) → AsksStopped stopped (λ _. test_patterns rest) m n → AsksStopped stopped total b n
  asks_test s stop.Memory f le b m n h a = asks_starved s b m n h a
  asks_test s (stop.Bad left) f le b m n h a =
      built_behind past (test_patterns rest) b m n h a ∙ ap (λ (x : List (List ℕ)). added b (built x)) (sym (stopped_in s None (Bad left) tt f))
  asks_test s (stop.Unknown left) f le b m n h a =
      built_behind past (test_patterns rest) b m n h a ∙ ap (λ (x : List (List ℕ)). added b (built x)) (sym (stopped_in s None (Unknown left) tt f))
  asks_test s (stop.Pattern left fault) f le b m n h a =
      subst (λ (x : List (List ℕ)). EndsRefused x b n) (sym (stopped_in s (Some left) (Refused left f.0) le f.1)) (refused_behind past (test_patterns rest) b m n h a)

  pub asks_joint : PatternsSoFar past rest total → (stopped : Stop) (t : Test) (after : List ℕ) → test_at None rest ≡ Ok (t, after) → Fails stopped (joint_at after) → (b m n : Told)
      → m ≡ added b (built past) → n ≡ added m (built (test_patterns rest)) → AsksStopped stopped total b n
  asks_joint s stop.Memory t after r f b m n h a = asks_starved s b m n h (begins_built (test_patterns rest) m n a)
  asks_joint s (stop.Bad left) t after r f b m n h a =
      built_behind past (test_patterns rest) b m n h a ∙ ap (λ (x : List (List ℕ)). added b (built x)) (sym (stopped_behind s t after (Bad left) r f))
  asks_joint s (stop.Unknown left) t after r f b m n h a =
      built_behind past (test_patterns rest) b m n h a ∙ ap (λ (x : List (List ℕ)). added b (built x)) (sym (stopped_behind s t after (Unknown left) r f))
  asks_joint s (stop.Pattern left fault) t after r f b m n h a = absurd f

-- ---- a whole text

refused_at : (bs : List ℕ) (left : ℕ) (b n : Told) → left ≤ length bs → EndsRefused (patterns_in (Some left) bs) b n → EndsRefusedAt bs (length bs - left) b n
refused_at bs left b n le h = (left, omega (arith, le), h)

pub asked_stop : (bs : List ℕ) (stopped : Stop) (b n : Told) → FailsAt stopped (λ refused. all_tests refused bs) → StopsWithin {X = Unit {0}} (length bs) (Err stopped) → AsksStopped stopped (λ refused. patterns_in refused bs) b n
    → IsAsked bs (Err (placed_stop (length bs) stopped)) b n
asked_stop bs stop.Memory b n f le h = h
asked_stop bs (stop.Bad left) b n f le h = h
asked_stop bs (stop.Unknown left) b n f le h = h
asked_stop bs (stop.Pattern left refusal.Bad) b n f le h = refused_at bs left b n le h
asked_stop bs (stop.Pattern left refusal.TooLarge) b n f le h = refused_at bs left b n le h
asked_stop bs (stop.Pattern left refusal.NoMemory) b n f le h = absurd f.2
