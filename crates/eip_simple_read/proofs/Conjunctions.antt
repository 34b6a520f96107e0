-- Reading test by test, as a loop does.
use Rattle.std.proofs.Common.{◌≡◌, ℕ, zero, suc, ◌+◌, ◌<◌, ◌≤◌, List, [], ◌∷◌, ◌++◌, length, Option, Some, None, Result, Ok, Err, refl, sym, ap, ◌∙◌, append_assoc, arith}
use Rattle.std.specs.Prelude.{All}
use Rattle.std.proofs.lemmas.List.Elements.{All-push}
use Rattle.eip_text.specs.Cuts.{unspaced}
use Rattle.eip_simple_read.specs.declared.tree.Test.{Test}
use Rattle.eip_simple_read.specs.declared.joints.Joint.{Joint}
use Rattle.eip_simple_read.specs.declared.joints.Joint.TheVariants as joint
use Rattle.eip_simple_read.specs.declared.fault.Stop.{Stop}
use Rattle.eip_simple_read.specs.declared.fault.Stop.TheVariants as stop
use Rattle.eip_simple_read.specs.Reading.{Fault, Bad, Unknown, Refused, ◌>>=◌, Fails, FailsAt, in_first, go_on, test_at, joint_at, tests_at, all_tests, StopsWithin, HasGoodPattern}

abbrev pub Tests : Type 0
Tests = Result (List (List Test)) Fault

-- the conjunctions that are whole, the one that was begun, and those that are still read
abbrev pub onto_first : List Test → List (List Test) → List (List Test)
onto_first [] any = any
onto_first (t ∷ ts) [] = (t ∷ ts) ∷ []
onto_first (t ∷ ts) (us ∷ any) = ((t ∷ ts) ++ us) ∷ any

abbrev pub with_begun : List (List Test) → List Test → Tests → Tests
with_begun any all r = r >>= λ ts. Ok (any ++ onto_first all ts)

-- the pattern that is refused, if there is one, is not before this text
abbrev pub IsLater : Option ℕ → List ℕ → Type 0
IsLater None rest = Unit {0}
IsLater (Some left) rest = left ≤ length rest

-- total is what the tests so far and those of the rest give, also where a pattern of the rest is refused
abbrev pub SoFar : List (List Test) → List Test → List ℕ → (Option ℕ → Tests) → Type 0
SoFar any all rest total = (n : ℕ) × (length rest < n) × ((refused : Option ℕ) → IsLater refused rest → with_begun any all (tests_at refused n rest) ≡ total refused)

none_begun : (r : Tests) → with_begun [] [] r ≡ r
none_begun (Ok ts) = refl
none_begun (Err e) = refl

pub starts : (text : List ℕ) (rest : List ℕ) → rest ≡ unspaced text → length rest ≤ length text → SoFar [] [] rest (λ refused. all_tests refused text)
unfolding all_tests
starts text rest e le = (length text + 1, omega arith, λ refused later. none_begun (tests_at refused (length text + 1) rest) ∙ ap (tests_at refused (length text + 1)) e)

onto_in_first : (all : List Test) (t : Test) (ts : List (List Test)) → onto_first all (in_first t ts) ≡ onto_first (all ++ t ∷ []) ts
onto_in_first [] t [] = refl
onto_in_first [] t (us ∷ any) = refl
onto_in_first (a ∷ all) t [] = refl
onto_in_first (a ∷ all) t (us ∷ any) = ap (λ (x : List Test). (a ∷ x) ∷ any) (sym (append_assoc all (t ∷ []) us))

onto_whole : (all : List Test) (t : Test) (ts : List (List Test)) → onto_first all ((t ∷ []) ∷ ts) ≡ (all ++ t ∷ []) ∷ ts
onto_whole [] t ts = refl
onto_whole (a ∷ all) t ts = refl

and_step : (any : List (List Test)) (all : List Test) (t : Test) (r : Tests) → with_begun any all (go_on t joint.And r) ≡ with_begun any (all ++ t ∷ []) r
and_step any all t (Ok ts) = ap (λ (x : List (List Test)). Ok (any ++ x)) (onto_in_first all t ts)
and_step any all t (Err e) = refl

or_step : (any : List (List Test)) (all : List Test) (t : Test) (r : Tests) → with_begun any all (go_on t joint.Or r) ≡ with_begun (any ++ (all ++ t ∷ []) ∷ []) [] r
or_step any all t (Ok ts) = ap (λ (x : List (List Test)). Ok (any ++ x)) (onto_whole all t ts) ∙ ap (λ (x : List (List Test)). Ok x) (sym (append_assoc any ((all ++ t ∷ []) ∷ []) ts))
or_step any all t (Err e) = refl

pub one_test : (refused : Option ℕ) (n : ℕ) (rest : List ℕ) (t : Test) (after : List ℕ) (j : Joint) (next : List ℕ) → test_at refused rest ≡ Ok (t, after) → joint_at after ≡ Ok (j, next)
    → tests_at refused (suc n) rest ≡ go_on t j (tests_at refused n next)
unfolding tests_at
one_test refused n rest t after j next e k = rw (e, k) refl

-- a test that is read whichever later pattern is refused
abbrev pub Reads : List ℕ → Test → List ℕ → Type 0
Reads rest t after = (test_at None rest ≡ Ok (t, after)) × ((left : ℕ) → left ≤ length after → test_at (Some left) rest ≡ Ok (t, after))

pub reads_at : (refused : Option ℕ) (rest : List ℕ) (t : Test) (after : List ℕ) → Reads rest t after → IsLater refused after → test_at refused rest ≡ Ok (t, after)
reads_at None rest t after r later = r.0
reads_at (Some left) rest t after r later = r.1 left later

pub back : (refused : Option ℕ) (next rest : List ℕ) → length next ≤ length rest → IsLater refused next → IsLater refused rest
back None next rest le later = tt
back (Some left) next rest le later = omega arith

module _ (any : List (List Test)) (all : List Test) (rest : List ℕ) (total : Option ℕ → Tests) where
  pub goes_and : SoFar any all rest total → (t : Test) (after next : List ℕ) → Reads rest t after → joint_at after ≡ Ok (joint.And, next) → length next ≤ length after → length next < length rest → SoFar any (all ++ t ∷ []) next total
  goes_and s t after next r k short lt = by_fuel s.0 s.1 s.2
    where
      by_fuel : (n : ℕ) → length rest < n → ((refused : Option ℕ) → IsLater refused rest → with_begun any all (tests_at refused n rest) ≡ total refused) → SoFar any (all ++ t ∷ []) next total
      by_fuel zero le h = absurd (omega arith)
      by_fuel (suc n) le h = (
        n,
        omega arith,
        λ refused later.
            sym (ap (with_begun any all) (one_test refused n rest t after joint.And next (reads_at refused rest t after r (back refused next after short later)) k) ∙ and_step any all t (tests_at refused n next))
            ∙ h refused (back refused next rest (omega arith) later),
      )

  pub goes_or : SoFar any all rest total → (t : Test) (after next : List ℕ) → Reads rest t after → joint_at after ≡ Ok (joint.Or, next) → length next ≤ length after → length next < length rest → SoFar (any ++ (all ++ t ∷ []) ∷ []) [] next total
  goes_or s t after next r k short lt = by_fuel s.0 s.1 s.2
    where
      by_fuel : (n : ℕ) → length rest < n → ((refused : Option ℕ) → IsLater refused rest → with_begun any all (tests_at refused n rest) ≡ total refused) → SoFar (any ++ (all ++ t ∷ []) ∷ []) [] next total
      by_fuel zero le h = absurd (omega arith)
      by_fuel (suc n) le h = (
        n,
        omega arith,
        λ refused later.
            sym (ap (with_begun any all) (one_test refused n rest t after joint.Or next (reads_at refused rest t after r (back refused next after short later)) k) ∙ or_step any all t (tests_at refused n next))
            ∙ h refused (back refused next rest (omega arith) later),
      )

  pub is_done : SoFar any all rest total → (t : Test) (after next : List ℕ) → test_at None rest ≡ Ok (t, after) → joint_at after ≡ Ok (joint.End, next) → total None ≡ Ok (any ++ (all ++ t ∷ []) ∷ [])
  is_done s t after next e k = by_fuel s.0 s.1 (s.2 None tt)
    where
      by_fuel : (n : ℕ) → length rest < n → with_begun any all (tests_at None n rest) ≡ total None → total None ≡ Ok (any ++ (all ++ t ∷ []) ∷ [])
      by_fuel zero le h = absurd (omega arith)
      by_fuel (suc n) le h = sym h ∙ ap (with_begun any all) (one_test None n rest t after joint.End next e k) ∙ ap (λ (x : List (List Test)). Ok (any ++ x)) (onto_whole all t [])

  stops_at : SoFar any all rest total → (refused : Option ℕ) (e : Fault) → IsLater refused rest → test_at refused rest ≡ Err e → total refused ≡ Err e
  unfolding tests_at
  stops_at s refused e later f = by_fuel s.0 s.1 (s.2 refused later)
    where
      by_fuel : (n : ℕ) → length rest < n → with_begun any all (tests_at refused n rest) ≡ total refused → total refused ≡ Err e
      by_fuel zero le h = absurd (omega arith)
      by_fuel (suc n) le h = sym h ∙ rw f refl

  stops_behind : SoFar any all rest total → (t : Test) (after : List ℕ) (e : Fault) → test_at None rest ≡ Ok (t, after) → joint_at after ≡ Err e → total None ≡ Err e
  unfolding tests_at
  stops_behind s t after e r f = by_fuel s.0 s.1 (s.2 None tt)
    where
      by_fuel : (n : ℕ) → length rest < n → with_begun any all (tests_at None n rest) ≡ total None → total None ≡ Err e
      by_fuel zero le h = absurd (omega arith)
      by_fuel (suc n) le h = sym h ∙ rw (r, f) refl

  pub fails_test : SoFar any all rest total → (stopped : Stop) → FailsAt stopped (λ refused. test_at refused rest) → StopsWithin {X = Unit {0}} (length rest) (Err stopped) → FailsAt stopped total
  fails_test s stop.Memory f le = tt
  fails_test s (stop.Bad left) f le = stops_at s None (Bad left) tt f
  fails_test s (stop.Unknown left) f le = stops_at s None (Unknown left) tt f
  fails_test s (stop.Pattern left fault) f le = (f.0, stops_at s (Some left) (Refused left f.0) le f.1, f.2)

  pub fails_joint : SoFar any all rest total → (stopped : Stop) (t : Test) (after : List ℕ) → test_at None rest ≡ Ok (t, after) → Fails stopped (joint_at after) → FailsAt stopped total
  fails_joint s stop.Memory t after e f = tt
  fails_joint s (stop.Bad left) t after e f = stops_behind s t after (Bad left) e f
  fails_joint s (stop.Unknown left) t after e f = stops_behind s t after (Unknown left) e f
  fails_joint s (stop.Pattern left fault) t after e f = absurd f

-- ---- patterns

-- the conjunctions stay good with one more that was begun and got its last test
pub good_more : (any : List (List Test)) (all : List Test) (t : Test) → All (All HasGoodPattern) any → All HasGoodPattern all → HasGoodPattern t → All (All HasGoodPattern) (any ++ (all ++ t ∷ []) ∷ [])
good_more any all t a b g = All-push (All HasGoodPattern) any (all ++ t ∷ []) a (All-push HasGoodPattern all t b g)
