-- Laws of the readers of a source of lines, and of what it answers.
use Rattle.std.proofs.Common.{ℕ, ◌≡◌, ◌⊎◌, inl, inr, bytes_eq, cond, true, false, List, [], ◌∷◌, ◌++◌, Option, Some, None, unwrap_or, Result, Ok, Err, IfErr, IsErrOf, refl, ap, get_or, arith}
use Rattle.eip_keyed.specs.Keyed.{Keyed, found, StandsAt}
use Rattle.eip_keyed.proofs.KeyedLaws.{found-at, found-set, found-other}
use Rattle.std.proofs.Math.ListN.{set}
use Rattle.eip_text.specs.Causes.{Rises, Rose}
use Rattle.eip_endpoint.specs.Pulls.{pull_failure}
use Rattle.eip_endpoint.specs.declared.source.Pulled.{Pulled}
use Rattle.eip_endpoint.specs.declared.source.PullFault.TheVariants as pull
use Rattle.eip_line.specs.declared.reader.LineFault.{LineFault}
use Rattle.eip_line.specs.declared.reader.LineFault.TheVariants as fault
use Rattle.eip_line.specs.declared.reader.LineReader.{LineReader}
use Rattle.eip_line.specs.Lines.{Next, Endless}
use Rattle.eip_line.specs.Readers.{TookKnown, link_failure_in}
use Rattle.eip_line.specs.Sources.{fresh_reader, reader_for, faults_with, pull_answer, endless_behind}

-- ---- readers by their URIs

-- a reader before the first line stands for one that is not there
pub reader_for-more :
    (v u : List ℕ) (rs : Keyed LineReader) (r : LineReader) → r ≡ fresh_reader → reader_for v (rs ++ (u, r) ∷ []) ≡ reader_for v rs
reader_for-more v u [] r fresh =
    elim (bytes_eq u v) as (λ b. unwrap_or (cond b (Some r) None) fresh_reader ≡ fresh_reader) [ true ↦ fresh | false ↦ refl ]
reader_for-more v u (q ∷ rs) r fresh =
    let ih = reader_for-more v u rs r fresh in
    elim (bytes_eq q.0 v) as (λ b. unwrap_or (cond b (Some q.1) (found v (rs ++ (u, r) ∷ []))) fresh_reader ≡ unwrap_or (cond b (Some q.1) (found v rs)) fresh_reader) [
      | true ↦ refl
      | false ↦ ih
    ]

pub reader-at : (u : List ℕ) (k : ℕ) (rs : Keyed LineReader) (d : List ℕ × LineReader) → StandsAt u k rs → reader_for u rs ≡ (get_or rs k d).1
reader-at u k rs d h = ap (λ o. unwrap_or o fresh_reader) (found-at u k rs d h)

pub reader-set :
    (u x : List ℕ) (k : ℕ) (rs : Keyed LineReader) (d : List ℕ × LineReader) (r : LineReader) → StandsAt u k rs → x ≡ (get_or rs k d).0
    → reader_for u (set rs k (x, r)) ≡ r
reader-set u x k rs d r h e = ap (λ o. unwrap_or o fresh_reader) (found-set u x k rs d r h e)

pub reader-other :
    (u v x : List ℕ) (k : ℕ) (rs : Keyed LineReader) (d : List ℕ × LineReader) (r : LineReader) → StandsAt u k rs → x ≡ (get_or rs k d).0
    → bytes_eq u v ≡ false → reader_for v (set rs k (x, r)) ≡ reader_for v rs
reader-other u v x k rs d r h e other = ap (λ o. unwrap_or o fresh_reader) (found-other u v x k rs d r h e other)

-- ---- answers

-- a pull takes what its reader took
pub took-answered :
    (n n' : ℕ) (o o' : Option (List ℕ)) (r : Result Pulled LineFault) → TookKnown n o r n' o' → TookKnown n o (pull_answer r) n' o'
took-answered n n' None o' r h = tt
took-answered n n' (Some xs) None r h = absurd h
took-answered n n' (Some xs) (Some ys) (Ok p) h = h
took-answered n n' (Some xs) (Some ys) (Err fault.Failed) h = h
took-answered n n' (Some xs) (Some ys) (Err fault.Endless) h = h
took-answered n n' (Some xs) (Some ys) (Err fault.NoMemory) h = h

-- it fails where the link failed, or met a line without end
pub faults-answered :
    (r : Result Pulled LineFault) (link link' endless : ℕ) → Rises (link_failure_in r) link link'
    → Rises (pull_failure (pull_answer r)) (faults_with link endless) (faults_with link' (endless_behind r endless))
faults-answered (Ok p) link link' endless h = let same = h.none refl in record { never_falls = omega arith; least = omega arith; none = λ _. omega arith }
faults-answered (Err fault.Failed) link link' endless h =
    let up = h.never_falls in let least = h.least in record { never_falls = omega arith; least = omega arith; none = λ e. absurd (omega (arith, e)) }
faults-answered (Err fault.Endless) link link' endless h =
    let same = h.none refl in record { never_falls = omega arith; least = omega arith; none = λ e. absurd (omega (arith, e)) }
faults-answered (Err fault.NoMemory) link link' endless h = let same = h.none refl in record { never_falls = omega arith; least = omega arith; none = λ _. omega arith }

pub cause-answered :
    (r : Result Pulled LineFault) (link link' : ℕ) (next : Next) → Rises (link_failure_in r) link link' → (IsErrOf r fault.Endless → next ≡ Endless)
    → IsErrOf (pull_answer r) pull.Failed → Rose link link' ⊎ (next ≡ Endless)
cause-answered (Ok p) link link' next h endless failed = absurd (cc failed)
cause-answered (Err fault.Failed) link link' next h endless failed = inl h.least
cause-answered (Err fault.Endless) link link' next h endless failed = inr (endless refl)
cause-answered (Err fault.NoMemory) link link' next h endless failed = absurd (cc failed)

-- it doesn't where its reader gave a line or found no memory
pub ready-answered : (r : Result Pulled LineFault) → IfErr r (λ f. f ≡ fault.NoMemory) → ¬ (IsErrOf (pull_answer r) pull.Failed)
ready-answered (Ok p) h = λ failed. absurd (cc failed)
ready-answered (Err fault.Failed) h = λ failed. absurd (cc h)
ready-answered (Err fault.Endless) h = λ failed. absurd (cc h)
ready-answered (Err fault.NoMemory) h = λ failed. absurd (cc failed)
