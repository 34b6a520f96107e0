-- The walk over a journal's entries: those judged so far, and one more.
use Rattle.std.proofs.Common.{◌≡◌, ◌↔◌, Result, Ok, Err, ℕ, zero, suc, ◌+◌, ◌≤◌, List, [], ◌∷◌, ◌++◌, length, reverse, take, Some, refl, sym, ap, subst, ◌∙◌, arith, append_assoc}
use Rattle.std.specs.List.{slice_get}
use Rattle.std.specs.Prelude.{IfOk}
use Rattle.std.proofs.lemmas.List.{reverse-append, reverse-reverse, length-reverse, take_all, length-take-le}
use Rattle.std.proofs.lemmas.Option.{slice_get_within}
use Rattle.eip_route.specs.declared.route.RouteSet.{RouteSet}
use Rattle.eip_ledger.specs.declared.entry.Entry.{Entry}
use Rattle.eip_ledger.specs.View.{JournalView}
use Rattle.eip_history.specs.Plan.{Plan}
use Rattle.eip_history.specs.Own.{Past}
use Rattle.eip_history.specs.Rules.{IsLegal}
use Rattle.eip_plan.specs.Plan.{plan_of}
use Rattle.eip_text.specs.declared.memory.NoMemory.{NoMemory}
use Rattle.eip_verdict.specs.declared.verdict.Verdict.{Verdict}
use Rattle.eip_verdict.specs.declared.verdict.Verdict.TheVariants.{Legal, Wrong}
use Rattle.eip_verdict.proofs.Wrongs.{legal-exactly}
use Rattle.eip_verdict.specs.Verdicts.{rule_of, Keeps, Says}
use Rattle.eip_hub.specs.View.{plan}
use Rattle.eip_audit.specs.declared.auditor.Auditor.{Auditor}
use Rattle.eip_audit.specs.Judging.{Holds, Enters, KeepsHere}

-- ---- lists

cut-here : {A : Type 0} (xs : List A) (n : ℕ) (x : A) → slice_get xs n ≡ Some x → (later : List A) × (xs ≡ take n xs ++ (x ∷ later))
cut-here [] n x h = absurd (cc h)
cut-here (y ∷ xs) zero x h = let e : y ≡ x = cc in (xs, ap (λ z. z ∷ xs) e)
cut-here (y ∷ xs) (suc n) x h = let r = cut-here xs n x h in (r.0, ap (λ zs. y ∷ zs) r.1)

next-here : {A : Type 0} (xs : List A) (n : ℕ) (x : A) → slice_get xs n ≡ Some x → take (n + 1) xs ≡ take n xs ++ (x ∷ [])
next-here [] n x h = absurd (cc h)
next-here (y ∷ xs) zero x h = let e : y ≡ x = cc in ap (λ z. z ∷ []) e
next-here (y ∷ xs) (suc n) x h = let e : suc n + 1 ≡ suc (n + 1) = omega arith in rw e (ap (λ zs. y ∷ zs) (next-here xs n x h))

next-past : {A : Type 0} (xs : List A) (n : ℕ) (x : A) → slice_get xs n ≡ Some x → reverse (take (n + 1) xs) ≡ x ∷ reverse (take n xs)
next-past xs n x h = ap reverse (next-here xs n x h) ∙ reverse-append (take n xs) (x ∷ [])

turned : {A : Type 0} (xs : List A) (n : ℕ) (x : A) → slice_get xs n ≡ Some x → (later : List A) × (reverse xs ≡ later ++ (x ∷ reverse (take n xs)))
turned xs n x h =
    let r = cut-here xs n x h in
    let last : reverse (x ∷ r.0) ≡ reverse r.0 ++ (x ∷ []) = reverse-append (x ∷ []) r.0 in (
      reverse r.0,
      ap reverse r.1
          ∙ (reverse-append (take n xs) (x ∷ r.0) ∙ (ap (λ zs. zs ++ reverse (take n xs)) last ∙ append_assoc (reverse r.0) (x ∷ []) (reverse (take n xs)))),
    )

-- ---- the walk

-- the first n entries are judged, and all of them are legal
pub record HasJudged (set : RouteSet) (journal : JournalView) (entries : List Entry) (n : ℕ) (a : Auditor) : Type 0 where
  pub set_is : a.books.set ≡ set
  pub workers : a.books.journal.workers ≡ journal.workers
  pub turns : a.books.journal.turns ≡ journal.turns
  pub past : a.books.journal.past ≡ reverse (take n entries)
  pub holds : Holds a

module _ (set : RouteSet) (journal : JournalView) (entries : List Entry) (n : ℕ) (a : Auditor) (j : HasJudged set journal entries n a) where
  -- what the auditor's books have is what was handed in
  here : (P : Plan → ℕ → ℕ → Past → Type 0) → P (plan a.books) a.books.journal.workers a.books.journal.turns a.books.journal.past
      → P (plan_of set) journal.workers journal.turns (reverse (take n entries))
  here P h =
      subst (λ (s : RouteSet). P (plan_of s) journal.workers journal.turns (reverse (take n entries))) j.set_is
      (subst (λ (w : ℕ). P (plan a.books) w journal.turns (reverse (take n entries))) j.workers
      (subst (λ (t : ℕ). P (plan a.books) a.books.journal.workers t (reverse (take n entries))) j.turns
      (subst (λ (p : Past). P (plan a.books) a.books.journal.workers a.books.journal.turns p) j.past h)))

  judged-legal : IsLegal (plan_of set) journal.workers journal.turns (reverse (take n entries))
  judged-legal = here IsLegal j.holds.legal

  module _ (e : Entry) (at : slice_get entries n ≡ Some e) where
    pub judged-more : (b : Auditor) → Enters a b e.worker e.kind → HasJudged set journal entries (n + 1) b
    judged-more b enters = record {
      set_is = enters.adds.same.set ∙ j.set_is;
      workers = enters.adds.same.workers ∙ j.workers;
      turns = enters.adds.same.turns ∙ j.turns;
      past = enters.adds.past ∙ (ap (λ (p : Past). e ∷ p) j.past ∙ sym (next-past entries n e at));
      holds = enters.holds;
    }

    pub judged-wrong : entries ≡ reverse journal.past → (KeepsHere a e → ⊥) → Says (plan_of set) journal.workers journal.turns journal.past (Wrong (n + 1) (rule_of e.kind))
    judged-wrong are breaks =
        let r = turned entries n e at in
        let whole : reverse entries ≡ journal.past = ap reverse are ∙ reverse-reverse journal.past in
        let long : length (reverse (take n entries)) ≡ n = length-reverse (take n entries) ∙ length-take-le n entries (omega (arith, slice_get_within entries n e at)) in
        record {
          later = r.0;
          wrong = e;
          before = reverse (take n entries);
          split = sym whole ∙ r.1;
          number = omega (arith, long);
          rule_is = refl;
          kept = judged-legal.entries;
          breaks = here (λ s w t p. Keeps s w t p e → ⊥) breaks;
        }

  -- where all are judged, the journal is legal
  pub judged-all : entries ≡ reverse journal.past → length entries ≤ n → Says (plan_of set) journal.workers journal.turns journal.past (Legal (length entries))
  judged-all are l = (
    subst (IsLegal (plan_of set) journal.workers journal.turns) (ap reverse (take_all n entries l) ∙ (ap reverse are ∙ reverse-reverse journal.past)) judged-legal,
    ap length are ∙ length-reverse journal.past,
  )

-- and so the verdict on the journal is Legal exactly where the journal is legal
pub told-exactly : (kept set : RouteSet) (journal : JournalView) (r : Result Verdict NoMemory) → kept ≡ set
    → IfOk r (λ v. Says (plan_of kept) journal.workers journal.turns journal.past v)
    → IfOk r (λ v. Says (plan_of set) journal.workers journal.turns journal.past v)
    × IfOk r (λ v. v ≡ Legal (length journal.past) ↔ IsLegal (plan_of set) journal.workers journal.turns journal.past)
told-exactly kept set journal (Err f) same h = (h, h)
told-exactly kept set journal (Ok v) same h =
    let says = subst (λ (s : RouteSet). Says (plan_of s) journal.workers journal.turns journal.past v) same h in
    (says, legal-exactly (plan_of set) journal.workers journal.turns journal.past v says)
