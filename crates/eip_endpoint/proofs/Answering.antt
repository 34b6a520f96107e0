-- What a source in memory gives, has left and was told.
use Rattle.std.proofs.Common.{ℕ, zero, suc, ◌≡◌, ◌+◌, Bool, true, false, bytes_eq, cond, List, [], ◌∷◌, ◌++◌, drop, Result, Ok, Err, Some, IfOk, refl, sym, ap, ◌∙◌, subst, arith, append-nil, append_assoc}
use Rattle.std.proofs.lemmas.Grind.{common_steps}
use Rattle.std.proofs.lemmas.List.Sums.{sum_by-append}
use Rattle.std.proofs.lemmas.Slice.Eq.{bytes_eq-Decides}
use Rattle.eip_exchange.specs.declared.end.End.{End as AnEnd}
use Rattle.eip_endpoint.specs.declared.source.Pulled.{Pulled}
use Rattle.eip_endpoint.specs.declared.source.Pulled.TheVariants.{Item, Refused, End}
use Rattle.eip_endpoint.specs.declared.source.PullFault.{PullFault}
use Rattle.eip_endpoint.specs.declared.source.PullFault.TheVariants as pull
use Rattle.eip_endpoint.specs.declared.source.Commit.{Commit}
use Rattle.eip_endpoint.specs.declared.source.CommitFault.{CommitFault}
use Rattle.eip_endpoint.specs.declared.source.CommitFault.TheVariants as commit
use Rattle.eip_endpoint.specs.Content.{where_same}
use Rattle.eip_endpoint.specs.Pulls.{given_by, all_taken, EndsAtEnd, IsFair, committed}
use Rattle.eip_endpoint.specs.MemorySources.{AllNew, AreNew, Listing, KeptItems, listed, pulls_of, answer_at, answers, given_for, left_for, told_of, told_for, next_for, PulledNext, ToldNext}

-- one more answer
answers-more : (n : ℕ) (items : List Pulled) → answers (n + 1) items ≡ answers n items ++ answer_at n items ∷ []
answers-more zero [] = refl
answers-more zero (p ∷ items) = refl
answers-more (suc n) [] = let e : suc n + 1 ≡ suc (n + 1) = omega arith in rw e (ap (λ x. End ∷ x) (answers-more n []))
answers-more (suc n) (p ∷ items) = let e : suc n + 1 ≡ suc (n + 1) = omega arith in rw e (ap (λ x. p ∷ x) (answers-more n items))

-- an answer takes the first of what is left, and the end nothing
taken-left : (n : ℕ) (items : List Pulled) → AllNew items → drop n items ≡ all_taken (answer_at n items ∷ []) ++ drop (n + 1) items
taken-left zero [] new = refl
taken-left zero (Item i m ∷ items) new = refl
taken-left zero (Refused i c ∷ items) new = refl
taken-left zero (End ∷ items) new = absurd new.0
taken-left (suc n) [] new = let e : suc n + 1 ≡ suc (n + 1) = omega arith in rw e refl
taken-left (suc n) (p ∷ items) new = let e : suc n + 1 ≡ suc (n + 1) = omega arith in rw e (taken-left n items new.1)

-- the end comes only where nothing is left
ends-last : (n : ℕ) (items : List Pulled) → AllNew items → EndsAtEnd (Some (drop n items)) (answer_at n items)
ends-last zero [] new = refl
ends-last zero (Item i m ∷ items) new = tt
ends-last zero (Refused i c ∷ items) new = tt
ends-last zero (End ∷ items) new = absurd new.0
ends-last (suc n) [] new = refl
ends-last (suc n) (p ∷ items) new = ends-last n items new.1

answer-fair : (n : ℕ) (items : List Pulled) → AllNew items → IsFair (answer_at n items)
answer-fair n [] new = tt
answer-fair zero (Item i m ∷ items) new = new.0
answer-fair zero (Refused i c ∷ items) new = tt
answer-fair zero (End ∷ items) new = tt
answer-fair (suc n) (p ∷ items) new = answer-fair n items new.1

-- the items of each URI are new
listed-new : (u : List ℕ) (items : Listing) → AreNew items → AllNew (listed u items)
listed-new u [] new = tt
listed-new u (p ∷ items) new =
    elim (bytes_eq u p.0) as (λ b. AllNew (cond b p.1 (listed u items))) [ true ↦ new.0 | false ↦ listed-new u items new.1 ]

-- one more pull
pulls_of-more : (u v : List ℕ) (pulls : List (List ℕ)) → pulls_of u (pulls ++ v ∷ []) ≡ pulls_of u pulls + cond (bytes_eq u v) 1 0
pulls_of-more u v pulls = grind (arith, common_steps, sum_by-append (λ w. cond (bytes_eq u w) 1 0) pulls (v ∷ []))

-- one more end told
told_of-more : (u : List ℕ) (cs : List (List ℕ × Commit)) (c : List ℕ × Commit) → told_of u (cs ++ c ∷ []) ≡ told_of u cs ++ where_same u c.0 (c.1 ∷ [])
told_of-more u [] c = append-nil (where_same u c.0 (c.1 ∷ []))
told_of-more u (d ∷ cs) c =
    ap (λ x. where_same u d.0 (d.1 ∷ []) ++ x) (told_of-more u cs c) ∙ sym (append_assoc (where_same u d.0 (d.1 ∷ [])) (told_of u cs) (where_same u c.0 (c.1 ∷ [])))

where_same-none : {A : Type 0} (u v : List ℕ) → where_same {A = A} u v [] ≡ []
where_same-none {A = A} u v = elim (bytes_eq u v) as (λ b. cond {A = List A} b [] [] ≡ []) [ true ↦ refl | false ↦ refl ]

told-for :
    (s : KeptItems) (v i : List ℕ) (e : AnEnd) (r : Result Unit CommitFault) (new : KeptItems) → ToldNext s v i e r new
    → (u : List ℕ) → told_for new u ≡ told_for s u ++ where_same u v (committed i e r)
told-for s v i e (Ok x) new h u = ap (told_of u) (ap (λ k. k.commits) h.1) ∙ told_of-more u s.commits _
told-for s v i e (Err commit.Failed) new h u = ap (told_of u) (ap (λ k. k.commits) h.1) ∙ told_of-more u s.commits _
told-for s v i e (Err commit.NoMemory) new h u =
    ap (told_of u) (ap (λ k. k.commits) h) ∙ sym (append-nil (told_of u s.commits)) ∙ ap (λ x. told_of u s.commits ++ x) (sym (where_same-none u v))

-- a commit is told behind the others of its URI
pub commits-told :
    (s : KeptItems) (v v' i i' : List ℕ) (e e' : AnEnd) (r : Result Unit CommitFault) (new : KeptItems)
    → v' ≡ v → i' ≡ i → e' ≡ e → ToldNext s v' i' e' r new
    → (u : List ℕ) → told_for new u ≡ told_for s u ++ where_same u v (committed i e r)
commits-told s v v' i i' e e' r new same_uri same_item same_end h u = rw (sym same_uri, sym same_item, sym same_end) (told-for s v' i' e' r new h u)

-- a pull of one URI gives it one more answer, and another URI none
given-step :
    (b : Bool) (n : ℕ) (items : List Pulled) (p : Pulled) → (b ≡ true → p ≡ answer_at n items)
    → answers (n + cond b 1 0) items ≡ answers n items ++ cond b (p ∷ []) []
given-step true n items p is = answers-more n items ∙ ap (λ q. answers n items ++ q ∷ []) (sym (is refl))
given-step false n items p is = let e : n + 0 ≡ n = omega arith in rw e (sym (append-nil (answers n items)))

left-step :
    (b : Bool) (n : ℕ) (items : List Pulled) (p : Pulled) → AllNew items → (b ≡ true → p ≡ answer_at n items)
    → drop n items ≡ all_taken (cond b (p ∷ []) []) ++ drop (n + cond b 1 0) items
left-step true n items p new is =
    subst (λ (q : Pulled). drop n items ≡ all_taken (q ∷ []) ++ drop (n + 1) items) (sym (is refl)) (taken-left n items new)
left-step false n items p new is = let e : n + 0 ≡ n = omega arith in rw e refl

-- the answer to a URI is the one to each URI that is the same
answer-same :
    (s : KeptItems) (u v : List ℕ) (p : Pulled) → p ≡ next_for s v → bytes_eq u v ≡ true → p ≡ answer_at (pulls_of u s.pulls) (listed u s.items)
answer-same s u v p is same = let e : u ≡ v = (bytes_eq-Decides u v).0 same in rw e is

pub pulled-given :
    (s : KeptItems) (v : List ℕ) (r : Result Pulled PullFault) (new : KeptItems) → PulledNext s v r new
    → (u : List ℕ) → given_for new u ≡ given_for s u ++ where_same u v (given_by r)
pulled-given s v (Ok p) new h u =
    ap (λ (k : KeptItems). given_for k u) h.2 ∙ ap (λ n. answers n (listed u s.items)) (pulls_of-more u v s.pulls)
    ∙ given-step (bytes_eq u v) (pulls_of u s.pulls) (listed u s.items) p (answer-same s u v p h.1)
pulled-given s v (Err pull.Failed) new h u =
    ap (λ (k : KeptItems). given_for k u) h.1 ∙ sym (append-nil (given_for s u)) ∙ ap (λ x. given_for s u ++ x) (sym (where_same-none u v))
pulled-given s v (Err pull.NoMemory) new h u =
    ap (λ (k : KeptItems). given_for k u) h ∙ sym (append-nil (given_for s u)) ∙ ap (λ x. given_for s u ++ x) (sym (where_same-none u v))

nothing-taken : (u v : List ℕ) (xs : List Pulled) → xs ≡ all_taken (where_same u v []) ++ xs
nothing-taken u v xs = let e : where_same {A = Pulled} u v [] ≡ [] = where_same-none u v in ap (λ (q : List Pulled). all_taken q ++ xs) (sym e)

pub pulled-left :
    (s : KeptItems) (v : List ℕ) (r : Result Pulled PullFault) (new : KeptItems) → AreNew s.items → PulledNext s v r new
    → (u : List ℕ) → left_for s u ≡ all_taken (where_same u v (given_by r)) ++ left_for new u
pulled-left s v (Ok p) new fresh h u =
    left-step (bytes_eq u v) (pulls_of u s.pulls) (listed u s.items) p (listed-new u s.items fresh) (answer-same s u v p h.1)
    ∙ ap (λ n. all_taken (where_same u v (p ∷ [])) ++ drop n (listed u s.items)) (sym (pulls_of-more u v s.pulls))
    ∙ ap (λ (k : KeptItems). all_taken (where_same u v (p ∷ [])) ++ left_for k u) (sym h.2)
pulled-left s v (Err pull.Failed) new fresh h u =
    nothing-taken u v (left_for s u) ∙ ap (λ (k : KeptItems). all_taken (where_same u v []) ++ left_for k u) (sym h.1)
pulled-left s v (Err pull.NoMemory) new fresh h u =
    nothing-taken u v (left_for s u) ∙ ap (λ (k : KeptItems). all_taken (where_same u v []) ++ left_for k u) (sym h)

pub pulled-ends :
    (s : KeptItems) (v : List ℕ) (r : Result Pulled PullFault) (new : KeptItems) → AreNew s.items → PulledNext s v r new
    → IfOk r (EndsAtEnd (Some (left_for s v)))
pulled-ends s v (Ok p) new fresh h =
    subst (EndsAtEnd (Some (left_for s v))) (sym h.1) (ends-last (pulls_of v s.pulls) (listed v s.items) (listed-new v s.items fresh))
pulled-ends s v (Err f) new fresh h = tt

pub pulled-fair :
    (s : KeptItems) (v : List ℕ) (r : Result Pulled PullFault) (new : KeptItems) → AreNew s.items → PulledNext s v r new → IfOk r IsFair
pulled-fair s v (Ok p) new fresh h = subst IsFair (sym h.1) (answer-fair (pulls_of v s.pulls) (listed v s.items) (listed-new v s.items fresh))
pulled-fair s v (Err f) new fresh h = tt

pub pulled-told :
    (s : KeptItems) (v : List ℕ) (r : Result Pulled PullFault) (new : KeptItems) → PulledNext s v r new
    → (u : List ℕ) → told_for new u ≡ told_for s u
pulled-told s v (Ok p) new h u = ap (λ (k : KeptItems). told_for k u) h.2
pulled-told s v (Err pull.Failed) new h u = ap (λ (k : KeptItems). told_for k u) h.1
pulled-told s v (Err pull.NoMemory) new h u = ap (λ (k : KeptItems). told_for k u) h
