-- What follows from what the definitions say of one message and of many.
use Rattle.std.proofs.Common.{◌≡◌, ℕ, ◌+◌, ◌<◌, ◌≤◌, List, [], ◌∷◌, ◌++◌, length, get_or, drop, Option, Some, None, Ok, Err, refl, sym, ap, ap₂, ◌∙◌, subst, add-one, drop-cons, drop_of_length-le}
use Rattle.std.specs.Prelude.{nat_le, ◌↔◌, IsNone, fold}
use Rattle.eip_exchange.specs.declared.message.Message.{Message}
use Rattle.eip_exchange.specs.declared.setting.Strategy.{Strategy}
use Rattle.eip_exchange.specs.declared.setting.Strategy.TheVariants.{Original, Latest, Joined, Grouped, Sum, Batch}
use Rattle.eip_strategy.specs.declared.fault.StrategyFault.{StrategyFault}
use Rattle.eip_strategy.specs.Adding.{with_body, added, IsReadyBody, IsReady}
use Rattle.eip_strategy.specs.Answers.{Answer}
use Rattle.eip_strategy.specs.Batches.{IsBatch}
use Rattle.eip_strategy.specs.Folding.{as_some, added_to, folded}
use Rattle.eip_strategy.specs.Groups.{group_text, texts_read, IsGroup}
use Rattle.eip_strategy.proofs.Checked.{checked_is}
use Rattle.eip_strategy.proofs.Groups.{IsGroup-one, IsGroup-more}
use Rattle.eip_strategy.proofs.Packed.{still_packed}

-- ---- the body of a result

with_body_is : (m n : Message) (r : Answer (List ℕ)) → with_body m r ≡ Ok n → r ≡ Ok n.body
with_body_is m n (Ok body) h =
    let same : record m { body = body } ≡ n = checked_is (nat_le (length body) 65536) 65536 (record m { body = body }) n refl h in
    ap (λ (k : Message). Ok k.body) same
with_body_is m n (Err f) h = absurd (cc)

ok_is : (a b : List ℕ) → ◌≡◌ {A = Answer (List ℕ)} (Ok a) (Ok b) → a ≡ b
ok_is a b e = cc

-- what was taken in may be taken in further
pub ready_first : (s : Strategy) (new m : Message) → added s None new ≡ Ok m → IsReadyBody s m.body
unfolding added
ready_first Original new m h = tt
ready_first Latest new m h = tt
ready_first (Joined d) new m h = tt
ready_first Grouped new m h =
    subst IsGroup (ok_is (group_text (new.body ∷ [])) m.body (with_body_is new m (Ok (group_text (new.body ∷ []))) h)) (IsGroup-one new.body)
ready_first Sum new m h = tt
ready_first Batch new m h = still_packed None new m h

pub ready_next : (s : Strategy) (old new m : Message) → added s (Some old) new ≡ Ok m → IsReadyBody s m.body
unfolding added
ready_next Original old new m h = tt
ready_next Latest old new m h = tt
ready_next (Joined d) old new m h = tt
ready_next Grouped old new m h =
    let body = group_text (texts_read old.body ++ new.body ∷ []) in
    subst IsGroup (ok_is body m.body (with_body_is old m (Ok body) h)) (IsGroup-more (texts_read old.body) new.body)
ready_next Sum old new m h = tt
ready_next Batch old new m h = still_packed (Some old) new m h

pub ready_after : (s : Strategy) (o : Option Message) (new m : Message) → added s o new ≡ Ok m → IsReady s (Some m)
ready_after s None new m h = ready_first s new m h
ready_after s (Some old) new m h = ready_next s old new m h

-- what is ready for a batch is one
pub batch_ready : (s : Strategy) (o : Option Message) → s ≡ Batch → IsReady s o → IsBatch o
batch_ready s None e h = tt
batch_ready s (Some old) e h = subst (λ x. IsReadyBody x old.body) e h

-- ---- folds

-- a fault stays to the end
fault_stays : (s : Strategy) (f : StrategyFault) (ms : List Message) → fold (added_to s) (Err f) ms ≡ Err f
fault_stays s f [] = refl
fault_stays s f (m ∷ ms) = fault_stays s f ms

-- one more message
fold_more : (s : Strategy) (o : Option Message) (new m : Message) (ms : List Message) (r : Answer (Option Message))
    → fold (added_to s) (Ok o) (new ∷ ms) ≡ r → added s o new ≡ Ok m → fold (added_to s) (Ok (Some m)) ms ≡ r
fold_more s o new m ms r h e = ap (λ (a : Answer Message). fold (added_to s) (as_some a) ms) (sym e) ∙ h

fold_fault : (s : Strategy) (o : Option Message) (new : Message) (f : StrategyFault) (ms : List Message) (r : Answer (Option Message))
    → fold (added_to s) (Ok o) (new ∷ ms) ≡ r → added s o new ≡ Err f → r ≡ Err f
fold_fault s o new f ms r h e = sym h ∙ ap (λ (a : Answer Message). fold (added_to s) (as_some a) ms) e ∙ fault_stays s f ms

-- the same at a place of the list
part_at : (parts : List Message) (i : ℕ) (part : Message) → i < length parts → part ≡ get_or parts i part → drop i parts ≡ part ∷ drop (i + 1) parts
part_at parts i part lt is = drop-cons parts i part lt ∙ ap₂ (λ (m : Message) (j : ℕ). m ∷ drop j parts) (sym is) (sym (add-one i))

pub next_part : (s : Strategy) (o : Option Message) (parts : List Message) (i : ℕ) (part m : Message) (r : Answer (Option Message)) → i < length parts → part ≡ get_or parts i part
    → fold (added_to s) (Ok o) (drop i parts) ≡ r → added s o part ≡ Ok m → fold (added_to s) (Ok (Some m)) (drop (i + 1) parts) ≡ r
next_part s o parts i part m r lt is h e =
    fold_more s o part m (drop (i + 1) parts) r (ap (fold (added_to s) (Ok o)) (sym (part_at parts i part lt is)) ∙ h) e

pub next_fault : (s : Strategy) (o : Option Message) (parts : List Message) (i : ℕ) (part : Message) (f : StrategyFault) (r : Answer (Option Message)) → i < length parts → part ≡ get_or parts i part
    → fold (added_to s) (Ok o) (drop i parts) ≡ r → added s o part ≡ Err f → r ≡ Err f
next_fault s o parts i part f r lt is h e =
    fold_fault s o part f (drop (i + 1) parts) r (ap (fold (added_to s) (Ok o)) (sym (part_at parts i part lt is)) ∙ h) e

-- behind the last place
pub all_parts : (s : Strategy) (o : Option Message) (parts : List Message) (i : ℕ) (r : Answer (Option Message)) → length parts ≤ i → fold (added_to s) (Ok o) (drop i parts) ≡ r → r ≡ Ok o
all_parts s o parts i r le h = sym h ∙ ap (fold (added_to s) (Ok o)) (drop_of_length-le parts le)

-- what was taken in stays
never_none : (s : Strategy) (a : Answer Message) (ms : List Message) → fold (added_to s) (as_some a) ms ≡ Ok None → ⊥
never_none s (Err f) ms h = let e : ◌≡◌ {A = Answer (Option Message)} (Err f) (Ok None) = sym (fault_stays s f ms) ∙ h in cc
never_none s (Ok m) [] h = cc
never_none s (Ok m) (n ∷ ns) h = never_none s (added s (Some m) n) ns h

pub none_of_none : (s : Strategy) (ms : List Message) (o : Option Message) → folded s ms ≡ Ok o → IsNone o ↔ (ms ≡ [])
unfolding folded
none_of_none s [] None h = (λ _. refl, λ _. refl)
none_of_none s [] (Some m) h = absurd (cc)
none_of_none s (m ∷ ms) None h = absurd (never_none s (added s None m) ms h)
none_of_none s (m ∷ ms) (Some n) h = (λ e. absurd (cc), λ e. absurd (cc))
