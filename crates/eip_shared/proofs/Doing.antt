-- What one entry does to a run that is shared, and one thing after another.
use Rattle.std.proofs.Common.{◌≡◌, ℕ, suc, ◌+◌, ◌-◌, ◌≤◌, List, [], ◌∷◌, ◌++◌, length, length-append, take, drop, refl, sym, ap, subst, ◌∙◌, arith, append_assoc}
use Rattle.std.proofs.lemmas.List.{length-take-le, take-append-drop}
use Rattle.eip_ledger.specs.declared.entry.Kind.{Kind}
use Rattle.eip_history.specs.Own.{Past}
use Rattle.eip_history.specs.Owner.{Outlets, outlet_in, IsOwner}
use Rattle.eip_history.specs.Plan.{Plan}
use Rattle.eip_hub.specs.View.{BooksView, plan, Adds, AddsNone}
use Rattle.eip_plan.specs.Plan.{plan_of}
use Rattle.eip_outlets.specs.Outlets.{outlets}
use Rattle.eip_owners.specs.Owners.{IsOwnedBehind}
use Rattle.eip_shared.specs.Deeds.{deed, deeds, done_by, past_of}
use Rattle.eip_shared.specs.Shared.{SharedView, SharedFacts, Does, Makes, Part, before, since, log, beginning}
use Rattle.eip_shared.specs.Looks.{LooksIn, Looks}
use Rattle.eip_shared.specs.declared.deed.Deed.{Deed}
use Rattle.eip_shared.specs.declared.looks.Look.{Look}
use Rattle.eip_shared.proofs.Logs.{deeds-append, deeds-length, done-append, past-deeds, part-entries, part-answers}

-- ---- owned entries and then more

pub owned-append : (s : Plan) (o : Outlets) (workers : ℕ) (past behind more : Past) → IsOwnedBehind s o workers past behind
    → IsOwnedBehind s o workers (behind ++ past) more → IsOwnedBehind s o workers past (more ++ behind)
unfolding IsOwnedBehind
owned-append s o workers past behind [] owned then = owned
owned-append s o workers past behind (e ∷ more) owned then = (
  owned-append s o workers past behind more owned then.0,
  subst (λ es. IsOwner workers e.worker (outlet_in s o es e.kind)) (sym (append_assoc more behind past)) then.1,
)

-- ---- a run

pub does-none : (old new : BooksView) (w : ℕ) → AddsNone old new → Does old new w []
unfolding deeds IsOwnedBehind
does-none old new w none = record { same = none.same; behind = []; past = none.past; done = refl; owned = tt }

pub does-one : (old new : BooksView) (w : ℕ) (k : Kind) → Adds old new w k
    → IsOwner old.journal.workers w (outlet_in (plan old) (outlets old.set) old.journal.past k) → Does old new w (deed (plan old) old.journal.past k ∷ [])
unfolding deeds IsOwnedBehind
does-one old new w k adds own =
    record { same = adds.same; behind = record { worker = w; kind = k } ∷ []; past = adds.past; done = refl; owned = (tt, own) }

-- one thing after another
pub does-both : (old mid new : BooksView) (w : ℕ) (ds es : List Deed) → Does old mid w ds → Does mid new w es → Does old new w (ds ++ es)
does-both old mid new w ds es one two = record {
  same = record { set = two.same.set ∙ one.same.set; workers = two.same.workers ∙ one.same.workers; turns = two.same.turns ∙ one.same.turns };
  behind = two.behind ++ one.behind;
  past = two.past ∙ (ap (λ p. two.behind ++ p) one.past ∙ sym (append_assoc two.behind one.behind old.journal.past));
  done =
      deeds-append (plan old) old.journal.past one.behind two.behind
      ∙ (ap (λ xs. xs ++ deeds (plan old) (one.behind ++ old.journal.past) two.behind) one.done
      ∙ (ap (λ xs. done_by w ds ++ xs)
      (ap (λ set. deeds (plan_of set) (one.behind ++ old.journal.past) two.behind) (sym one.same.set)
      ∙ (ap (λ p. deeds (plan mid) p two.behind) (sym one.past) ∙ two.done))
      ∙ sym (done-append w ds es)));
  owned =
      owned-append (plan old) (outlets old.set) old.journal.workers old.journal.past one.behind two.behind one.owned
      (rw (one.same.set, one.same.workers, one.past) at two.owned);
}

-- ---- a run that is shared

front : (began : ℕ) (behind past : Past) → began ≤ length past → length (behind ++ past) - began ≡ length behind + (length past - began)
front began behind past within = omega (arith, within, length-append behind past)

take-front : (n : ℕ) (xs ys : Past) → take (length xs + n) (xs ++ ys) ≡ xs ++ take n ys
take-front n [] ys = let z : 0 + n ≡ n = omega arith in rw z refl
take-front n (x ∷ xs) ys = let z : length (x ∷ xs) + n ≡ suc (length xs + n) = omega arith in rw z (ap (λ es. x ∷ es) (take-front n xs ys))

drop-front : (n : ℕ) (xs ys : Past) → drop (length xs + n) (xs ++ ys) ≡ drop n ys
drop-front n [] ys = let z : 0 + n ≡ n = omega arith in rw z refl
drop-front n (x ∷ xs) ys = let z : length (x ∷ xs) + n ≡ suc (length xs + n) = omega arith in rw z (drop-front n xs ys)

pub since-more : (old new : SharedView) (behind : Past) → SharedFacts old → new.began ≡ old.began → new.hub.journal.past ≡ behind ++ old.hub.journal.past
    → since new ≡ behind ++ since old
since-more old new behind facts began past =
    rw (past, began, front old.began behind old.hub.journal.past facts.within)
    (take-front (length old.hub.journal.past - old.began) behind old.hub.journal.past)

pub before-more : (old new : SharedView) (behind : Past) → SharedFacts old → new.began ≡ old.began → new.hub.journal.past ≡ behind ++ old.hub.journal.past
    → before new ≡ before old
before-more old new behind facts began past =
    rw (past, began, front old.began behind old.hub.journal.past facts.within)
    (drop-front (length old.hub.journal.past - old.began) behind old.hub.journal.past)

-- what was done since and what was before are the whole journal
pub since-before : (v : SharedView) → since v ++ before v ≡ v.hub.journal.past
since-before v = take-append-drop (length v.hub.journal.past - v.began) v.hub.journal.past

pub shared-does : (old new : SharedView) (w : ℕ) (ds : List Deed) → SharedFacts old → new.began ≡ old.began → Does old.hub new.hub w ds → SharedFacts new
shared-does old new w ds facts began does =
    let since_is : since new ≡ does.behind ++ since old = since-more old new does.behind facts began does.past in
    let before_is : before new ≡ before old = before-more old new does.behind facts began does.past in
    record {
      within = let e = ap length does.past in omega (arith, began, facts.within, e, length-append does.behind old.hub.journal.past);
      owned =
          rw (does.same.set, does.same.workers, since_is, before_is)
          (owned-append (plan old.hub) (outlets old.hub.set) old.hub.journal.workers (before old) (since old) does.behind facts.owned
          (rw (since-before old) does.owned));
    }

pub makes-does : (old new : SharedView) (w : ℕ) (ds : List Deed) → SharedFacts old → new.began ≡ old.began → Does old.hub new.hub w ds → Makes old new w ds
makes-does old new w ds facts began does =
    let since_is : since new ≡ does.behind ++ since old = since-more old new does.behind facts began does.past in
    let before_is : before new ≡ before old = before-more old new does.behind facts began does.past in
    record {
      log =
          rw (does.same.set, since_is, before_is)
          (deeds-append (plan old.hub) (before old) (since old) does.behind
          ∙ ap (λ xs. log old ++ xs) (ap (λ p. deeds (plan old.hub) p does.behind) (since-before old) ∙ does.done));
      beginning = rw (does.same.set, does.same.workers, does.same.turns, before_is) refl;
    }

pub looks-in : (old new : SharedView) (w : ℕ) (what : Look) → SharedFacts old → new.began ≡ old.began → LooksIn old.hub new.hub w what → Looks old new w what
looks-in old new w what facts began looks = (looks.0, makes-does old new w looks.0 facts began looks.1, looks.2, looks.3, looks.4)

-- ---- its list

pub log-length : (v : SharedView) → SharedFacts v → length (log v) ≡ length v.hub.journal.past - v.began
log-length v facts =
    deeds-length (plan v.hub) (before v) (since v)
    ∙ length-take-le (length v.hub.journal.past - v.began) v.hub.journal.past (omega arith)

pub part-of : (v : SharedView) (w : ℕ) → Part v w
part-of v w = record { entries = part-entries (plan v.hub) (before v) (since v) w; answers = part-answers (plan v.hub) (before v) (since v) w }

-- the journal is what was done since, behind what there was
pub whole-past : (v : SharedView) → v.hub.journal.past ≡ past_of (log v) ++ (beginning v).past
whole-past v = sym (since-before v) ∙ ap (λ es. es ++ before v) (sym (past-deeds (plan v.hub) (before v) (since v)))

-- ---- a run that begins to be shared

pub begun-facts : (v : BooksView) (n : ℕ) → n ≡ length v.journal.past → SharedFacts (record { hub = v; began = n })
unfolding IsOwnedBehind
begun-facts v n e = record { within = omega (arith, e); owned = let z : length v.journal.past - n ≡ 0 = omega (arith, e) in rw z tt }

pub begun-log : (v : BooksView) (n : ℕ) → n ≡ length v.journal.past → log (record { hub = v; began = n }) ≡ []
unfolding deeds
begun-log v n e = let z : length v.journal.past - n ≡ 0 = omega (arith, e) in rw z refl
