-- What a look does to the hub, by what the calls of the hub say.
use Rattle.std.proofs.Common.{◌≡◌, ℕ, suc, ◌+◌, Bool, true, false, cond, is_some, List, [], ◌∷◌, ◌++◌, Option, Some, None, filter, map, Result, Ok, Err, IfOk, IfSome, IfNone, OnErr, is_err, refl, sym, ap, subst, ◌∙◌, inl, inr, arith, eq-eqb}
use Rattle.std.specs.Prelude.{◌⊎◌, not}
use Rattle.std.specs.List.{AllByRecursion, slice_get}
use Rattle.std.proofs.lemmas.Bool.{cases_Bool}
use Rattle.eip_text.specs.declared.memory.NoMemory.{NoMemory}
use Rattle.eip_exchange.specs.declared.birth.Birth.{Birth}
use Rattle.eip_frames.specs.declared.answer.Answer.{Answer as Reply}
use Rattle.eip_frames.specs.declared.request.Request.{Request}
use Rattle.eip_frames.specs.declared.request.Request.TheVariants as request
use Rattle.eip_ledger.specs.declared.entry.Entry.{Entry}
use Rattle.eip_ledger.specs.declared.entry.Kind.{Kind}
use Rattle.eip_ledger.specs.declared.entry.Kind.TheVariants.{Answer, Pull, Start, Take}
use Rattle.eip_ledger.specs.declared.place.Place.{Place}
use Rattle.eip_ledger.specs.declared.place.Place.TheVariants.{Ready}
use Rattle.eip_history.specs.Births.{Asked, asked, asked_by, asked_of, births}
use Rattle.eip_history.specs.Own.{Past, Out, source_state, numbered}
use Rattle.eip_history.specs.Owner.{Outlets, owner, outlet_by, outlet_for, outlet_in, IsOwner}
use Rattle.eip_history.specs.Place.{is_ready, number_of, numbers_at, place, place_of, ready_numbers}
use Rattle.eip_history.specs.Plan.{Plan}
use Rattle.eip_history.specs.Rules.{IsSource, first, outside_asked}
use Rattle.eip_history.proofs.Moves.{fate-unanswered}
use Rattle.eip_history.specs.Tables.{AreNumberedFrom}
use Rattle.eip_history.proofs.Told.{births-numbered}
use Rattle.eip_history.proofs.Unborn.{birth-stays, place-born}
use Rattle.eip_tables.specs.Outside.{is_among, unlooked_numbers}
use Rattle.eip_tables.specs.Places.{inner_of}
use Rattle.eip_tables.specs.declared.asking.Inner.{Inner}
use Rattle.eip_tables.specs.declared.asking.Inner.TheVariants as inner
use Rattle.eip_hub.specs.View.{BooksView, plan, Adds, AddsAnswer, AddsNone, StartsFirst}
use Rattle.eip_outlets.specs.Outlets.{outlets}
use Rattle.eip_shared.specs.Deeds.{IsInner, begins, deed, given_to, is_from_outside}
use Rattle.eip_shared.specs.Shared.{IsPulled}
use Rattle.eip_shared.specs.Looks.{LooksIn}
use Rattle.eip_shared.specs.declared.deed.Deed.{Deed}
use Rattle.eip_shared.specs.declared.looks.Look.{Look}
use Rattle.eip_shared.specs.declared.looks.Look.TheVariants.{Did}
use Rattle.eip_shared.proofs.Doing.{does-none, does-one, does-both}
use Rattle.eip_shared.proofs.Logs.{left-append}

pub none-same : (v : BooksView) → AddsNone v v
none-same v = record { same = record { set = refl; workers = refl; turns = refl }; past = refl }

-- one entry for which nobody outside was needed
pub looks-did : (old new : BooksView) (w : ℕ) (k : Kind) → Adds old new w k
    → IsOwner old.journal.workers w (outlet_in (plan old) (outlets old.set) old.journal.past k) → IsInner (deed (plan old) old.journal.past k)
    → begins k ≡ false → LooksIn old new w Did
looks-did old new w k adds own inside alone = (deed (plan old) old.journal.past k ∷ [], does-one old new w k adds own, (inside, tt), tt, rw alone refl)

-- a look behind a call that made no entry
pub looks-behind : (old mid new : BooksView) (w : ℕ) (what : Look) → AddsNone old mid → LooksIn mid new w what → LooksIn old new w what
looks-behind old mid new w what none looks = (looks.0, does-both old mid new w [] looks.0 (does-none old mid w none) looks.1, looks.2, looks.3, looks.4)

inner-both : (ds es : List Deed) → AllByRecursion IsInner ds → AllByRecursion IsInner es → AllByRecursion IsInner (ds ++ es)
inner-both [] es one two = two
inner-both (d ∷ ds) es one two = (one.0, inner-both ds es one.1 two)

-- a look behind one that did something
pub looks-on : (old mid new : BooksView) (w : ℕ) (what : Look) → LooksIn old mid w Did → LooksIn mid new w what → LooksIn old new w what
looks-on old mid new w what one two = (
  one.0 ++ two.0,
  does-both old mid new w one.0 two.0 one.1 two.1,
  inner-both one.0 two.0 one.2 two.2,
  two.3,
  left-append one.0 two.0 one.4 ∙ two.4,
)

-- a look that did nothing so far
pub looks-nothing : (v : BooksView) (w : ℕ) → LooksIn v v w Did
looks-nothing v w = ([], does-none v v w (none-same v), tt, tt, refl)

-- ---- what a Ready exchange asks for where nobody outside is needed

inner-own : (o : Outlets) (workers w : ℕ) (k : Option Asked) → outside_asked k ≡ false → IsOwner workers w (outlet_by o k)
inner-own o workers w None h = tt
inner-own o workers w (Some k) h = by_request k.request h
  where
    by_request : (q : Request) → outside_asked (Some (record k { request = q })) ≡ false → IsOwner workers w (outlet_by o (Some (record k { request = q })))
    by_request (request.Send t m) g = absurd (cc g)
    by_request (request.Finish e m true) g = absurd (cc g)
    by_request (request.Finish e m false) g = tt
    by_request _ g = tt

inner-given : (k : Option Asked) (a : Reply) → outside_asked k ≡ false → is_from_outside (given_to k a) ≡ false
inner-given None a h = refl
inner-given (Some k) a h = h

did-inside : (b : Bool) → inner.Did ≡ inner_of b → b ≡ false
did-inside true h = absurd (cc h)
did-inside false h = refl

pub looks-inner : (old new : BooksView) (w x : ℕ) (r : Result Inner NoMemory) → is_err r ≡ false → IfOk r (λ i. i ≡ inner.Did → AddsAnswer old new w x)
    → IfOk r (λ i. i ≡ inner.Outside → AddsNone old new) → IfOk r (λ i. i ≡ inner_of (outside_asked (asked (plan old) old.journal.past x)))
    → LooksIn old new w Did
looks-inner old new w x (Err f) h did out exact = absurd (cc h)
looks-inner old new w x (Ok inner.Did) h did out exact =
    let adds = did refl in
    let inside = did-inside (outside_asked (asked (plan old) old.journal.past x)) exact in
    looks-did old new w (Answer x adds.0) adds.1
    (inner-own (outlets old.set) old.journal.workers w (asked (plan old) old.journal.past x) inside)
    (refl, inner-given (asked (plan old) old.journal.past x) adds.0 inside) refl
looks-inner old new w x (Ok inner.Outside) h did out exact = ([], does-none old new w (out refl), tt, tt, refl)

pub refused : {A E P : Type 0} → (r : Result A E) → OnErr r P → is_err r ≡ true → P
refused (Ok x) p h = absurd (cc h)
refused (Err f) p h = p

-- ---- who is looked at is Ready

ready-is : (p : Place) → is_ready p ≡ true → p ≡ Ready
ready-is Ready h = refl
ready-is _ h = absurd (cc h)

-- a birth of these, which are numbered from n on, has this number and passes the test
abbrev Among : (Birth → Bool) → ℕ → List Birth → ℕ → Type 0
Among p n bs x = (i : ℕ) × (b : Birth) × (slice_get bs i ≡ Some b) × (x ≡ n + i) × (p b ≡ true)

among-behind : (p : Birth → Bool) (n : ℕ) (c : Birth) (bs : List Birth) (x : ℕ) → Among p (n + 1) bs x → Among p n (c ∷ bs) x
among-behind p n c bs x r = (suc r.0, r.1, r.2, omega (arith, r.3), r.4)

among-here : (p : Birth → Bool) (q : ℕ → Bool) (n : ℕ) (c : Birth) (bs : List Birth) (x : ℕ) → c.number ≡ n → p c ≡ true
    → first (filter q (number_of c ∷ map number_of (filter p bs))) ≡ Some x
    → (first (filter q (map number_of (filter p bs))) ≡ Some x → Among p (n + 1) bs x) → Among p n (c ∷ bs) x
among-here p q n c bs x numbered t h later = by_test (cases_Bool (q (number_of c)))
  where
    by_test : (q (number_of c) ≡ true) ⊎ (q (number_of c) ≡ false) → Among p n (c ∷ bs) x
    by_test (inl y) =
        let k : Some (number_of c) ≡ Some x = rw y at h in
        let e : c.number ≡ x = cc in
        (0, c, refl, omega (arith, numbered, e), t)
    by_test (inr f) = among-behind p n c bs x (later (rw f at h))

first-among : (p : Birth → Bool) (q : ℕ → Bool) (n : ℕ) (bs : List Birth) (x : ℕ) → AreNumberedFrom n bs → first (filter q (map number_of (filter p bs))) ≡ Some x
    → Among p n bs x
first-among p q n [] x ns h = absurd (cc h)
first-among p q n (c ∷ bs) x ns h = by_test (cases_Bool (p c)) (first-among p q (n + 1) bs x ns.1)
  where
    by_test : (p c ≡ true) ⊎ (p c ≡ false) → (first (filter q (map number_of (filter p bs))) ≡ Some x → Among p (n + 1) bs x) → Among p n (c ∷ bs) x
    by_test (inl t) later = among-here p q n c bs x ns.0 t (rw t at h) later
    by_test (inr f) later = among-behind p n c bs x (later (rw f at h))

pub unlooked-ready : (s : Plan) (past : Past) (outside : List ℕ) (x : ℕ) → first (unlooked_numbers outside (ready_numbers s past)) ≡ Some x
    → place s past x ≡ Some Ready
unfolding numbers_at place
unlooked-ready s past outside x h =
    let r = first-among (λ (b : Birth). is_ready (place_of s past b)) (λ n. not (is_among n outside)) 1 (births s past) x (births-numbered s past) h in
    let n : x ≡ suc r.0 = omega (arith, r.3) in
    let at : numbered (births s past) (suc r.0) ≡ Some r.1 = r.2 in
    rw (n, at, ready-is (place_of s past r.1) r.4) refl

-- ---- what a Take and a Pull leave

-- who was taken asks what it asked before
pub asked-taken : (s : Plan) (past : Past) (w x : ℕ) → place s past x ≡ Some Ready
    → asked s ((record { worker = w; kind = Take x }) ∷ past) x ≡ asked s past x
asked-taken s past w x ready =
    let e : Entry = record { worker = w; kind = Take x } in
    let born = place-born s past x Ready ready in
    let there : numbered (births s (e ∷ past)) x ≡ Some born.0 = birth-stays s e past x born.0 born.1 in
    ap (asked_of s (e ∷ past)) there
    ∙ (ap (asked_by born.0) (fate-unanswered s e past born.0 refl refl) ∙ ap (asked_of s past) (sym born.1))

pub pulled-out : (past : Past) (w t : ℕ) → source_state t ((record { worker = w; kind = Pull t }) ∷ past) ≡ Out w
unfolding source_state
pulled-out past w t = ap (λ b. cond b (Out w) (source_state t past)) (eq-eqb t t refl)

-- the owner's lane or inlet is still the owner's
pub owned-now : (old new : BooksView) (w x : ℕ) (k : Asked) → Adds old new w (Take x) → place (plan old) old.journal.past x ≡ Some Ready
    → asked (plan new) new.journal.past x ≡ Some k → IsOwner old.journal.workers w (outlet_by (outlets old.set) (asked (plan old) old.journal.past x))
    → IsOwner new.journal.workers w (outlet_for (outlets new.set) k.birth k.request)
owned-now old new w x k adds ready asks own =
    let now : asked (plan old) ((record { worker = w; kind = Take x }) ∷ old.journal.past) x ≡ Some k = rw (adds.same.set, adds.past) at asks in
    let was : asked (plan old) old.journal.past x ≡ Some k = sym (asked-taken (plan old) old.journal.past w x ready) ∙ now in
    rw (adds.same.set, adds.same.workers) (subst (λ (q : Option Asked). IsOwner old.journal.workers w (outlet_by (outlets old.set) q)) was own)

-- whose source is pulled now
pub pulled-now : (old new : BooksView) (w t : ℕ) → Adds old new w (Pull t) → IsSource (plan old) t → w ≡ owner old.journal.workers ((outlets old.set).inlet t)
    → IsPulled (plan new) (outlets new.set) new.journal.workers new.journal.past w t
pulled-now old new w t adds source own = record {
  source = rw adds.same.set source;
  out = rw adds.past (pulled-out old.journal.past w t);
  own = rw (adds.same.set, adds.same.workers) own;
}

pub looks-started : (old new : BooksView) (w : ℕ) (o : Option ℕ) → IfSome o (λ x. StartsFirst old new w x) → is_some o ≡ true → LooksIn old new w Did
looks-started old new w None starts h = absurd (cc h)
looks-started old new w (Some x) starts h = looks-did old new w (Start starts.queue x) starts.adds tt (refl, refl) refl

pub none-given : {A P : Type 0} → (o : Option A) → IfNone o P → is_some o ≡ false → P
none-given None p h = p
none-given (Some x) p h = absurd (cc h)
