-- When the entries of an exchange may not come, and what makes one of them the entry that was judged.
use Rattle.std.proofs.Common.{◌≡◌, ◌≢◌, ℕ, ◌<◌, ◌⊎◌, Bool, true, false, ◌==◌, ◌||◌, nat_lt, List, length, [], ◌∷◌, Option, Some, None, is_some, refl, sym, ap, subst, ◌∙◌, inl, inr, eq-eqb, lt-ltb}
use Rattle.std.proofs.lemmas.Bool.{cases_Bool, and_from}
use Rattle.eip_route.specs.declared.route.RouteSet.{RouteSet}
use Rattle.eip_plan.specs.Plan.{plan_of}
use Rattle.eip_frames.specs.declared.answer.Answer.{Answer as Reply}
use Rattle.eip_frames.specs.declared.request.Request.{Request}
use Rattle.eip_frames.specs.Fits.{fits, is_outside}
use Rattle.eip_ledger.specs.declared.entry.Kind.TheVariants.{Start, Take, Answer, Starve}
use Rattle.eip_ledger.specs.declared.place.Place.{Place}
use Rattle.eip_ledger.specs.declared.place.Place.TheVariants as place_is
use Rattle.eip_ordered.specs.Numbered.{value_at}
use Rattle.eip_history.specs.Plan.{Plan}
use Rattle.eip_history.specs.Own.{Past, concerns}
use Rattle.eip_history.specs.Births.{asked}
use Rattle.eip_history.specs.Place.{place, place_of, waiting, busy, is_in, is_some_first, is_startable}
use Rattle.eip_history.specs.Rules.{May, MayAct, MayAnswer, IsBelow, first, outside_asked}
use Rattle.eip_history.specs.Tables.{put_in, without}
use Rattle.eip_history.proofs.AnswerFacts.{answers-to}
use Rattle.eip_history.proofs.Limit.{not-same}
use Rattle.eip_history.proofs.Unborn.{first-placed}
use Rattle.eip_tables.specs.declared.asking.Inner.{Inner}
use Rattle.eip_tables.specs.declared.asking.Inner.TheVariants.{Did, Outside}
use Rattle.eip_tables.specs.Outside.{is_among, with_number}
use Rattle.eip_tables.specs.Places.{inner_of}
use Rattle.eip_table_laws.proofs.HandCalls.{place-at}
use Rattle.eip_table_laws.proofs.QueueStarts.{queue-of-waiting}
use Rattle.eip_verdict.specs.Same.{same_reply}
use Rattle.eip_verdict.proofs.Deciding.{reply-same}
use Rattle.eip_verdict.proofs.OneAnswer.{one-answer}
use Rattle.eip_hub.specs.Ticket.{Ticket}
use Rattle.eip_hub.specs.View.{BooksView, Adds}
use Rattle.eip_audit.specs.Judging.{HandTold, HandsStand, is_answered}

-- an entry of one exchange is of no other
pub others-start : (q x y : ℕ) → y ≢ x → concerns y (Start q x) ≡ false
others-start q x y ne = not-same y x ne

pub others-take : (x y : ℕ) → y ≢ x → concerns y (Take x) ≡ false
others-take x y ne = not-same y x ne

pub others-answer : (x : ℕ) (a : Reply) (y : ℕ) → y ≢ x → concerns y (Answer x a) ≡ false
others-answer x a y ne = not-same y x ne

pub others-starve : (x y : ℕ) → y ≢ x → concerns y (Starve x) ≡ false
others-starve x y ne = not-same y x ne

-- ---- what a look tells

did-inner : (v : Bool) → Did ≡ inner_of v → v ≡ false
did-inner true h = absurd (cc h)
did-inner false h = refl

outside-asks : (v : Bool) → Outside ≡ inner_of v → v ≡ true
outside-asks true h = refl
outside-asks false h = absurd (cc h)

pub no-take : (i : Inner) (v : Bool) → i ≡ Did → i ≡ inner_of v → v ≡ true → ⊥
no-take i v d e h = let f = did-inner v (sym d ∙ e) in let g : true ≡ false = sym h ∙ f in cc g

-- a number that was looked at is among those known as Outside
among-put : (x : ℕ) (ys : List ℕ) → is_among x (put_in x ys) ≡ true
among-put x [] = rw (eq-eqb x x refl) refl
among-put x (y ∷ ys) = by_test (cases_Bool (nat_lt x y)) (among-put x ys)
  where
    by_test : (nat_lt x y ≡ true) ⊎ (nat_lt x y ≡ false) → is_among x (put_in x ys) ≡ true → is_among x (put_in x (y ∷ ys)) ≡ true
    by_test (inl t) later = rw (t, eq-eqb x x refl) refl
    by_test (inr f) later = rw f (by_head (y == x) later)
      where
        by_head : (v : Bool) → is_among x (put_in x ys) ≡ true → (v || is_among x (put_in x ys)) ≡ true
        by_head true h = refl
        by_head false h = h

pub among-with : (x : ℕ) (xs : List ℕ) → is_among x (with_number x xs) ≡ true
among-with x xs = among-put x (without x xs)

-- ---- tickets

pub ticket-told : (s : Plan) (past : Past) (tickets : List (ℕ × Ticket)) (x : ℕ) (t : Ticket) → HandsStand s past tickets → Some t ≡ value_at tickets x → HandTold s past x (Some t)
ticket-told s past tickets x t h e = subst (HandTold s past x) (sym e) (h x)

pub free-told : (s : Plan) (past : Past) (tickets : List (ℕ × Ticket)) (x : ℕ) → HandsStand s past tickets → is_some (value_at tickets x) ≡ false → HandTold s past x None
free-told s past tickets x h e = by_ticket (value_at tickets x) e (h x)
  where
    by_ticket : (o : Option Ticket) → is_some o ≡ false → HandTold s past x o → HandTold s past x None
    by_ticket None f told = told
    by_ticket (Some t) f told = absurd (cc f)

pub free-none : (tickets : List (ℕ × Ticket)) (x : ℕ) → is_some (value_at tickets x) ≡ false → value_at tickets x ≡ None
free-none tickets x e = by_ticket (value_at tickets x) refl e
  where
    by_ticket : (o : Option Ticket) → value_at tickets x ≡ o → is_some o ≡ false → value_at tickets x ≡ None
    by_ticket None same f = same
    by_ticket (Some t) same f = absurd (cc f)

-- who waits in a queue is in nobody's hand
pub waits-out : (s : Plan) (past : Past) (q x w : ℕ) → first (waiting s past q) ≡ Some x → place s past x ≡ Some (place_is.InHand w) → ⊥
waits-out s past q x w h there =
    let b = first-placed s past (is_in q) x h in
    let at : place s past x ≡ Some (place_of s past b.0) = place-at s past x b.0 (place_of s past b.0) b.1 refl in
    let both : Some (place_of s past b.0) ≡ Some (place_is.InHand w) = sym at ∙ there in
    let same : place_of s past b.0 ≡ place_is.InHand w = cc in
    let g : is_in q (place_is.InHand w) ≡ true = subst (λ (p : Place). is_in q p ≡ true) same b.2 in
    cc g

-- ---- answers

-- a ticket's holder answers, and nobody else
pub answered-by : (s : Plan) (limit : ℕ) (past : Past) (x w : ℕ) (a : Reply) (t : Ticket) → HandTold s past x (Some t) → MayAnswer s limit past w x a
    → (w ≡ t.worker) × (fits t.request a ≡ true)
answered-by s limit past x w a t told may = (by_outside (is_outside may.asks.request) may.act, fitting)
  where
    by_outside : (v : Bool) → MayAct s limit past w x v → w ≡ t.worker
    by_outside true h = let both : Some (place_is.InHand w) ≡ Some (place_is.InHand t.worker) = sym h ∙ told.1 in cc both
    by_outside false h = absurd (let both : Some place_is.Ready ≡ Some (place_is.InHand t.worker) = sym h.0 ∙ told.1 in cc both)

    fitting : fits t.request a ≡ true
    fitting = let f = answers-to s limit past w x a told.2.0 may told.2.1.0 in subst (λ (q : Request). fits q a ≡ true) told.2.1.1 f.fitting

-- whom nobody has in hand the run itself answers
pub acts-inner : (s : Plan) (limit : ℕ) (past : Past) (x w : ℕ) (a : Reply) → HandTold s past x None → MayAnswer s limit past w x a
    → (place s past x ≡ Some place_is.Ready) × IsBelow s limit past × (outside_asked (asked s past x) ≡ false)
acts-inner s limit past x w a told may = by_outside (is_outside may.asks.request) refl may.act
  where
    by_outside : (v : Bool) → is_outside may.asks.request ≡ v → MayAct s limit past w x v
        → (place s past x ≡ Some place_is.Ready) × IsBelow s limit past × (outside_asked (asked s past x) ≡ false)
    by_outside true e h = absurd (told w h)
    by_outside false e h = (h.0, h.1, ap outside_asked may.asked_is ∙ e)

pub no-inner : (i : Inner) (v : Bool) → i ≡ Outside → i ≡ inner_of v → v ≡ false → ⊥
no-inner i v d e h = let f = outside-asks v (sym d ∙ e) in let g : false ≡ true = sym h ∙ f in cc g

-- what the run answers is the one answer that may come
pub answered-one : (s : Plan) (limit : ℕ) (past : Past) (x v w : ℕ) (a b : Reply) → outside_asked (asked s past x) ≡ false → MayAnswer s limit past v x a → MayAnswer s limit past w x b → a ≡ b
answered-one s limit past x v w a b o m n =
    one-answer s limit v w past x m.asks a b m.asked_is (sym (ap outside_asked m.asked_is) ∙ o) m n

pub same-made : (a b : Reply) → a ≡ b → same_reply a b ≡ true
same-made a b e = subst (λ (c : Reply). same_reply a c ≡ true) e (reply-same a)

-- ---- starts

-- a start that may come is from a queue of the set
pub queue-within : (set : RouteSet) (past : Past) (q x : ℕ) → first (waiting (plan_of set) past q) ≡ Some x → q < length set.routes
unfolding plan_of
queue-within set past q x h = (queue-of-waiting set past q x h).0

-- and this queue is startable
pub start-startable : (s : Plan) (limit : ℕ) (past : Past) (w q x : ℕ) → May s limit past w (Start q x) → is_startable s past q ≡ true
start-startable s limit past w q x may =
    and_from (is_some_first (waiting s past q)) (nat_lt (busy s past q) (s.queue q).consumers) (somebody (waiting s past q) may.0)
    (lt-ltb (busy s past q) (s.queue q).consumers may.1)
  where
    somebody : (xs : List ℕ) → first xs ≡ Some x → is_some_first xs ≡ true
    somebody [] h = absurd (cc h)
    somebody (y ∷ ys) h = refl

-- only the first may start
pub one-start : (s : Plan) (limit : ℕ) (past : Past) (w q x y : ℕ) → May s limit past w (Start q x) → May s limit past w (Start q y) → x ≡ y
one-start s limit past w q x y a b = let both : Some x ≡ Some y = sym a.0 ∙ b.0 in cc both

-- the newest entry is the answer that was judged where it is this one
pub answer-told : (a b : BooksView) (w x : ℕ) (made : Reply) (given : Reply) → Adds a b w (Answer x made) → is_answered given b.journal.past ≡ same_reply made given
answer-told a b w x made given adds = ap (is_answered given) adds.past

-- who is starved is in this worker's hand, or in nobody's
pub starved-by : (s : Plan) (past : Past) (x w : ℕ) (t : Ticket) → HandTold s past x (Some t) → ((place s past x ≡ Some place_is.Ready) ⊎ (place s past x ≡ Some (place_is.InHand w))) → t.worker ≡ w
starved-by s past x w t told (inl ready) = absurd (let both : Some place_is.Ready ≡ Some (place_is.InHand t.worker) = sym ready ∙ told.1 in cc both)
starved-by s past x w t told (inr held) = let both : Some (place_is.InHand t.worker) ≡ Some (place_is.InHand w) = sym told.1 ∙ held in cc both

pub starved-ready : (s : Plan) (past : Past) (x w : ℕ) → HandTold s past x None → ((place s past x ≡ Some place_is.Ready) ⊎ (place s past x ≡ Some (place_is.InHand w))) → place s past x ≡ Some place_is.Ready
starved-ready s past x w told (inl ready) = ready
starved-ready s past x w told (inr held) = absurd (told w held)
