-- Where an exchange stands by its row, and what an entry of another one leaves of it.
use Rattle.std.proofs.Common.{◌≡◌, ℕ, zero, suc, ◌+◌, ◌≤◌, ◌||◌, Bool, true, false, not, List, [], ◌∷◌, ◌++◌, length, reverse, Option, Some, None, refl, sym, ap, subst, ◌∙◌, arith}
use Rattle.std.specs.List.{slice_get}
use Rattle.std.proofs.lemmas.List.{append-nil, reverse-append, length-reverse}
use Rattle.eip_exchange.specs.declared.birth.Birth.{Birth}
use Rattle.eip_exchange.specs.declared.birth.Origin.{Origin}
use Rattle.eip_exchange.specs.declared.birth.Origin.TheVariants as from
use Rattle.eip_exchange.specs.declared.message.Message.{Message}
use Rattle.eip_exchange.specs.declared.end.Fault.{Fault}
use Rattle.eip_route.specs.declared.route.RouteSet.{RouteSet}
use Rattle.eip_frames.specs.declared.request.At.{At}
use Rattle.eip_frames.specs.declared.request.Request.{Request}
use Rattle.eip_frames.specs.declared.answer.Answer.{Answer as Reply}
use Rattle.eip_frames.specs.Fate.{Fate, AsksNext, Ends, Strays}
use Rattle.eip_ledger.specs.declared.entry.Entry.{Entry}
use Rattle.eip_ledger.specs.declared.place.Place.{Place}
use Rattle.eip_ledger.specs.declared.place.Place.TheVariants as place_is
use Rattle.eip_meaning.specs.Meaning.{mean}
use Rattle.eip_progress.specs.declared.cursor.Cursor.{Cursor}
use Rattle.eip_progress.specs.Rest.{rest}
use Rattle.eip_history.specs.Plan.{Plan}
use Rattle.eip_history.specs.Own.{Past, own, concerns, answers, starved, started, taker, last_answer, clock, turns}
use Rattle.eip_history.specs.Births.{fate}
use Rattle.eip_history.specs.Place.{place_of, place_by, pause_of, paused, Runs, end_of, in_hand, queued, is_ready, is_held, is_ended, is_taken, all_ended}
use Rattle.eip_history.specs.Rules.{KeepsRules}
use Rattle.eip_meaning.proofs.Laws.{starts}
use Rattle.eip_history.proofs.Limit.{turns-more}
use Rattle.eip_history.proofs.Unborn.{slice-right}
use Rattle.eip_history.proofs.Told.{own-other}
use Rattle.eip_history.proofs.Places.{fate-other}
use Rattle.eip_history.proofs.Final.{joined-keeps}
use Rattle.eip_history.proofs.Acting.{paused-ready, clock-grows}
use Rattle.eip_plan.specs.Plan.{plan_of}
use Rattle.eip_tables.specs.State.{State, state_of}
use Rattle.eip_tables.specs.State as state
use Rattle.eip_tables.specs.declared.row.Born.{Born}
use Rattle.eip_tables.specs.declared.row.Born.TheVariants as made
use Rattle.eip_tables.specs.Row.{Row}
use Rattle.eip_tables.specs.Rows.{entry_at, IsBornAt, ComesFrom, Keeps, has_left, pause_place, Follows, IsAsking, HasAnswer, StateStands, RowStands, closed_end, row_ready, row_held, row_live, state_ready, state_held, state_live}

-- the meaning of a set is that of its plan
pub plan-mean : (set : RouteSet) (b : Birth) (given : List Reply) → (plan_of set).mean b given ≡ mean set b given
unfolding plan_of
plan-mean set b given = refl

-- the fate of an exchange that isn't starved is its meaning
pub fate-fed : (set : RouteSet) (past : Past) (b : Birth) → starved (own b.number past) ≡ false → fate (plan_of set) past b ≡ mean set b (answers (own b.number past))
unfolding fate plan_of
fate-fed set past b h = rw h refl

-- what a cursor gives at once is the fate
pub fate-follows : (set : RouteSet) (past : Past) (b : Birth) (c : Cursor) (more : List Reply) (t : Option ℕ) (p : Place) → Follows set past b c more t p → fate (plan_of set) past b ≡ rest set c more
fate-follows set past b c more t p f =
    let e = f.rests [] in
    fate-fed set past b f.fed ∙ sym (rw (append-nil more, append-nil (answers (own b.number past))) at e)

pub fate-asks : (set : RouteSet) (past : Past) (b : Birth) (c : Cursor) (q : Request) (t : Option ℕ) (a : IsAsking set past b c q t) → fate (plan_of set) past b ≡ AsksNext q a.at
fate-asks set past b c q t a = fate-follows set past b c [] t place_is.Ready a.follows ∙ a.asks

-- who has left its queue stands where it would stand without one
left-queued : (o : Origin) (v : Bool) (p : Place) → has_left o v ≡ true → queued o v p ≡ p
left-queued (from.Queue q) true p h = refl
left-queued (from.Queue q) false p h = absurd (cc h)
left-queued (from.Source r i) v p h = refl
left-queued (from.Part x i) v p h = refl
left-queued (from.Group g) v p h = refl

-- and has left it behind each later entry
pub left-more : (o : Origin) (w v : Bool) → has_left o v ≡ true → has_left o (w || v) ≡ true
left-more (from.Queue q) true v h = refl
left-more (from.Queue q) false v h = h
left-more (from.Source r i) w v h = refl
left-more (from.Part x i) w v h = refl
left-more (from.Group g) w v h = refl

place-by-pause : (now : ℕ) (all : ℕ → ℕ → Bool) (b : Birth) (o : Past) (f : Fate) (t : Option ℕ) (p : Place) → has_left b.origin (started o) ≡ true → end_of f ≡ None → taker o ≡ t → paused now all (pause_of (last_answer o)) ≡ p
    → place_by now all b o f ≡ in_hand t p
place-by-pause now all b o (Ends e m) t p left live taken pause = absurd (cc live)
place-by-pause now all b o (AsksNext q at) t p left live taken pause = left-queued b.origin (started o) _ left ∙ rw (taken, pause) refl
place-by-pause now all b o Strays t p left live taken pause = left-queued b.origin (started o) _ left ∙ rw (taken, pause) refl

pub born-origin : (s : Plan) (past : Past) (i : ℕ) (b : Birth) (h : IsBornAt s past i b) → b.origin ≡ from.Source h.source h.item
born-origin s past i b h = ap (λ (d : Birth). d.origin) h.birth

-- a live exchange that has left its queue is in hand, or where its last answer leaves it
pub place-pause : (set : RouteSet) (past : Past) (b : Birth) (t : Option ℕ) (p : Place) → has_left b.origin (started (own b.number past)) ≡ true → end_of (fate (plan_of set) past b) ≡ None → taker (own b.number past) ≡ t → pause_place set past b ≡ p
    → place_of (plan_of set) past b ≡ in_hand t p
unfolding place_of
place-pause set past b t p left live taken pause = place-by-pause (clock past) (all_ended (plan_of set) past) b (own b.number past) (fate (plan_of set) past b) t p left live taken pause

-- who waits for nothing is Ready
pause-runs : (set : RouteSet) (past : Past) (b : Birth) → pause_of (last_answer (own b.number past)) ≡ Runs → pause_place set past b ≡ place_is.Ready
pause-runs set past b h = rw h refl

place-by-waits : (now : ℕ) (all : ℕ → ℕ → Bool) (b : Birth) (o : Past) (f : Fate) (q : ℕ) → b.origin ≡ from.Queue q → o ≡ [] → end_of f ≡ None → place_by now all b o f ≡ place_is.Queue q
place-by-waits now all b o (Ends e m) q origin none live = absurd (cc live)
place-by-waits now all b o (AsksNext r p) q origin none live = rw (origin, none) refl
place-by-waits now all b o Strays q origin none live = rw (origin, none) refl

-- a copy that has no entry of its own waits in its queue
place-waits : (s : Plan) (past : Past) (b : Birth) (q : ℕ) → b.origin ≡ from.Queue q → own b.number past ≡ [] → end_of (fate s past b) ≡ None → place_of s past b ≡ place_is.Queue q
unfolding place_of
place-waits s past b q origin none live = place-by-waits (clock past) (all_ended s past) b (own b.number past) (fate s past b) q origin none live

place-ends : (s : Plan) (past : Past) (b : Birth) (e : _) (m : Message) → fate s past b ≡ Ends e m → place_of s past b ≡ place_is.Ended e
unfolding place_of
place-ends s past b e m h = rw h refl

silent-fate : (set : RouteSet) (past : Past) (b : Birth) → starved (own b.number past) ≡ false → answers (own b.number past) ≡ [] → fate (plan_of set) past b ≡ mean set b []
silent-fate set past b fed h = fate-fed set past b fed ∙ ap (mean set b) h

-- the place that a state stands for
abbrev pub Placed : Birth → State → Place → Type 0
Placed b state.Queued p = (q : ℕ) × (b.origin ≡ from.Queue q) × (p ≡ place_is.Queue q)
Placed b state.New p = p ≡ place_is.Ready
Placed b (state.Asks c q) p = p ≡ place_is.Ready
Placed b (state.Held c w) p = p ≡ place_is.InHand w
Placed b (state.Joining c i) p = p ≡ place_is.Joining
Placed b (state.Asleep c i due) p = p ≡ place_is.Retry due
Placed b (state.Answered c i) p = p ≡ place_is.Ready
Placed b (state.Ended c) p = p ≡ place_is.Ended (closed_end b c)
Placed b state.Broken p = ⊥

asks-live : (f : Fate) (q : Request) (p : At) → f ≡ AsksNext q p → end_of f ≡ None
asks-live f q p h = rw h refl

no-end : (set : RouteSet) (b : Birth) (f : Fate) → mean set b [] ≡ f → end_of f ≡ None
no-end set b (AsksNext q p) h = refl
no-end set b (Ends e m) h = absurd (starts set b e m h)
no-end set b Strays h = refl

-- before its first request no exchange has ended
pub lives-first : (set : RouteSet) (b : Birth) → end_of (mean set b []) ≡ None
lives-first set b = no-end set b (mean set b []) refl

pub state-place : (set : RouteSet) (past : Past) (b : Birth) (st : State) → StateStands set past b st → Placed b st (place_of (plan_of set) past b)
state-place set past b state.Queued h =
    (h.queue, h.origin, place-waits (plan_of set) past b h.queue h.origin h.none (ap end_of (silent-fate set past b (rw h.none refl) (rw h.none refl)) ∙ lives-first set b))
state-place set past b state.New h =
    place-pause set past b None place_is.Ready h.left (ap end_of (silent-fate set past b h.fed h.silent) ∙ lives-first set b) h.taken (pause-runs set past b h.runs)
state-place set past b (state.Asks c q) a =
    place-pause set past b None place_is.Ready a.follows.left (asks-live _ q a.at (fate-asks set past b c q None a)) a.follows.taken a.follows.pause
state-place set past b (state.Held c w) h =
    place-pause set past b (Some w) place_is.Ready h.1.follows.left (asks-live _ h.0 h.1.at (fate-asks set past b c h.0 (Some w) h.1)) h.1.follows.taken h.1.follows.pause
state-place set past b (state.Joining c j) h = place-pause set past b None place_is.Joining h.follows.left h.lives h.follows.taken h.follows.pause
state-place set past b (state.Asleep c j due) h = place-pause set past b None (place_is.Retry due) h.follows.left h.lives h.follows.taken h.follows.pause
state-place set past b (state.Answered c j) h = place-pause set past b None place_is.Ready h.follows.left h.lives h.follows.taken h.follows.pause
state-place set past b (state.Ended c) h = place-ends (plan_of set) past b (closed_end b c) h.message h.ends
state-place set past b state.Broken h = h

placed-ready : (b : Birth) (st : State) (p : Place) → Placed b st p → is_ready p ≡ state_ready st
placed-ready b state.Queued p h = ap is_ready h.2
placed-ready b state.New p h = ap is_ready h
placed-ready b (state.Asks c q) p h = ap is_ready h
placed-ready b (state.Held c w) p h = ap is_ready h
placed-ready b (state.Joining c i) p h = ap is_ready h
placed-ready b (state.Asleep c i due) p h = ap is_ready h
placed-ready b (state.Answered c i) p h = ap is_ready h
placed-ready b (state.Ended c) p h = ap is_ready h
placed-ready b state.Broken p h = absurd h

placed-live : (b : Birth) (st : State) (p : Place) → Placed b st p → not (is_ended p) ≡ state_live st
placed-live b state.Queued p h = ap (λ p. not (is_ended p)) h.2
placed-live b state.New p h = ap (λ p. not (is_ended p)) h
placed-live b (state.Asks c q) p h = ap (λ p. not (is_ended p)) h
placed-live b (state.Held c w) p h = ap (λ p. not (is_ended p)) h
placed-live b (state.Joining c i) p h = ap (λ p. not (is_ended p)) h
placed-live b (state.Asleep c i due) p h = ap (λ p. not (is_ended p)) h
placed-live b (state.Answered c i) p h = ap (λ p. not (is_ended p)) h
placed-live b (state.Ended c) p h = ap (λ p. not (is_ended p)) h
placed-live b state.Broken p h = absurd h

placed-held : (b : Birth) (st : State) (p : Place) → Placed b st p → is_held p ≡ state_held st
placed-held b state.Queued p h = ap is_held h.2
placed-held b state.New p h = ap is_held h
placed-held b (state.Asks c q) p h = ap is_held h
placed-held b (state.Held c w) p h = ap is_held h
placed-held b (state.Joining c i) p h = ap is_held h
placed-held b (state.Asleep c i due) p h = ap is_held h
placed-held b (state.Answered c i) p h = ap is_held h
placed-held b (state.Ended c) p h = ap is_held h
placed-held b state.Broken p h = absurd h

state-taken : (set : RouteSet) (past : Past) (b : Birth) (st : State) → StateStands set past b st → is_taken past b ≡ state_held st
state-taken set past b state.Queued h = rw h.none refl
state-taken set past b state.New h = rw h.taken refl
state-taken set past b (state.Asks c q) a = rw a.follows.taken refl
state-taken set past b (state.Held c w) h = rw h.1.follows.taken refl
state-taken set past b (state.Joining c i) h = rw h.follows.taken refl
state-taken set past b (state.Asleep c i due) h = rw h.follows.taken refl
state-taken set past b (state.Answered c i) h = rw h.follows.taken refl
state-taken set past b (state.Ended c) h = rw h.taken refl
state-taken set past b state.Broken h = absurd h

-- the tests of a row are those of its exchange's place
module _ (set : RouteSet) (past : Past) (b : Birth) (r : Row) (h : RowStands set past b r) where
  pub row-place : Placed b (state_of r) (place_of (plan_of set) past b)
  row-place = state-place set past b (state_of r) h.stands

  pub row-is_ready : is_ready (place_of (plan_of set) past b) ≡ row_ready r
  row-is_ready = placed-ready b (state_of r) _ row-place

  pub row-is_live : not (is_ended (place_of (plan_of set) past b)) ≡ row_live r
  row-is_live = placed-live b (state_of r) _ row-place

  pub row-is_held : is_held (place_of (plan_of set) past b) ≡ row_held r
  row-is_held = placed-held b (state_of r) _ row-place

  pub row-is_taken : is_taken past b ≡ row_held r
  row-is_taken = state-taken set past b (state_of r) h.stands

-- entries keep their index
reverse-one : (e : Entry) (past : Past) → reverse (e ∷ past) ≡ reverse past ++ e ∷ []
reverse-one e past = reverse-append (e ∷ []) past

slice-left : {A : Type 0} (xs ys : List A) (i : ℕ) (x : A) → slice_get xs i ≡ Some x → slice_get (xs ++ ys) i ≡ Some x
slice-left [] ys i x h = absurd (cc h)
slice-left (y ∷ xs) ys zero x h = h
slice-left (y ∷ xs) ys (suc i) x h = slice-left xs ys i x h

pub entry-stays : (e : Entry) (past : Past) (i : ℕ) (x : Entry) → entry_at past i ≡ Some x → entry_at (e ∷ past) i ≡ Some x
unfolding entry_at
entry-stays e past i x h = rw (reverse-one e past) (slice-left (reverse past) (e ∷ []) i x h)

pub entry-new : (e : Entry) (past : Past) → entry_at (e ∷ past) (length past) ≡ Some e
unfolding entry_at
entry-new e past =
    let n : length past ≡ length (reverse past) + 0 = omega (arith, length-reverse past) in
    rw (reverse-one e past, n) (slice-right (reverse past) (e ∷ []) 0)

pub born-stays : (s : Plan) (e : Entry) (past : Past) (i : ℕ) (b : Birth) → IsBornAt s past i b → IsBornAt s (e ∷ past) i b
born-stays s e past i b h = record { worker = h.worker; source = h.source; item = h.item; message = h.message; entry = entry-stays e past i _ h.entry; birth = h.birth }

-- who waits for nothing more waits for nothing behind a further entry
pub pause-lasts : (set : RouteSet) (workers limit : ℕ) (e : Entry) (past : Past) (b : Birth) (a : Option Reply) → KeepsRules (plan_of set) workers limit (e ∷ past)
    → paused (clock past) (all_ended (plan_of set) past) (pause_of a) ≡ place_is.Ready → paused (clock (e ∷ past)) (all_ended (plan_of set) (e ∷ past)) (pause_of a) ≡ place_is.Ready
pause-lasts set workers limit e past b a legal h =
    paused-ready (clock past) (clock (e ∷ past)) (all_ended (plan_of set) past) (all_ended (plan_of set) (e ∷ past)) (pause_of a) (clock-grows (plan_of set) workers limit e past legal)
    (λ first count t. joined-keeps (plan_of set) workers limit e past first count legal t) h

-- the cursor of an exchange whose entry it is not, and where its last answer leaves it now
follows-other : (set : RouteSet) (e : Entry) (past : Past) (b : Birth) (c : Cursor) (more : List Reply) (t : Option ℕ) (p p' : Place) → concerns b.number e.kind ≡ false → pause_place set (e ∷ past) b ≡ p'
    → Follows set past b c more t p → Follows set (e ∷ past) b c more t p'
follows-other set e past b c more t p p' n pause f =
    let o = own-other b.number e past n in
    record { later = f.later; fed = rw o f.fed; taken = rw o f.taken; pause = pause; left = rw o f.left; rests = λ A. rw o (f.rests A) }

pub answer-other : (set : RouteSet) (e : Entry) (past : Past) (b : Birth) (c : Cursor) (i : ℕ) (p p' : Place) → concerns b.number e.kind ≡ false → pause_place set (e ∷ past) b ≡ p'
    → HasAnswer set past b c i p → HasAnswer set (e ∷ past) b c i p'
answer-other set e past b c i p p' n pause h = record {
  worker = h.worker;
  answer = h.answer;
  entry = entry-stays e past i _ h.entry;
  follows = follows-other set e past b c (h.answer ∷ []) None p p' n pause h.follows;
  fitting = h.fitting;
  lives = ap end_of (fate-other (plan_of set) e past b n) ∙ h.lives;
}

-- a row that waits is left where its exchange stands
pub pause-placed : (set : RouteSet) (e : Entry) (past : Past) (b : Birth) (c : Cursor) (i : ℕ) (p : Place) → concerns b.number e.kind ≡ false → HasAnswer set past b c i p → pause_place set (e ∷ past) b ≡ place_of (plan_of set) (e ∷ past) b
pause-placed set e past b c i p n h =
    let o = own-other b.number e past n in
    sym (place-pause set (e ∷ past) b None (pause_place set (e ∷ past) b) (rw o h.follows.left) (ap end_of (fate-other (plan_of set) e past b n) ∙ h.lives) (rw o h.follows.taken) refl)

module _ (set : RouteSet) (workers limit : ℕ) (e : Entry) (past : Past) (b : Birth) (legal : KeepsRules (plan_of set) workers limit (e ∷ past)) (n : concerns b.number e.kind ≡ false) where
  still-ready : pause_place set past b ≡ place_is.Ready → pause_place set (e ∷ past) b ≡ place_is.Ready
  still-ready h = rw (own-other b.number e past n) (pause-lasts set workers limit e past b (last_answer (own b.number past)) legal h)

  asking-other : (c : Cursor) (q : Request) (t : Option ℕ) → IsAsking set past b c q t → IsAsking set (e ∷ past) b c q t
  asking-other c q t a = record { follows = follows-other set e past b c [] t place_is.Ready place_is.Ready n (still-ready a.follows.pause) a.follows; at = a.at; asks = a.asks }

  state-other : (st : State) → place_of (plan_of set) (e ∷ past) b ≡ place_of (plan_of set) past b → StateStands set past b st → StateStands set (e ∷ past) b st
  state-other state.Queued same h = record { queue = h.queue; origin = h.origin; none = own-other b.number e past n ∙ h.none }
  state-other state.New same h =
      let o = own-other b.number e past n in
      record { fed = rw o h.fed; taken = rw o h.taken; silent = rw o h.silent; runs = rw o h.runs; left = rw o h.left }
  state-other (state.Asks c q) same a = asking-other c q None a
  state-other (state.Held c w) same h = (h.0, asking-other c h.0 (Some w) h.1, h.2)
  state-other (state.Joining c i) same h =
      answer-other set e past b c i place_is.Joining place_is.Joining n (pause-placed set e past b c i place_is.Joining n h ∙ (same ∙ state-place set past b (state.Joining c i) h)) h
  state-other (state.Asleep c i due) same h =
      answer-other set e past b c i (place_is.Retry due) (place_is.Retry due) n (pause-placed set e past b c i (place_is.Retry due) n h ∙ (same ∙ state-place set past b (state.Asleep c i due) h)) h
  state-other (state.Answered c i) same h = answer-other set e past b c i place_is.Ready place_is.Ready n (still-ready h.follows.pause) h
  state-other (state.Ended c) same h = record { taken = rw (own-other b.number e past n) h.taken; message = h.message; ends = fate-other (plan_of set) e past b n ∙ h.ends }
  state-other state.Broken same h = h

pub comes-stays : (s : Plan) (e : Entry) (past : Past) (o : Born) (b : Birth) → ComesFrom s past o b → ComesFrom s (e ∷ past) o b
comes-stays s e past (made.Item i) b h = born-stays s e past i b h
comes-stays s e past (made.Copy q) b h = h
comes-stays s e past (made.Part y j) b h = h
comes-stays s e past (made.Group g c) b h = h

pub turns-rise : (e : Entry) (past : Past) → turns past ≤ turns (e ∷ past)
turns-rise e past = omega (arith, turns-more e past)

-- an entry that doesn't concern the exchange, and leaves it where it is, leaves its row standing
pub row-other : (set : RouteSet) (workers limit : ℕ) (e : Entry) (past : Past) (b : Birth) (r : Row) → KeepsRules (plan_of set) workers limit (e ∷ past) → concerns b.number e.kind ≡ false
    → place_of (plan_of set) (e ∷ past) b ≡ place_of (plan_of set) past b → RowStands set past b r → RowStands set (e ∷ past) b r
row-other set workers limit e past b r legal n same h = record {
  born = comes-stays (plan_of set) e past r.born b h.born;
  kept = h.kept;
  hops = omega (arith, h.hops, turns-rise e past);
  stands = state-other set workers limit e past b legal n (state_of r) same h.stands;
}

-- ---- a row that moves on

-- what is kept of the birth of who lives on, and of who has ended
keeps-on : (o : Born) (v w : Bool) (b : Birth) (kept : Option Birth) (f : Option Fault) → v ≡ w → Keeps o v b kept f → Keeps o w b kept f
keeps-on o v w b kept f same k = subst (λ (u : Bool). Keeps o u b kept f) same k

keeps-none : (o : Born) (b : Birth) (kept : Option Birth) (f : Option Fault) → Keeps o false b kept f
keeps-none (made.Item i) b kept f = tt
keeps-none (made.Copy q) b kept f = tt
keeps-none (made.Part y j) b kept f = tt
keeps-none (made.Group g c) b kept f = tt

-- a row of the same birth, which lives where the one before it did
pub row-kept : (old new : Row) (b : Birth) → new.born ≡ old.born → new.birth ≡ old.birth → new.fault ≡ old.fault → row_live old ≡ row_live new → Keeps old.born (row_live old) b old.birth old.fault
    → Keeps new.born (row_live new) b new.birth new.fault
row-kept old new b born birth fault lives k =
    subst (λ (o : Born). Keeps o (row_live new) b new.birth new.fault) (sym born)
    (subst (λ (h : Option Birth). Keeps old.born (row_live new) b h new.fault) (sym birth)
    (subst (λ (f : Option Fault). Keeps old.born (row_live new) b old.birth f) (sym fault) (keeps-on old.born (row_live old) (row_live new) b old.birth old.fault lives k)))

-- and one that has ended
pub row-spent : (new : Row) (b : Birth) → row_live new ≡ false → Keeps new.born (row_live new) b new.birth new.fault
row-spent new b ends = keeps-on new.born false (row_live new) b new.birth new.fault (sym ends) (keeps-none new.born b new.birth new.fault)

-- the row behind an own entry by which its exchange lives on
pub row-on : (set : RouteSet) (e : Entry) (past : Past) (b : Birth) (old new : Row) → RowStands set past b old → new.born ≡ old.born → new.birth ≡ old.birth → new.fault ≡ old.fault → row_live old ≡ row_live new
    → StateStands set (e ∷ past) b (state_of new) → RowStands set (e ∷ past) b new
row-on set e past b old new h born birth fault lives stands = record {
  born = subst (λ (o : Born). ComesFrom (plan_of set) (e ∷ past) o b) (sym born) (comes-stays (plan_of set) e past old.born b h.born);
  kept = row-kept old new b born birth fault lives h.kept;
  hops = omega (arith, h.hops, turns-rise e past);
  stands = stands;
}

-- and one by which it ends
pub row-ended : (set : RouteSet) (e : Entry) (past : Past) (b : Birth) (old new : Row) → RowStands set past b old → new.born ≡ old.born → row_live new ≡ false
    → StateStands set (e ∷ past) b (state_of new) → RowStands set (e ∷ past) b new
row-ended set e past b old new h born ends stands = record {
  born = subst (λ (o : Born). ComesFrom (plan_of set) (e ∷ past) o b) (sym born) (comes-stays (plan_of set) e past old.born b h.born);
  kept = row-spent new b ends;
  hops = omega (arith, h.hops, turns-rise e past);
  stands = stands;
}

-- a row that was looked at
pub row-looked : (set : RouteSet) (past : Past) (b : Birth) (old new : Row) → RowStands set past b old → new.born ≡ old.born → new.birth ≡ old.birth → new.fault ≡ old.fault → row_live old ≡ row_live new
    → StateStands set past b (state_of new) → RowStands set past b new
row-looked set past b old new h born birth fault lives stands = record {
  born = subst (λ (o : Born). ComesFrom (plan_of set) past o b) (sym born) h.born;
  kept = row-kept old new b born birth fault lives h.kept;
  hops = h.hops;
  stands = stands;
}
