-- What an exchange's own entry makes of its row.
use Rattle.std.proofs.Common.{◌≡◌, ℕ, Bool, true, false, List, [], ◌∷◌, ◌++◌, length, Option, Some, None, refl, sym, ap, ◌∙◌, eq-eqb, append_assoc}
use Rattle.std.proofs.lemmas.List.{append-nil}
use Rattle.eip_exchange.specs.declared.birth.Birth.{Birth}
use Rattle.eip_exchange.specs.declared.birth.Origin.{Origin}
use Rattle.eip_exchange.specs.declared.birth.Origin.TheVariants as from
use Rattle.eip_exchange.specs.declared.message.Message.{Message}
use Rattle.eip_exchange.specs.declared.end.End.{End}
use Rattle.eip_exchange.specs.declared.end.End.TheVariants as end
use Rattle.eip_route.specs.declared.route.RouteSet.{RouteSet}
use Rattle.eip_frames.specs.declared.request.Request.{Request}
use Rattle.eip_frames.specs.declared.request.Request.TheVariants as request
use Rattle.eip_frames.specs.declared.answer.Answer.{Answer as Reply}
use Rattle.eip_frames.specs.declared.answer.Answer.TheVariants as reply
use Rattle.eip_frames.specs.Fate.{Fate, AsksNext, Ends, Strays}
use Rattle.eip_frames.specs.Fits.{fits}
use Rattle.eip_tables.specs.Look.{Stepped, CanTake}
use Rattle.eip_ledger.specs.declared.entry.Entry.{Entry}
use Rattle.eip_ledger.specs.declared.entry.Kind.TheVariants.{Start, Take, Answer, Starve}
use Rattle.eip_ledger.specs.declared.place.Place.{Place}
use Rattle.eip_ledger.specs.declared.place.Place.TheVariants as place_is
use Rattle.eip_meaning.specs.Meaning.{mean, is_committed}
use Rattle.eip_meaning.proofs.Laws.{ends, finished-ends, commit_failed-ends}
use Rattle.eip_progress.specs.declared.cursor.Cursor.{Cursor}
use Rattle.eip_progress.specs.Rest.{rest}
use Rattle.eip_history.specs.Own.{Past, own, answers, starved, last_answer, clock}
use Rattle.eip_history.specs.Births.{fate}
use Rattle.eip_history.specs.Place.{pause_of, paused, all_ended, Runs, end_of}
use Rattle.eip_history.specs.Rules.{KeepsRules}
use Rattle.eip_history.specs.TableWords.{is_sleep}
use Rattle.eip_history.proofs.Told.{own-here}
use Rattle.eip_plan.specs.Plan.{plan_of}
use Rattle.eip_plan.proofs.Items.{bears}
use Rattle.eip_tables.specs.Closing.{Closing}
use Rattle.eip_tables.specs.Closing as closing
use Rattle.eip_tables.specs.Rows.{Follows, IsAsking, IsUnasked, HasAnswer, HasEnded, closed_end, has_left}
use Rattle.eip_table_laws.proofs.RowPlaces.{entry-new, fate-fed, fate-asks, fate-follows, pause-lasts}

-- the meaning so far of an exchange that asks
pub mean-asks : (set : RouteSet) (past : Past) (b : Birth) (c : Cursor) (q : Request) (t : Option ℕ) (a : IsAsking set past b c q t) → mean set b (answers (own b.number past)) ≡ AsksNext q a.at
mean-asks set past b c q t a = sym (fate-fed set past b a.follows.fed) ∙ fate-asks set past b c q t a

-- a Take puts an exchange in hand
pub held-by : (set : RouteSet) (workers limit : ℕ) (past : Past) (w : ℕ) (b : Birth) (c : Cursor) (q : Request) → KeepsRules (plan_of set) workers limit ((record { worker = w; kind = Take b.number }) ∷ past) → IsAsking set past b c q None
    → IsAsking set ((record { worker = w; kind = Take b.number }) ∷ past) b c q (Some w)
held-by set workers limit past w b c q legal a =
    let o = own-here b.number (record { worker = w; kind = Take b.number }) past (eq-eqb b.number b.number refl) in
    record {
      follows = record {
        later = a.follows.later;
        fed = rw o a.follows.fed;
        taken = rw o refl;
        pause = rw o (pause-lasts set workers limit (record { worker = w; kind = Take b.number }) past b (last_answer (own b.number past)) legal a.follows.pause);
        left = rw o a.follows.left;
        rests = λ A. rw (o, append-nil (answers (own b.number past))) (a.follows.rests A);
      };
      at = a.at;
      asks = a.asks;
    }

-- an answer by which nobody is born and nobody sleeps is waited for no longer
pub runs-simple : (a : Reply) → bears a ≡ false → is_sleep a ≡ false → pause_of (Some a) ≡ Runs
runs-simple (reply.Born first count) n s = absurd (cc n)
runs-simple (reply.Slept d) n s = absurd (cc s)
runs-simple _ n s = refl

-- this answer leaves its exchange there
abbrev pub IsLeftAt : RouteSet → Past → (worker : ℕ) → Birth → Reply → Place → Type 0
IsLeftAt set past w b a p =
    paused (clock ((record { worker = w; kind = Answer b.number a }) ∷ past)) (all_ended (plan_of set) ((record { worker = w; kind = Answer b.number a }) ∷ past)) (pause_of (Some a)) ≡ p

-- its cursor with the answer of the new entry before it
pub follows-answer : (set : RouteSet) (past : Past) (w : ℕ) (b : Birth) (c : Cursor) (a : Reply) (t : Option ℕ) (p : Place) → IsLeftAt set past w b a p → Follows set past b c [] t place_is.Ready
    → Follows set ((record { worker = w; kind = Answer b.number a }) ∷ past) b c (a ∷ []) None p
follows-answer set past w b c a t p left f =
    let o = own-here b.number (record { worker = w; kind = Answer b.number a }) past (eq-eqb b.number b.number refl) in
    record {
      later = f.later;
      fed = rw o f.fed;
      taken = rw o refl;
      pause = rw o left;
      left = rw o f.left;
      rests = λ A. rw (o, append_assoc (answers (own b.number past)) (a ∷ []) A) (f.rests (a ∷ A));
    }

-- the fate behind an answer
pub fate-answer : (set : RouteSet) (past : Past) (w : ℕ) (b : Birth) (a : Reply) → starved (own b.number past) ≡ false
    → fate (plan_of set) ((record { worker = w; kind = Answer b.number a }) ∷ past) b ≡ mean set b (answers (own b.number past) ++ a ∷ [])
fate-answer set past w b a h =
    let e : Entry = record { worker = w; kind = Answer b.number a } in
    let o = own-here b.number e past (eq-eqb b.number b.number refl) in
    fate-fed set (e ∷ past) b (rw o h) ∙ rw o refl

abbrev pub IsNoFinish : Request → Type 0
IsNoFinish (request.Finish e m c) = ⊥
IsNoFinish _ = Unit {0}

no-finish : (q : Request) (e : End) (m : Message) (c : Bool) → IsNoFinish q → q ≡ request.Finish e m c → ⊥
no-finish q e m c i h = rw h at i

-- behind the answer to anything but the last request an exchange goes on
lives-by : (set : RouteSet) (past : Past) (b : Birth) (c : Cursor) (q : Request) (a : Reply) (t : Option ℕ) → IsAsking set past b c q t → IsNoFinish q
    → (f : Fate) → mean set b (answers (own b.number past) ++ a ∷ []) ≡ f → end_of f ≡ None
lives-by set past b c q a t k i (AsksNext r p) h = refl
lives-by set past b c q a t k i (Ends e m) h =
    let y = ends set b (answers (own b.number past)) a e m h in
    let same : q ≡ request.Finish y.asked_end m (is_committed set b) = let was = mean-asks set past b c q t k in let now = y.asked in cc in
    absurd (no-finish q y.asked_end m (is_committed set b) i same)
lives-by set past b c q a t k i Strays h = refl

pub has-answer : (set : RouteSet) (past : Past) (w : ℕ) (b : Birth) (c : Cursor) (q : Request) (a : Reply) (t : Option ℕ) (p : Place) → IsLeftAt set past w b a p → IsNoFinish q → fits q a ≡ true → IsAsking set past b c q t
    → HasAnswer set ((record { worker = w; kind = Answer b.number a }) ∷ past) b c (length past) p
has-answer set past w b c q a t p left n fit k = record {
  worker = w;
  answer = a;
  entry = entry-new (record { worker = w; kind = Answer b.number a }) past;
  follows = follows-answer set past w b c a t p left k.follows;
  fitting = rw k.asks fit;
  lives = ap end_of (fate-answer set past w b a k.follows.fed) ∙ lives-by set past b c q a t k n (mean set b (answers (own b.number past) ++ a ∷ [])) refl;
}

-- the closing of an end
abbrev pub closing_of : End → Closing
closing_of end.Completed = closing.Completed
closing_of end.Handled = closing.Handled
closing_of (end.Failed f) = closing.Failed f

pub closed-of : (b : Birth) (e : End) → closed_end b (closing_of e) ≡ e
closed-of b end.Completed = refl
closed-of b end.Handled = refl
closed-of b (end.Failed f) = refl

-- the last request answered by Finished
pub has-finished : (set : RouteSet) (past : Past) (w : ℕ) (b : Birth) (c : Cursor) (e : End) (m : Message) (commit : Bool) (t : Option ℕ) → IsAsking set past b c (request.Finish e m commit) t
    → HasEnded set ((record { worker = w; kind = Answer b.number reply.Finished }) ∷ past) b (closing_of e)
has-finished set past w b c e m commit t k = record {
  taken = rw (own-here b.number (record { worker = w; kind = Answer b.number reply.Finished }) past (eq-eqb b.number b.number refl)) refl;
  message = m;
  ends = fate-answer set past w b reply.Finished k.follows.fed ∙ (finished-ends set b (answers (own b.number past)) e m commit k.at (mean-asks set past b c _ t k) ∙ ap (λ x. Ends x m) (sym (closed-of b e)));
}

-- the last request answered by CommitFailed
pub has-not-committed : (set : RouteSet) (past : Past) (w : ℕ) (b : Birth) (c : Cursor) (e : End) (m : Message) (t : Option ℕ) → IsAsking set past b c (request.Finish e m true) t
    → HasEnded set ((record { worker = w; kind = Answer b.number reply.CommitFailed }) ∷ past) b closing.NotCommitted
has-not-committed set past w b c e m t k = record {
  taken = rw (own-here b.number (record { worker = w; kind = Answer b.number reply.CommitFailed }) past (eq-eqb b.number b.number refl)) refl;
  message = m;
  ends = fate-answer set past w b reply.CommitFailed k.follows.fed ∙ commit_failed-ends set b (answers (own b.number past)) e m k.at (mean-asks set past b c _ t k);
}

-- a starved exchange
pub has-starved : (set : RouteSet) (past : Past) (w : ℕ) (b : Birth) → HasEnded set ((record { worker = w; kind = Starve b.number }) ∷ past) b closing.Starved
unfolding fate
has-starved set past w b =
    let o = own-here b.number (record { worker = w; kind = Starve b.number }) past (eq-eqb b.number b.number refl) in
    record { taken = rw o refl; message = b.message; ends = rw o refl }

-- looking at an exchange gives its cursor what it has not been given yet
pub looked-answer : (set : RouteSet) (past : Past) (b : Birth) (c c' : Cursor) (q : Request) (a : Reply) → Follows set past b c (a ∷ []) None place_is.Ready → Stepped set (rest set c) (a ∷ []) c' q → IsAsking set past b c' q None
looked-answer set past b c c' q a f step = record {
  follows = record { later = step.later; fed = f.fed; taken = f.taken; pause = f.pause; left = f.left; rests = λ A. step.rests A ∙ f.rests A };
  at = step.at;
  asks = step.asks;
}

pub looked-new : (set : RouteSet) (past : Past) (b : Birth) (c : Cursor) (q : Request) → IsUnasked past b → Stepped set (mean set b) [] c q → IsAsking set past b c q None
looked-new set past b c q h step = record {
  follows = record { later = step.later; fed = h.fed; taken = h.taken; pause = rw h.runs refl; left = h.left; rests = λ A. step.rests A ∙ ap (λ (given : List Reply). mean set b (given ++ A)) (sym h.silent) };
  at = step.at;
  asks = step.asks;
}

-- a copy that leaves its queue may act
pub unasked-started : (past : Past) (w q : ℕ) (b : Birth) → own b.number past ≡ [] → IsUnasked ((record { worker = w; kind = Start q b.number }) ∷ past) b
unasked-started past w q b none =
    let o = own-here b.number (record { worker = w; kind = Start q b.number }) past (eq-eqb b.number b.number refl) in
    record { fed = rw (o, none) refl; taken = rw o refl; silent = rw (o, none) refl; runs = rw (o, none) refl; left = rw o (left-started b.origin) }
  where
    left-started : (o : Origin) → has_left o true ≡ true
    left-started (from.Queue r) = refl
    left-started (from.Source r i) = refl
    left-started (from.Part x i) = refl
    left-started (from.Group g) = refl

-- an answer that waits for its cursor may be given to it
pub can-take : (set : RouteSet) (past : Past) (b : Birth) (c : Cursor) (i : ℕ) (h : HasAnswer set past b c i place_is.Ready) → CanTake set h.answer c
can-take set past b c i h = record {
  later = h.follows.later;
  fitting = h.fitting;
  lives = ap end_of (sym (fate-follows set past b c (h.answer ∷ []) None place_is.Ready h.follows)) ∙ h.lives;
}
