-- What a worker's seat knows is true of the run when its turn comes, and what it knows behind the turn.
use Rattle.std.proofs.Common.{◌≡◌, ℕ, List, [], ◌∷◌, ◌++◌, Some, refl, sym, ap, subst, ◌∙◌, append-nil, append_assoc}
use Rattle.std.proofs.lemmas.List.{append_cancel_left}
use Rattle.eip_exchange.specs.declared.birth.Origin.{Origin}
use Rattle.eip_history.specs.Rules.{KeepsRules, IsLegal}
use Rattle.eip_hub.specs.View.{plan, IsLegalRun}
use Rattle.eip_plan.specs.Plan.{plan_of}
use Rattle.eip_outlets.specs.Outlets.{outlets}
use Rattle.eip_turnstile.specs.Rule.{entries_by, StartsWith, AllBy}
use Rattle.eip_turnstile.specs.Steps.{claimed, counted, released}
use Rattle.eip_turnstile.specs.declared.view.View.{View}
use Rattle.eip_turnstile.proofs.Lists.{by-append}
use Rattle.std.specs.List.{AllByRecursion}
use Rattle.eip_shared.specs.Deeds.{IsInner, deed, left_open, past_of, done_by}
use Rattle.eip_shared.specs.Shared.{SharedView, Makes, MayEnter, deed_of, kind_of, log, beginning}
use Rattle.eip_shared.specs.Looks.{Looks, Saw, Tells, begun}
use Rattle.eip_shared.specs.Turns.{past_seen, IsAtWork, Turned, Knows}
use Rattle.eip_shared.specs.declared.beginning.Beginning.{Beginning}
use Rattle.eip_shared.specs.declared.deed.Deed.{Deed}
use Rattle.eip_shared.specs.declared.looks.Look.{Look}
use Rattle.eip_shared.specs.declared.outcome.Outcome.{Outcome}
use Rattle.eip_shared.proofs.Doing.{whole-past}
use Rattle.eip_shared.proofs.Facts.{may-on, outcome-deed}
use Rattle.eip_shared.proofs.Logs.{done-append, past-append, none-of, own-all, own-by}

-- what others did since a seat saw the run
pub record Others (start : Beginning) (v : View Deed Beginning) (run : SharedView) : Type 0 where
  pub others : List (ℕ × Deed)
  pub list : log run ≡ v.seen ++ others
  pub beside : entries_by v.number others ≡ []
  pub begins : beginning run ≡ start
  pub past : run.hub.journal.past ≡ past_of others ++ past_seen start v

pub others-did : (start : Beginning) (v : View Deed Beginning) (run : SharedView) → IsAtWork start v → StartsWith (log run) v.seen
    → entries_by v.number (log run) ≡ v.mine → Some (beginning run) ≡ v.base → Others start v run
others-did start v run works starts mine based =
    let rest = starts.0 in
    let list : log run ≡ v.seen ++ rest = starts.1 in
    let same : beginning run ≡ start = let g : Some (beginning run) ≡ Some start = based ∙ works.based in cc in
    let own : entries_by v.number v.seen ++ entries_by v.number rest ≡ entries_by v.number v.seen ++ [] =
    sym (by-append v.number v.seen rest) ∙ (ap (entries_by v.number) (sym list) ∙ (mine ∙ (sym works.own ∙ sym (append-nil (entries_by v.number v.seen))))) in
    record {
      others = rest;
      list = list;
      beside = append_cancel_left (entries_by v.number v.seen) (entries_by v.number rest) [] own;
      begins = same;
      past =
          whole-past run
          ∙ (ap (λ (b : Beginning). past_of (log run) ++ b.past) same
          ∙ (ap (λ xs. past_of xs ++ start.past) list
          ∙ (ap (λ es. es ++ start.past) (past-append v.seen rest) ∙ append_assoc (past_of rest) (past_of v.seen) start.past)));
    }

-- what the seat knows that its worker may enter it may enter in its turn
pub may-in-turn : (start : Beginning) (v : View Deed Beginning) (run : SharedView) (from : Origin) (out : Outcome) → Others start v run → IsLegalRun run.hub
    → Knows start v from out → MayEnter run v.number from out
may-in-turn start v run from out others legal knows =
    let sets = ap (λ (b : Beginning). b.set) others.begins in
    let workers = ap (λ (b : Beginning). b.workers) others.begins in
    let turns = ap (λ (b : Beginning). b.turns) others.begins in
    let rules : KeepsRules (plan_of start.set) start.workers start.turns (past_of others.others ++ past_seen start v) =
    rw (sets, workers, turns, others.past) at legal.entries in
    rw (sets, workers, others.past)
    (may-on (plan_of start.set) (outlets start.set) start.workers start.turns v.number (past_seen start v) (past_of others.others) rules
    (none-of v.number others.others others.beside) from out knows)

module _ (start : Beginning) (v after : View Deed Beginning) (run next : SharedView) (others : Others start v run) (ds : List Deed)
    (makes : Makes run next v.number ds) (is : after ≡ released (counted (claimed v (log run)) (log next))) where
  -- behind a turn in which this was done
  pub turn-did : entries_by v.number (log run) ≡ v.mine → Turned v after ds
  turn-did mine = rw is (record {
    mine =
        ap (entries_by v.number) makes.log
        ∙ (by-append v.number (log run) (done_by v.number ds)
        ∙ (ap (λ xs. xs ++ entries_by v.number (done_by v.number ds)) mine ∙ ap (λ xs. v.mine ++ xs) (own-by v.number ds)));
    seen = (
      others.others ++ done_by v.number ds,
      makes.log ∙ (ap (λ xs. xs ++ done_by v.number ds) others.list ∙ append_assoc v.seen others.others (done_by v.number ds)),
    );
    number = refl;
    base = refl;
    made = refl;
    olds = refl;
  })

  past-now : next.hub.journal.past ≡ past_seen start after
  past-now =
      whole-past next
      ∙ (ap (λ (b : Beginning). past_of (log next) ++ b.past) (makes.beginning ∙ others.begins)
      ∙ ap (λ (u : View Deed Beginning). past_seen start u) (sym is))

  -- the worker is at work as before
  pub turn-works : IsAtWork start v → IsLegalRun next.hub → IsAtWork start after
  turn-works works legal =
      let same : beginning next ≡ start = makes.beginning ∙ others.begins in
      let sets = ap (λ (b : Beginning). b.set) same in
      let workers = ap (λ (b : Beginning). b.workers) same in
      let turns = ap (λ (b : Beginning). b.turns) same in
      let legal_now : IsLegal (plan_of start.set) start.workers start.turns (past_seen start after) = rw (sets, workers, turns, past-now) at legal in
      record {
        based = ap (λ (u : View Deed Beginning). u.base) is ∙ works.based;
        some = rw is works.some;
        within = rw is works.within;
        own = rw is refl;
        legal = legal_now;
      }

  -- and what a look told it knows
  pub turn-saw : entries_by v.number (log run) ≡ v.mine → (what : Look)
      → AllByRecursion IsInner ds → Tells (plan next.hub) (outlets next.hub.set) next.hub.journal.workers next.hub.journal.turns next.hub.journal.past v.number what
      → left_open ds ≡ begun what → Saw start v after what
  turn-saw mine what all tells left =
      let same : beginning next ≡ start = makes.beginning ∙ others.begins in
      let sets = ap (λ (b : Beginning). b.set) same in
      let workers = ap (λ (b : Beginning). b.workers) same in
      let turns = ap (λ (b : Beginning). b.turns) same in
      let number : v.number ≡ after.number = ap (λ (u : View Deed Beginning). u.number) (sym is) in
      (ds, turn-did mine, all, rw (sets, workers, turns, past-now, number) at tells, left)

-- ---- one turn, as the calls of the turnstile tell of it

-- the seat, the seat with the turn and the seat behind it; the run as it was found, as it was lent and as it was left; and under which number
pub record Turn (v held : View Deed Beginning) (run now : SharedView) (n : ℕ) : Type 0 where
  pub lent : now ≡ run
  pub number : n ≡ held.number
  pub claims : held ≡ claimed v (log run)
  pub starts : StartsWith (log run) v.seen
  pub mine : entries_by v.number (log run) ≡ v.mine
  pub base : Some (beginning run) ≡ v.base

pub turn-of : (v held : View Deed Beginning) (run now : SharedView) (n : ℕ) → now ≡ run → n ≡ held.number → held ≡ claimed v (log run)
    → StartsWith (log run) v.seen → entries_by v.number (log run) ≡ v.mine → Some (beginning run) ≡ v.base → Turn v held run now n
turn-of v held run now n lent number claims starts mine base =
    record { lent = lent; number = number; claims = claims; starts = starts; mine = mine; base = base }

-- the list may be left so
pub turn-leaves : (v held : View Deed Beginning) (run now next : SharedView) (n : ℕ) (ds : List Deed) → Turn v held run now n → Makes now next n ds
    → (more : List (ℕ × Deed)) × (log next ≡ held.seen ++ more) × AllBy held.number more
turn-leaves v held run now next n ds turn makes =
    let made : Makes run next held.number ds =
    subst (λ (r : SharedView). Makes r next held.number ds) turn.lent (subst (λ m. Makes now next m ds) turn.number makes) in
    let seen : held.seen ≡ log run = ap (λ (u : View Deed Beginning). u.seen) turn.claims in
    (done_by held.number ds, made.log ∙ ap (λ xs. xs ++ done_by held.number ds) (sym seen), own-all held.number ds)

-- two things that a worker did, one behind the other
makes-both : (old mid new : SharedView) (w : ℕ) (ds es : List Deed) → Makes old mid w ds → Makes mid new w es → Makes old new w (ds ++ es)
makes-both old mid new w ds es one two = record {
  log =
      two.log
      ∙ (ap (λ xs. xs ++ done_by w es) one.log
      ∙ (append_assoc (log old) (done_by w ds) (done_by w es) ∙ ap (λ xs. log old ++ xs) (sym (done-append w ds es))));
  beginning = two.beginning ∙ one.beginning;
}

pub both-leave : (v held : View Deed Beginning) (run now mid next : SharedView) (n : ℕ) (ds es : List Deed) → Turn v held run now n → Makes now mid n ds
    → Makes mid next n es → (more : List (ℕ × Deed)) × (log next ≡ held.seen ++ more) × AllBy held.number more
both-leave v held run now mid next n ds es turn one two =
    turn-leaves v held run now next n (ds ++ es) turn (makes-both now mid next n ds es one two)

module _ (start : Beginning) (v held : View Deed Beginning) (run now : SharedView) (n : ℕ) (turn : Turn v held run now n) (works : IsAtWork start v) where
  others : Others start v run
  others = others-did start v run works turn.starts turn.mine turn.base

  own : n ≡ v.number
  own = turn.number ∙ ap (λ (u : View Deed Beginning). u.number) turn.claims

  pub turn-may : (from : Origin) (out : Outcome) → IsLegalRun now.hub → Knows start v from out → MayEnter now n from out
  turn-may from out legal knows =
      subst (λ m. MayEnter now m from out) (sym own)
      (subst (λ (r : SharedView). MayEnter r v.number from out) (sym turn.lent)
      (may-in-turn start v run from out others (subst (λ (r : SharedView). IsLegalRun r.hub) turn.lent legal) knows))

  module _ (after : View Deed Beginning) (next : SharedView) (left : after ≡ released (counted held (log next))) where
    is : after ≡ released (counted (claimed v (log run)) (log next))
    is = left ∙ ap (λ (u : View Deed Beginning). released (counted u (log next))) turn.claims

    made : (ds : List Deed) → Makes now next n ds → Makes run next v.number ds
    made ds makes = subst (λ (r : SharedView). Makes r next v.number ds) turn.lent (subst (λ m. Makes now next m ds) own makes)

    pub turn-worked : (ds : List Deed) → Makes now next n ds → IsLegalRun next.hub → IsAtWork start after
    turn-worked ds makes legal = turn-works start v after run next others ds (made ds makes) is works legal

    pub turn-looked : (what : Look) → Looks now next n what → Saw start v after what
    turn-looked what looks =
        turn-saw start v after run next others looks.0 (made looks.0 looks.1) is turn.mine what looks.2
        (subst (λ m. Tells (plan next.hub) (outlets next.hub.set) next.hub.journal.workers next.hub.journal.turns next.hub.journal.past m what) own looks.3) looks.4

    pub turn-entered : (from : Origin) (out : Outcome) → IsLegalRun now.hub → Knows start v from out
        → Makes now next n (deed (plan now.hub) now.hub.journal.past (kind_of out) ∷ []) → Turned v after (deed_of from out ∷ [])
    turn-entered from out legal knows makes =
        let same = outcome-deed (plan now.hub) (outlets now.hub.set) now.hub.journal.workers n now.hub.journal.past from out (turn-may from out legal knows) in
        turn-did start v after run next others (deed_of from out ∷ [])
        (made (deed_of from out ∷ []) (subst (λ (d : Deed). Makes now next n (d ∷ [])) same makes)) is turn.mine

-- ---- the second half of a turn, behind something that was done in it

module _ (start : Beginning) (v held : View Deed Beginning) (run now : SharedView) (n : ℕ) (turn : Turn v held run now n) (works : IsAtWork start v)
    (mid : SharedView) (ds : List Deed) (makes : Makes now mid n ds) (legal : IsLegalRun mid.hub) where
  -- what the seat would know if the turn ended here
  abbrev behind : View Deed Beginning
  behind = released (counted held (log mid))

  again : Turn behind (claimed behind (log mid)) mid mid n
  again = record {
    lent = refl;
    number = turn.number;
    claims = refl;
    starts = ([], sym (append-nil (log mid)));
    mine = refl;
    base = ap (λ (b : Beginning). Some b) (makes.beginning ∙ ap beginning turn.lent) ∙ (turn.base ∙ sym (ap (λ (u : View Deed Beginning). u.base) turn.claims));
  }

  at_work : IsAtWork start behind
  at_work = turn-worked start v held run now n turn works behind mid refl ds makes legal

  pub then-worked : (after : View Deed Beginning) (next : SharedView) → after ≡ released (counted held (log next)) → (es : List Deed) → Makes mid next n es
      → IsLegalRun next.hub → IsAtWork start after
  then-worked after next left es more ends = turn-worked start behind (claimed behind (log mid)) mid mid n again at_work after next left es more ends

  pub then-looked : (after : View Deed Beginning) (next : SharedView) → after ≡ released (counted held (log next)) → (what : Look) → Looks mid next n what
      → Saw start behind after what
  then-looked after next left what looks = turn-looked start behind (claimed behind (log mid)) mid mid n again at_work after next left what looks
