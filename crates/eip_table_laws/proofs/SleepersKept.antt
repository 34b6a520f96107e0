-- What the entries of a journal make of the table of sleepers.
use Rattle.std.proofs.Common.{◌≡◌, ℕ, zero, suc, Bool, true, false, ◌==◌, nat_lt, cond, List, [], ◌∷◌, Option, Some, None, inl, inr, refl, sym, ap, subst, ◌∙◌, eq-eqb}
use Rattle.std.proofs.lemmas.Bool.{cases_Bool, eqb-true}
use Rattle.eip_exchange.specs.declared.end.Ended.{Ended as Finished}
use Rattle.eip_route.specs.declared.route.RouteSet.{RouteSet}
use Rattle.eip_frames.specs.declared.answer.Answer.TheVariants as reply
use Rattle.eip_ledger.specs.declared.entry.Kind.{Kind}
use Rattle.eip_ledger.specs.declared.entry.Kind.TheVariants.{Answer}
use Rattle.eip_ledger.specs.declared.place.Place.TheVariants as place_is
use Rattle.eip_redelivery.specs.Sleep as sleep
use Rattle.eip_redelivery.specs.Sleep.{Call, Slept, IsAwake, is_until}
use Rattle.eip_history.specs.Plan.{Plan}
use Rattle.eip_history.specs.Own.{Past, clock}
use Rattle.eip_history.specs.Births.{story}
use Rattle.eip_history.specs.Place.{place, ended}
use Rattle.eip_history.specs.Rules.{KeepsRules}
use Rattle.eip_history.specs.TableWords.{sleeps, moves_sleepers, unless_ended, still_ahead}
use Rattle.eip_history.proofs.SleepTable.{sleeps-same, sleeps-own, sleeps-stay}
use Rattle.eip_plan.specs.Plan.{plan_of}
use Rattle.eip_plan.proofs.Laws.{plan-laws}
use Rattle.eip_tables.specs.Sleepers.{SleepersStand}

-- nothing has happened
pub sleepers-none : (set : RouteSet) (sleepers : List (ℕ × ℕ)) → sleep.Stands [] sleepers → SleepersStand set [] sleepers
unfolding sleeps place story
sleepers-none set sleepers st = record { calls = []; stands = st; moments = λ x. sym (none x) }
  where
    none : (x : ℕ) → sleeps (plan_of set) [] x ≡ None
    none zero = refl
    none (suc i) = refl

-- by an entry by which nobody falls asleep or wakes
pub sleepers-stay : (set : RouteSet) (workers limit w : ℕ) (k : Kind) (past : Past) (sleepers : List (ℕ × ℕ)) → KeepsRules (plan_of set) workers limit ((record { worker = w; kind = k }) ∷ past) → moves_sleepers k ≡ false
    → SleepersStand set past sleepers → SleepersStand set ((record { worker = w; kind = k }) ∷ past) sleepers
sleepers-stay set workers limit w k past sleepers legal h st = record {
  calls = st.calls;
  stands = st.stands;
  moments = λ x. st.moments x ∙ sym (sleeps-stay (plan_of set) (plan-laws set) workers limit w k past x legal h);
}

-- who is Ready does not sleep
pub ready-awake : (s : Plan) (past : Past) (x : ℕ) → place s past x ≡ Some place_is.Ready → sleeps s past x ≡ None
unfolding sleeps
ready-awake s past x h = rw h refl

-- and is in no row of the table
pub is-awake : {set : RouteSet} {past : Past} {sleepers : List (ℕ × ℕ)} (x : ℕ) → place (plan_of set) past x ≡ Some place_is.Ready → SleepersStand set past sleepers → IsAwake x sleepers
is-awake {set} {past} x ready st due = st.stands x due ∙ ap (is_until due) (st.moments x ∙ ready-awake (plan_of set) past x ready)

-- x is answered that it sleeps until a moment, and lives
module _ (set : RouteSet) (workers limit w x due : ℕ) (past : Past) (legal : KeepsRules (plan_of set) workers limit ((record { worker = w; kind = Answer x (reply.Slept due) }) ∷ past))
    (lives : ended (plan_of set) ((record { worker = w; kind = Answer x (reply.Slept due) }) ∷ past) x ≡ None) where
  -- until when it sleeps now
  slept-now : sleeps (plan_of set) ((record { worker = w; kind = Answer x (reply.Slept due) }) ∷ past) x ≡ still_ahead (clock past) due
  slept-now = sleeps-own (plan_of set) workers limit w x (Answer x (reply.Slept due)) past legal (eq-eqb x x refl) ∙ ap (λ (o : Option Finished). unless_ended o (still_ahead (clock past) due)) lives

  slept-other : (y : ℕ) → (x == y) ≡ false → sleeps (plan_of set) ((record { worker = w; kind = Answer x (reply.Slept due) }) ∷ past) y ≡ sleeps (plan_of set) past y
  slept-other y ne = sleeps-same (plan_of set) (plan-laws set) workers limit (record { worker = w; kind = Answer x (reply.Slept due) }) past y legal ne (λ n. refl)

  -- the moment is beyond the clock
  pub sleepers-asleep : {sleepers : List (ℕ × ℕ)} (new : List (ℕ × ℕ)) → nat_lt (clock past) due ≡ true → ((calls : List Call) → sleep.Stands calls sleepers → sleep.Stands (Slept x due ∷ calls) new)
      → SleepersStand set past sleepers → SleepersStand set ((record { worker = w; kind = Answer x (reply.Slept due) }) ∷ past) new
  sleepers-asleep new ahead slept st = record {
    calls = Slept x due ∷ st.calls;
    stands = slept st.calls st.stands;
    moments = λ y. elim (cases_Bool (x == y)) [
      | inl t ↦ ap (λ (v : Bool). cond v (Some due) (sleep.sleeps st.calls y)) t
          ∙ sym (subst (λ (n : ℕ). sleeps (plan_of set) ((record { worker = w; kind = Answer x (reply.Slept due) }) ∷ past) n ≡ Some due) (eqb-true x y t) (slept-now ∙ ap (λ (v : Bool). cond v (Some due) None) ahead))
      | inr f ↦ ap (λ (v : Bool). cond v (Some due) (sleep.sleeps st.calls y)) f ∙ (st.moments y ∙ sym (slept-other y f))
    ];
  }

  -- it isn't, so it goes on
  pub sleepers-awake : {sleepers : List (ℕ × ℕ)} → nat_lt (clock past) due ≡ false → place (plan_of set) past x ≡ Some place_is.Ready
      → SleepersStand set past sleepers → SleepersStand set ((record { worker = w; kind = Answer x (reply.Slept due) }) ∷ past) sleepers
  sleepers-awake come ready st = record {
    calls = st.calls;
    stands = st.stands;
    moments = λ y. elim (cases_Bool (x == y)) [
      | inl t ↦ subst (λ (n : ℕ). sleep.sleeps st.calls n ≡ sleeps (plan_of set) ((record { worker = w; kind = Answer x (reply.Slept due) }) ∷ past) n) (eqb-true x y t)
          (st.moments x ∙ (ready-awake (plan_of set) past x ready ∙ sym (slept-now ∙ ap (λ (v : Bool). cond v (Some due) None) come)))
      | inr f ↦ st.moments y ∙ sym (slept-other y f)
    ];
  }
