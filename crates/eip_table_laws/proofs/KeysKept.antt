-- What the entries of a journal make of the table of keys.
use Rattle.std.proofs.Common.{◌≡◌, ℕ, Bool, true, false, List, [], ◌∷◌, ◌++◌, Option, Some, None, refl, sym, ap, subst, ◌∙◌}
use Rattle.eip_exchange.specs.declared.end.Ended.{Ended as Finished}
use Rattle.eip_exchange.specs.declared.end.Ending.{Ending}
use Rattle.eip_exchange.specs.Ends.{ending_of}
use Rattle.eip_route.specs.declared.route.RouteSet.{RouteSet}
use Rattle.eip_frames.specs.declared.answer.Answer.{Answer as Reply}
use Rattle.eip_frames.specs.declared.answer.Answer.TheVariants as reply
use Rattle.eip_frames.specs.declared.request.Request.{Request}
use Rattle.eip_frames.specs.declared.request.Request.TheVariants as request
use Rattle.eip_ledger.specs.declared.entry.Kind.{Kind}
use Rattle.eip_ledger.specs.declared.entry.Kind.TheVariants.{Answer, Starve}
use Rattle.eip_idempotent.specs.Keys as keys
use Rattle.eip_idempotent.specs.Keys.{Call, Claimed, Settled, Table, end_of}
use Rattle.eip_idempotent.specs.declared.repo.Offered.{Offered}
use Rattle.eip_idempotent.specs.declared.repo.Offered.TheVariants as offered
use Rattle.eip_history.specs.Own.{Past}
use Rattle.eip_history.specs.Births.{Asked, asked}
use Rattle.eip_history.specs.Place.{ended}
use Rattle.eip_history.specs.Kept.{is_fresh, moves_keys}
use Rattle.eip_history.specs.Rules.{KeepsRules, Content}
use Rattle.eip_plan.specs.Plan.{plan_of}
use Rattle.eip_tables.specs.Keys.{Offers, Settles, KeysStand, calls_in, claims_by, claims_for, settles, key_answer, key_calls}
use Rattle.eip_table_laws.proofs.KeyLaws.{ending_in, ends-are, key-free, key-held}

-- nothing has happened
pub keys-none : (set : RouteSet) (t : Table) → keys.Stands [] t → KeysStand set [] t
unfolding key_calls
keys-none set t st = record { stands = st }

-- by the calls of an entry
keys-by : (set : RouteSet) (w : ℕ) (k : Kind) (past : Past) (calls : List Call) (t : Table) → calls_in set past w k ≡ calls → keys.Stands (calls ++ key_calls set past) t → KeysStand set ((record { worker = w; kind = k }) ∷ past) t
unfolding key_calls
keys-by set w k past calls t same st = record { stands = subst (λ (cs : List Call). keys.Stands (cs ++ key_calls set past) t) (sym same) st }

-- ---- entries by which nobody claims a key or ends

silent : (set : RouteSet) (past : Past) (w : ℕ) (k : Kind) → moves_keys k ≡ false → calls_in set past w k ≡ []
silent set past w (Answer x a) h = absurd (cc h)
silent set past w (Starve x) h = absurd (cc h)
silent set past w _ h = refl

pub keys-stay : (set : RouteSet) (w : ℕ) (k : Kind) (past : Past) (t : Table) → moves_keys k ≡ false → KeysStand set past t → KeysStand set ((record { worker = w; kind = k }) ∷ past) t
keys-stay set w k past t h st = keys-by set w k past [] t (silent set past w k h) st.stands

-- no other answer claims a key
unclaimed : (o : Option Asked) (a : Reply) → is_fresh a ≡ false → claims_by o a ≡ []
unclaimed None a h = refl
unclaimed (Some k) a h = by_request k.request a h
  where
    by_request : (q : Request) (b : Reply) → is_fresh b ≡ false → claims_for k q b ≡ []
    by_request (request.Idem r key eager remove) reply.Fresh g = absurd (cc g)
    by_request _ _ g = refl

-- an answer by which its exchange claims no key and lives
pub keys-on : (set : RouteSet) (w x : ℕ) (a : Reply) (past : Past) (t : Table) → is_fresh a ≡ false → ended (plan_of set) ((record { worker = w; kind = Answer x a }) ∷ past) x ≡ None
    → KeysStand set past t → KeysStand set ((record { worker = w; kind = Answer x a }) ∷ past) t
keys-on set w x a past t h lives st =
    keys-by set w (Answer x a) past [] t (rw (lives, unclaimed (asked (plan_of set) past x) a h) refl) st.stands

-- ---- an exchange ends

module _ (set : RouteSet) (workers limit : ℕ) (past : Past) (legal : KeepsRules (plan_of set) workers limit past) (w x : ℕ) (f : Finished) (alive : ended (plan_of set) past x ≡ None) (old new : Table) (settled : Settles x (ending_of f.end) old new) (st : KeysStand set past old) where
  its-settlement : keys.Stands (Settled x (ending_of f.end) ∷ key_calls set past) new
  its-settlement = settled (key_calls set past) st.stands (ends-are set workers limit past x legal ∙ ap ending_in alive)

  pub keys-over : (a : Reply) → is_fresh a ≡ false → ended (plan_of set) ((record { worker = w; kind = Answer x a }) ∷ past) x ≡ Some f → KeysStand set ((record { worker = w; kind = Answer x a }) ∷ past) new
  keys-over a h over =
      keys-by set w (Answer x a) past (Settled x (ending_of f.end) ∷ []) new (rw (over, unclaimed (asked (plan_of set) past x) a h) refl) its-settlement

  pub keys-starved : ended (plan_of set) ((record { worker = w; kind = Starve x }) ∷ past) x ≡ Some f → KeysStand set ((record { worker = w; kind = Starve x }) ∷ past) new
  keys-starved over = keys-by set w (Starve x) past (Settled x (ending_of f.end) ∷ []) new (rw over refl) its-settlement

-- ---- an exchange offers a key

module _ (set : RouteSet) (workers limit : ℕ) (past : Past) (legal : KeepsRules (plan_of set) workers limit past) (x : ℕ) (k : Asked) (at : asked (plan_of set) past x ≡ Some k) (own : k.birth.number ≡ x)
    (r key : List ℕ) (eager remove : Bool) (is : k.request ≡ request.Idem r key eager remove) (old new : Table) (st : KeysStand set past old) where
  -- the table's answer says what it must
  pub key-content : (answer : Offered) → Offers (r, key) x eager remove answer old new → Content (plan_of set) past k (request.Idem r key eager remove) (key_answer answer)
  key-content offered.Fresh o = key-free set workers limit past legal r key (o.answers (key_calls set past) st.stands)
  key-content (offered.Duplicate h) o = key-held set workers limit past legal r key h (o.answers (key_calls set past) st.stands)

  module _ (w : ℕ) (alive : ended (plan_of set) past x ≡ None) where
    unsettled : end_of (key_calls set past) x ≡ None
    unsettled = ends-are set workers limit past x legal ∙ ap ending_in alive

    -- nobody holds it, and it claims it
    pub keys-claimed : Offers (r, key) x eager remove offered.Fresh old new → ended (plan_of set) ((record { worker = w; kind = Answer x reply.Fresh }) ∷ past) x ≡ None → KeysStand set ((record { worker = w; kind = Answer x reply.Fresh }) ∷ past) new
    keys-claimed o lives =
        keys-by set w (Answer x reply.Fresh) past (Claimed (r, key) x eager remove ∷ []) new
        (rw (lives, at) (ap (λ (q : Request). claims_for k q reply.Fresh) is ∙ ap (λ (n : ℕ). Claimed (r, key) n eager remove ∷ []) own))
        (o.stands (key_calls set past) st.stands unsettled)

    -- somebody holds it
    pub keys-refused : (h : ℕ) → Offers (r, key) x eager remove (offered.Duplicate h) old new → ended (plan_of set) ((record { worker = w; kind = Answer x (reply.Duplicate h) }) ∷ past) x ≡ None
        → KeysStand set ((record { worker = w; kind = Answer x (reply.Duplicate h) }) ∷ past) new
    keys-refused h o lives = keys-on set w x (reply.Duplicate h) past new refl lives (record { stands = o.stands (key_calls set past) st.stands unsettled })
