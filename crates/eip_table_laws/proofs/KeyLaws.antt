-- What the calls that a journal gives for the table of keys say: who claimed what, how each ended, and who holds a key.
use Rattle.std.specs.Prelude.{not}
use Rattle.std.proofs.Common.{◌≡◌, ℕ, zero, suc, Bool, true, false, ◌&&◌, ◌||◌, ◌==◌, cond, List, [], ◌∷◌, ◌++◌, filter_map, Option, Some, None, option_map, bytes_eq, inl, inr, refl, sym, ap, ◌∙◌, eq-eqb}
use Rattle.std.specs.List.{slice_get, list_any, cons_option as list_cons}
use Rattle.std.proofs.lemmas.Bool.{cases_Bool, eqb-true, and_parts, and_from, or_cases, or_left, or_right, both_ways}
use Rattle.std.proofs.lemmas.List.{append-nil, append_assoc}
use Rattle.std.proofs.lemmas.Slice.Eq.{bytes_eq-Decides}
use Rattle.eip_exchange.specs.declared.end.End.{End}
use Rattle.eip_exchange.specs.declared.end.End.TheVariants as end
use Rattle.eip_exchange.specs.declared.end.Ended.{Ended as Finished}
use Rattle.eip_exchange.specs.declared.end.Ending.{Ending}
use Rattle.eip_exchange.specs.Ends.{ending_of}
use Rattle.eip_route.specs.declared.route.RouteSet.{RouteSet}
use Rattle.eip_frames.specs.declared.answer.Answer.{Answer as Reply}
use Rattle.eip_frames.specs.declared.answer.Answer.TheVariants as reply
use Rattle.eip_frames.specs.declared.request.Request.{Request}
use Rattle.eip_frames.specs.declared.request.Request.TheVariants as request
use Rattle.eip_ledger.specs.declared.entry.Entry.{Entry}
use Rattle.eip_ledger.specs.declared.entry.Kind.{Kind}
use Rattle.eip_ledger.specs.declared.entry.Kind.TheVariants.{Answer, Starve}
use Rattle.eip_idempotent.specs.Keys as keys
use Rattle.eip_idempotent.specs.Keys.{Call, ClaimView, IsAnswer, claim, end_of, claims_of, is_on, is_held}
use Rattle.eip_idempotent.specs.declared.repo.Offered.TheVariants as offered
use Rattle.eip_history.specs.Plan.{Plan}
use Rattle.eip_history.specs.Own.{Past, concerns, answer_in, is_starve}
use Rattle.eip_history.specs.Births.{Asked, story, asked}
use Rattle.eip_history.specs.Place.{ended}
use Rattle.eip_history.specs.Rules.{KeepsRules, Claim, claims, claim_of, claim_for, completes, holds, holder_of, served, served_in, served_by}
use Rattle.eip_history.specs.Keys.{Holds}
use Rattle.eip_history.proofs.Acting.{ended-beside}
use Rattle.eip_history.proofs.Keys.{claims-more, free-none, least-some}
use Rattle.eip_history.proofs.Moves.{ends-nobody}
use Rattle.eip_history.proofs.Unborn.{legal-tail, legal-may, entry-born}
use Rattle.eip_plan.specs.Plan.{plan_of}
use Rattle.eip_plan.proofs.Laws.{plan-laws}
use Rattle.eip_tables.specs.Keys.{claims_for, claims_by, settles, calls_in, key_calls}
use Rattle.eip_table_laws.proofs.JoinsKept.{lived}

-- ---- claims

-- a claim as the table has it
abbrev pub claim_view : Claim → ClaimView
claim_view c = claim (c.repository, c.key) c.eager c.remove

-- the claims of one exchange
abbrev pub views : ℕ → List Claim → List ClaimView
views x [] = []
views x (c ∷ cs) = cond (c.number == x) (claim_view c ∷ views x cs) (views x cs)

views-append : (x : ℕ) (cs ds : List Claim) → views x (cs ++ ds) ≡ views x cs ++ views x ds
views-append x [] ds = refl
views-append x (c ∷ cs) ds =
    let ih = views-append x cs ds in
    elim (c.number == x) as (λ v. cond v (claim_view c ∷ views x (cs ++ ds)) (views x (cs ++ ds)) ≡ cond v (claim_view c ∷ views x cs) (views x cs) ++ views x ds) [
      | true ↦ ap (λ (vs : List ClaimView). claim_view c ∷ vs) ih
      | false ↦ ih
    ]

-- a settlement claims nothing
settled-claims : (y : ℕ) (o : Option Finished) (calls : List Call) (x : ℕ) → claims_of (settles y o ++ calls) x ≡ claims_of calls x
settled-claims y None calls x = refl
settled-claims y (Some f) calls x = refl

-- an answer claims in the table what it claims in the history
answered-claims : (w : ℕ) (o : Option Asked) (a : Reply) (calls : List Call) (x : ℕ) → claims_of (claims_by o a ++ calls) x ≡ claims_of calls x ++ views x (filter_map claim_of (served_by w o a))
answered-claims w None a calls x = sym (append-nil (claims_of calls x))
answered-claims w (Some k) a calls x = by_request k.request a
  where
    by_request : (q : Request) (b : Reply) → claims_of (claims_for k q b ++ calls) x ≡ claims_of calls x ++ views x (list_cons (claim_for k.birth.number q b) [])
    by_request (request.Idem r key eager remove) reply.Fresh =
        elim (k.birth.number == x) as (λ v. cond v (claims_of calls x ++ claim (r, key) eager remove ∷ []) (claims_of calls x) ≡ claims_of calls x ++ cond v (claim (r, key) eager remove ∷ []) []) [
          | true ↦ refl
          | false ↦ sym (append-nil (claims_of calls x))
        ]
    by_request _ _ = sym (append-nil (claims_of calls x))

claims-in : (set : RouteSet) (past : Past) (x w : ℕ) (k : Kind) (calls : List Call)
    → claims_of (calls_in set past w k ++ calls) x ≡ claims_of calls x ++ views x (filter_map claim_of (served_in (plan_of set) past w k))
claims-in set past x w (Answer y a) calls =
    let o = ended (plan_of set) ((record { worker = w; kind = Answer y a }) ∷ past) y in
    let k = asked (plan_of set) past y in
    ap (λ (cs : List Call). claims_of cs x) (append_assoc (settles y o) (claims_by k a) calls)
    ∙ (settled-claims y o (claims_by k a ++ calls) x ∙ answered-claims w k a calls x)
claims-in set past x w (Starve y) calls =
    settled-claims y (ended (plan_of set) ((record { worker = w; kind = Starve y }) ∷ past) y) calls x ∙ sym (append-nil (claims_of calls x))
claims-in set past x w _ calls = sym (append-nil (claims_of calls x))

-- the calls have the claims of each exchange
pub claims-are : (set : RouteSet) (past : Past) (x : ℕ) → claims_of (key_calls set past) x ≡ views x (claims (plan_of set) past)
unfolding key_calls served
claims-are set [] x = refl
claims-are set (e ∷ past) x =
    let s = plan_of set in
    let new : List Claim = filter_map claim_of (served_in s past e.worker e.kind) in
    claims-in set past x e.worker e.kind (key_calls set past)
    ∙ (ap (λ (vs : List ClaimView). vs ++ views x new) (claims-are set past x)
    ∙ (sym (views-append x (claims s past) new) ∙ ap (views x) (sym (claims-more s e past))))

-- ---- ends

abbrev pub ending_in : Option Finished → Option Ending
ending_in o = option_map (λ (f : Finished). ending_of f.end) o

-- a claim settles nobody
claims-settle : (o : Option Asked) (a : Reply) (calls : List Call) (x : ℕ) → end_of (claims_by o a ++ calls) x ≡ end_of calls x
claims-settle None a calls x = refl
claims-settle (Some k) a calls x = by_request k.request a
  where
    by_request : (q : Request) (b : Reply) → end_of (claims_for k q b ++ calls) x ≡ end_of calls x
    by_request (request.Idem r key eager remove) reply.Fresh = refl
    by_request _ _ = refl

settles-other : (y : ℕ) (o : Option Finished) (calls : List Call) (x : ℕ) → (y == x) ≡ false → end_of (settles y o ++ calls) x ≡ end_of calls x
settles-other y None calls x ne = refl
settles-other y (Some f) calls x ne = rw ne refl

settles-own : (y : ℕ) (o was : Option Finished) (calls : List Call) (x : ℕ) → (y == x) ≡ true → (o ≡ None → was ≡ None) → end_of calls x ≡ ending_in was → end_of (settles y o ++ calls) x ≡ ending_in o
settles-own y None was calls x t lives h = h ∙ ap ending_in (lives refl)
settles-own y (Some f) was calls x t lives h = rw t refl

-- an entry that answers nothing and starves nobody ends nobody, born or not
quiet-ends : (set : RouteSet) (workers limit : ℕ) (e : Entry) (past : Past) (x : ℕ) → KeepsRules (plan_of set) workers limit (e ∷ past) → answer_in e.kind ≡ [] → is_starve e.kind ≡ false
    → ended (plan_of set) (e ∷ past) x ≡ ended (plan_of set) past x
quiet-ends set workers limit e past x legal a v =
    let s = plan_of set in
    elim (cases_Bool (concerns x e.kind)) [
      | inl t ↦ (let b = entry-born s limit past e.worker x e.kind (legal-may s workers limit e past legal) t in ends-nobody s e past a v x b.0 b.1)
      | inr f ↦ ended-beside s (plan-laws set) workers limit e past x legal f
    ]

none-ended : (s : Plan) (x : ℕ) → ended s [] x ≡ None
unfolding ended story
none-ended s zero = refl
none-ended s (suc i) = refl

ends-in : (set : RouteSet) (workers limit : ℕ) (past : Past) (x w : ℕ) (k : Kind) (calls : List Call) → KeepsRules (plan_of set) workers limit ((record { worker = w; kind = k }) ∷ past)
    → end_of calls x ≡ ending_in (ended (plan_of set) past x) → end_of (calls_in set past w k ++ calls) x ≡ ending_in (ended (plan_of set) ((record { worker = w; kind = k }) ∷ past) x)
ends-in set workers limit past x w (Answer y a) calls legal ih =
    let s = plan_of set in
    let e : Entry = record { worker = w; kind = Answer y a } in
    let o = ended s (e ∷ past) y in
    let k = asked s past y in
    let before : end_of (claims_by k a ++ calls) x ≡ ending_in (ended s past x) = claims-settle k a calls x ∙ ih in
    ap (λ (cs : List Call). end_of cs x) (append_assoc (settles y o) (claims_by k a) calls)
    ∙ elim (cases_Bool (y == x)) [
      | inl t ↦ (let same : y ≡ x = eqb-true y x t in
          settles-own y o (ended s past x) (claims_by k a ++ calls) x t (λ (n : o ≡ None). lived s workers limit e past x legal (ap (ended s (e ∷ past)) (sym same) ∙ n)) before
          ∙ ap (λ (n : ℕ). ending_in (ended s (e ∷ past) n)) same)
      | inr f ↦ settles-other y o (claims_by k a ++ calls) x f ∙ (before ∙ ap ending_in (sym (ended-beside s (plan-laws set) workers limit e past x legal f)))
    ]
ends-in set workers limit past x w (Starve y) calls legal ih =
    let s = plan_of set in
    let e : Entry = record { worker = w; kind = Starve y } in
    let o = ended s (e ∷ past) y in
    elim (cases_Bool (y == x)) [
      | inl t ↦ (let same : y ≡ x = eqb-true y x t in
          settles-own y o (ended s past x) calls x t (λ (n : o ≡ None). lived s workers limit e past x legal (ap (ended s (e ∷ past)) (sym same) ∙ n)) ih
          ∙ ap (λ (n : ℕ). ending_in (ended s (e ∷ past) n)) same)
      | inr f ↦ settles-other y o calls x f ∙ (ih ∙ ap ending_in (sym (ended-beside s (plan-laws set) workers limit e past x legal f)))
    ]
ends-in set workers limit past x w k calls legal ih = ih ∙ ap ending_in (sym (quiet-ends set workers limit (record { worker = w; kind = k }) past x legal refl refl))

-- the calls settle who has ended, as it ended
pub ends-are : (set : RouteSet) (workers limit : ℕ) (past : Past) (x : ℕ) → KeepsRules (plan_of set) workers limit past → end_of (key_calls set past) x ≡ ending_in (ended (plan_of set) past x)
unfolding key_calls
ends-are set workers limit [] x legal = sym (ap ending_in (none-ended (plan_of set) x))
ends-are set workers limit (e ∷ past) x legal =
    ends-in set workers limit past x e.worker e.kind (key_calls set past) legal (ends-are set workers limit past x (legal-tail (plan_of set) workers limit e past legal))

-- ---- holders

same-held : (c : Claim) (o : Option Finished) → is_held (ending_in o) (claim_view c) ≡ holds c o
same-held c None = refl
same-held c (Some f) = by_end f.end
  where
    by_end : (e : End) → is_held (Some (ending_of e)) (claim_view c) ≡ (completes e || not c.remove)
    by_end end.Completed = refl
    by_end end.Handled = refl
    by_end (end.Failed g) = refl

any-view : (p : ClaimView → Bool) (x : ℕ) (cs : List Claim) → list_any p (views x cs) ≡ true → (i : ℕ) × (c : Claim) × (slice_get cs i ≡ Some c) × (c.number ≡ x) × (p (claim_view c) ≡ true)
any-view p x [] h = absurd (cc h)
any-view p x (c ∷ cs) h = elim (cases_Bool (c.number == x)) [
  | inl t ↦ elim (or_cases (p (claim_view c)) (list_any p (views x cs)) (rw t at h)) [
    | inl u ↦ (0, c, refl, eqb-true c.number x t, u)
    | inr u ↦ (let r = any-view p x cs u in (suc r.0, r.1, r.2, r.3, r.4))
  ]
  | inr f ↦ (let r = any-view p x cs (rw f at h) in (suc r.0, r.1, r.2, r.3, r.4))
]

view-any : (p : ClaimView → Bool) (x : ℕ) (cs : List Claim) (i : ℕ) (c : Claim) → slice_get cs i ≡ Some c → c.number ≡ x → p (claim_view c) ≡ true → list_any p (views x cs) ≡ true
view-any p x [] i c at n t = absurd (cc at)
view-any p x (d ∷ cs) zero c at n t =
    let same : d ≡ c = cc in
    let own : (d.number == x) ≡ true = eq-eqb d.number x (ap (λ (b : Claim). b.number) same ∙ n) in
    rw own (or_left (p (claim_view d)) (list_any p (views x cs)) (ap (λ (b : Claim). p (claim_view b)) same ∙ t))
view-any p x (d ∷ cs) (suc i) c at n t =
    let ih = view-any p x cs i c at n t in
    elim (d.number == x) as (λ v. list_any p (cond v (claim_view d ∷ views x cs) (views x cs)) ≡ true) [
      | true ↦ or_right (p (claim_view d)) (list_any p (views x cs)) ih
      | false ↦ ih
    ]

module _ (set : RouteSet) (workers limit : ℕ) (past : Past) (legal : KeepsRules (plan_of set) workers limit past) (r k : List ℕ) where
  abbrev held_as : Option Ending → ClaimView → Bool
  held_as o c = is_on (r, k) c && is_held o c

  holds-is : (x : ℕ) → keys.holds (key_calls set past) (r, k) x ≡ list_any (held_as (ending_in (ended (plan_of set) past x))) (views x (claims (plan_of set) past))
  holds-is x =
      ap (λ (o : Option Ending). list_any (held_as o) (claims_of (key_calls set past) x)) (ends-are set workers limit past x legal)
      ∙ ap (list_any (held_as (ending_in (ended (plan_of set) past x)))) (claims-are set past x)

  its-holder : (x : ℕ) → keys.holds (key_calls set past) (r, k) x ≡ true → Holds (plan_of set) past r k x
  its-holder x h =
      let o = ended (plan_of set) past x in
      let c = any-view (held_as (ending_in o)) x (claims (plan_of set) past) (sym (holds-is x) ∙ h) in
      let both = and_parts (is_on (r, k) (claim_view c.1)) (is_held (ending_in o) (claim_view c.1)) c.4 in
      let pair = and_parts (bytes_eq c.1.repository r) (bytes_eq c.1.key k) both.0 in
      record {
        claim = c.1;
        index = c.0;
        at = c.2;
        number = c.3;
        to_repository = (bytes_eq-Decides c.1.repository r).0 pair.0;
        to_key = (bytes_eq-Decides c.1.key k).0 pair.1;
        holding = sym (same-held c.1 o) ∙ both.1;
      }

  holder-its : (x : ℕ) → Holds (plan_of set) past r k x → keys.holds (key_calls set past) (r, k) x ≡ true
  holder-its x h =
      let o = ended (plan_of set) past x in
      let on : is_on (r, k) (claim_view h.claim) ≡ true = and_from (bytes_eq h.claim.repository r) (bytes_eq h.claim.key k) ((bytes_eq-Decides h.claim.repository r).1 h.to_repository) ((bytes_eq-Decides h.claim.key k).1 h.to_key) in
      holds-is x
      ∙ view-any (held_as (ending_in o)) x (claims (plan_of set) past) h.index h.claim h.at h.number
      (and_from (is_on (r, k) (claim_view h.claim)) (is_held (ending_in o) (claim_view h.claim)) on (same-held h.claim o ∙ h.holding))

  -- where the table's answer is that nobody holds the key, the history names no holder
  pub key-free : IsAnswer (key_calls set past) (r, k) offered.Fresh → holder_of (plan_of set) past r k ≡ None
  key-free a = free-none (plan_of set) past r k (λ x held. both_ways (keys.holds (key_calls set past) (r, k) x) (a x) (holder-its x held))

  -- where the table names its least holder, the history names the same
  pub key-held : (h : ℕ) → IsAnswer (key_calls set past) (r, k) (offered.Duplicate h) → holder_of (plan_of set) past r k ≡ Some h
  key-held h a = least-some (plan_of set) past r k h (record { holder = its-holder h a.0; below_all = λ x held. a.1 x (holder-its x held) })
