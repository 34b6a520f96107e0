-- Who holds a key: what the answers say of it, that at most one eager claim holds it, and that who has ended holds on.
use Rattle.std.proofs.Common.{◌≡◌, ℕ, zero, suc, ◌+◌, ◌≤◌, Bool, true, false, ◌&&◌, min, List, [], ◌∷◌, ◌++◌, length, filter, filter_map, map, Option, Some, None, is_some, refl, sym, ap, subst, ◌∙◌, arith, cond, length-append, inl, inr}
use Rattle.std.specs.Prelude.{bytes_eq}
use Rattle.std.specs.List.{slice_get}
use Rattle.std.proofs.lemmas.Bool.{and_parts, and_right, cases_Bool}
use Rattle.std.proofs.lemmas.List.{append-nil, length-map}
use Rattle.std.proofs.lemmas.Slice.Eq.{bytes_eq-Decides}
use Rattle.std.proofs.lemmas.List.Elements.{filter_map-append, filter-append}
use Rattle.std.proofs.Math.Nat.{min-le_left, min-le_right}
use Rattle.eip_exchange.specs.declared.end.Ended.{Ended as Finished}
use Rattle.eip_frames.specs.declared.answer.Answer.{Answer as Reply}
use Rattle.eip_frames.specs.declared.answer.Answer.TheVariants as reply
use Rattle.eip_frames.specs.declared.request.Request.{Request}
use Rattle.eip_frames.specs.declared.request.Request.TheVariants as request
use Rattle.eip_frames.specs.Fits.{fits}
use Rattle.eip_ledger.specs.declared.entry.Entry.{Entry}
use Rattle.eip_ledger.specs.declared.entry.Kind.{Kind}
use Rattle.eip_ledger.specs.declared.entry.Kind.TheVariants.{Answer}
use Rattle.eip_history.specs.Plan.{Plan}
use Rattle.eip_history.specs.Own.{Past}
use Rattle.eip_history.specs.Births.{Asked, asked}
use Rattle.eip_history.specs.Place.{ended}
use Rattle.eip_history.specs.Rules.{KeepsRules, May, MayAnswer, Content, served, served_in, served_by, Claim, claims, claim_of, claim_for, claimer, keeps, holds, is_key, is_holding, is_claim_of, least, or_least, holders, holder_of}
use Rattle.eip_history.specs.Keys.{Holds, IsFree, IsLeastHolder, IsKeyAnswer, is_eager_of}
use Rattle.eip_history.proofs.AnswerFacts.{answers-to}
use Rattle.eip_history.proofs.Unborn.{legal-tail, legal-may}
use Rattle.eip_history.proofs.Final.{ended-stays}
use Rattle.eip_history.proofs.Stuck.{least-none, map-none}
use Rattle.eip_history.proofs.Ticks.{least-at}

-- ---- lists

bytes_eq-true : (xs ys : List ℕ) → bytes_eq xs ys ≡ true → xs ≡ ys
bytes_eq-true xs ys h = (bytes_eq-Decides xs ys).0 h

bytes_eq-same : (xs : List ℕ) → bytes_eq xs xs ≡ true
bytes_eq-same xs = (bytes_eq-Decides xs xs).1 refl

pub fewer : {A : Type 0} (p q : A → Bool) (xs : List A) → ((x : A) → q x ≡ true → p x ≡ true) → length (filter q xs) ≤ length (filter p xs)
fewer p q [] h = omega arith
fewer p q (x ∷ xs) h =
    let ih = fewer p q xs h in
    elim (cases_Bool (q x)) [
      | inl t ↦ rw (t, h x t) (omega (arith, ih))
      | inr f ↦ rw f (elim (p x) as (λ v. length (filter q xs) ≤ length (cond v (x ∷ filter p xs) (filter p xs))) [ true ↦ omega (arith, ih) | false ↦ ih ])
    ]

least-below : (xs : List ℕ) (t : ℕ) → least xs ≡ Some t → (j y : ℕ) → slice_get xs j ≡ Some y → t ≤ y
least-below [] t h j y at = absurd (cc at)
least-below (x ∷ xs) t h j y at = by_rest (least xs) refl h (λ u g i z a. least-below xs u g i z a) j at
  where
    by_rest : (o : Option ℕ) → least xs ≡ o → or_least x o ≡ Some t → ((u : ℕ) → least xs ≡ Some u → (i z : ℕ) → slice_get xs i ≡ Some z → u ≤ z)
        → (i : ℕ) → slice_get (x ∷ xs) i ≡ Some y → t ≤ y
    by_rest None e g ih zero a = let k : x ≡ t = cc in let l : x ≡ y = cc in omega (arith, k, l)
    by_rest None e g ih (suc i) a = let n = rw (least-none xs e) at a in absurd (cc n)
    by_rest (Some u) e g ih zero a =
        let k : min x u ≡ t = cc in
        let l : x ≡ y = cc in
        let m = min-le_left x u in
        omega (arith, k, l, m)
    by_rest (Some u) e g ih (suc i) a =
        let k : min x u ≡ t = cc in
        let l = ih u e i y a in
        let m = min-le_right x u in
        omega (arith, k, l, m)

claimer-at : (p : Claim → Bool) (cs : List Claim) (i h : ℕ) → slice_get (map claimer (filter p cs)) i ≡ Some h
    → (j : ℕ) × (c : Claim) × (slice_get cs j ≡ Some c) × (c.number ≡ h) × (p c ≡ true)
claimer-at p [] i h at = absurd (cc at)
claimer-at p (c ∷ cs) i h at = by_test (p c) refl i at (λ k g. claimer-at p cs k h g)
  where
    by_test : (v : Bool) → p c ≡ v → (i : ℕ) → slice_get (map claimer (cond v (c ∷ filter p cs) (filter p cs))) i ≡ Some h
        → ((k : ℕ) → slice_get (map claimer (filter p cs)) k ≡ Some h → (j : ℕ) × (d : Claim) × (slice_get cs j ≡ Some d) × (d.number ≡ h) × (p d ≡ true))
        → (j : ℕ) × (d : Claim) × (slice_get (c ∷ cs) j ≡ Some d) × (d.number ≡ h) × (p d ≡ true)
    by_test true t zero g ih = (0, c, refl, cc, t)
    by_test true t (suc k) g ih = let r = ih k g in (suc r.0, r.1, r.2, r.3, r.4)
    by_test false t k g ih = let r = ih k g in (suc r.0, r.1, r.2, r.3, r.4)

at-claimer : (p : Claim → Bool) (cs : List Claim) (j : ℕ) (c : Claim) → slice_get cs j ≡ Some c → p c ≡ true
    → (i : ℕ) × (slice_get (map claimer (filter p cs)) i ≡ Some c.number)
at-claimer p [] j c at t = absurd (cc at)
at-claimer p (d ∷ cs) zero c at t =
    let e : d ≡ c = cc in
    let u : p d ≡ true = ap p e ∙ t in
    (0, rw u (ap (λ (b : Claim). Some b.number) e))
at-claimer p (d ∷ cs) (suc j) c at t =
    let r = at-claimer p cs j c at t in
    elim (cases_Bool (p d)) [ inl u ↦ (suc r.0, rw u r.1) | inr u ↦ (r.0, rw u r.1) ]

-- ---- who holds a key

holder-in : (s : Plan) (past : Past) (r k : List ℕ) (i h : ℕ) → slice_get (holders s past r k) i ≡ Some h → Holds s past r k h
holder-in s past r k i h at =
    let c = claimer-at (is_claim_of s past r k) (claims s past) i h at in
    let both = and_parts (is_key r k c.1) (is_holding s past c.1) c.4 in
    let pair = and_parts (bytes_eq c.1.repository r) (bytes_eq c.1.key k) both.0 in
    record {
      claim = c.1;
      index = c.0;
      at = c.2;
      number = c.3;
      to_repository = bytes_eq-true c.1.repository r pair.0;
      to_key = bytes_eq-true c.1.key k pair.1;
      holding = subst (λ (n : ℕ). holds c.1 (ended s past n) ≡ true) c.3 both.1;
    }

in-holders : (s : Plan) (past : Past) (r k : List ℕ) (x : ℕ) → Holds s past r k x → (i : ℕ) × (slice_get (holders s past r k) i ≡ Some x)
in-holders s past r k x h =
    let a : bytes_eq h.claim.repository r ≡ true = subst (λ (v : List ℕ). bytes_eq h.claim.repository v ≡ true) h.to_repository (bytes_eq-same h.claim.repository) in
    let b : bytes_eq h.claim.key k ≡ true = subst (λ (v : List ℕ). bytes_eq h.claim.key v ≡ true) h.to_key (bytes_eq-same h.claim.key) in
    let c : is_holding s past h.claim ≡ true = subst (λ (n : ℕ). holds h.claim (ended s past n) ≡ true) (sym h.number) h.holding in
    let t : is_claim_of s past r k h.claim ≡ true = both_true a b c in
    let i = at-claimer (is_claim_of s past r k) (claims s past) h.index h.claim h.at t in
    (i.0, i.1 ∙ ap Some h.number)
  where
    both_true : {u v w : Bool} → u ≡ true → v ≡ true → w ≡ true → ((u && v) && w) ≡ true
    both_true a b c = rw (a, b, c) refl

-- where no least holder is named nobody holds the key
pub none-holds : (s : Plan) (past : Past) (r k : List ℕ) → holder_of s past r k ≡ None → IsFree s past r k
unfolding holder_of
none-holds s past r k h x held =
    let i = in-holders s past r k x held in
    let g = rw (least-none (holders s past r k) h) at i.1 in
    cc g

-- who is named is the least holder
pub least-holds : (s : Plan) (past : Past) (r k : List ℕ) (h : ℕ) → holder_of s past r k ≡ Some h → IsLeastHolder s past r k h
unfolding holder_of
least-holds s past r k h e =
    let i = least-at (holders s past r k) h e in
    record {
      holder = holder-in s past r k i.0 h i.1;
      below_all = λ x held. let j = in-holders s past r k x held in least-below (holders s past r k) h e j.0 x j.1;
    }

-- where nobody holds the key nobody is named
pub free-none : (s : Plan) (past : Past) (r k : List ℕ) → IsFree s past r k → holder_of s past r k ≡ None
free-none s past r k free = by_holder (holder_of s past r k) refl
  where
    by_holder : (o : Option ℕ) → holder_of s past r k ≡ o → o ≡ None
    by_holder None e = refl
    by_holder (Some h) e = absurd (free h (least-holds s past r k h e).holder)

-- the least holder is named
pub least-some : (s : Plan) (past : Past) (r k : List ℕ) (h : ℕ) → IsLeastHolder s past r k h → holder_of s past r k ≡ Some h
least-some s past r k h l = by_holder (holder_of s past r k) refl
  where
    by_holder : (o : Option ℕ) → holder_of s past r k ≡ o → o ≡ Some h
    by_holder None e = absurd (none-holds s past r k e h l.holder)
    by_holder (Some x) e =
        let m = least-holds s past r k x e in
        let a = l.below_all x m.holder in
        let b = m.below_all h l.holder in
        let same : x ≡ h = omega (arith, a, b) in
        ap Some same

-- the answer to an offered key is Fresh where nobody holds it, else it names the least holder
pub key-answered : (s : Plan) (w limit v x : ℕ) (a : Reply) (past : Past) (q : Asked) (r k : List ℕ) (eager remove : Bool)
    → KeepsRules s w limit ((record { worker = v; kind = Answer x a }) ∷ past) → asked s past x ≡ Some q → q.request ≡ request.Idem r k eager remove
    → IsKeyAnswer s past r k a
key-answered s w limit v x a past q r k eager remove legal at same =
    let facts = answers-to s limit past v x a q (legal-may s w limit _ past legal) at in
    by_reply a (subst (λ (u : Request). fits u a ≡ true) same facts.fitting) (subst (λ (u : Request). Content s past q u a) same facts.content)
  where
    by_reply : (b : Reply) → fits (request.Idem r k eager remove) b ≡ true → Content s past q (request.Idem r k eager remove) b → IsKeyAnswer s past r k b
    by_reply reply.Fresh f c = inl (refl, none-holds s past r k c)
    by_reply (reply.Duplicate h) f c = inr (h, refl, least-holds s past r k h c)
    by_reply _ f c = absurd (cc f)

-- ---- what stays

-- a claim that has not been given up behind an entry had not been given up before it
pub keeps-before : (s : Plan) (w limit : ℕ) (e : Entry) (past : Past) (c : Claim) → KeepsRules s w limit (e ∷ past)
    → keeps c (ended s (e ∷ past) c.number) ≡ true → keeps c (ended s past c.number) ≡ true
keeps-before s w limit e past c legal h = by_end (ended s past c.number) refl
  where
    by_end : (o : Option Finished) → ended s past c.number ≡ o → keeps c (ended s past c.number) ≡ true
    by_end None t = rw t refl
    by_end (Some f) t = ap (keeps c) (sym (ended-stays s w limit e past c.number legal (ap is_some t))) ∙ h

-- the claims of who has ended hold or don't, for ever
pub holds-on : (s : Plan) (w limit : ℕ) (e : Entry) (past : Past) (c : Claim) → KeepsRules s w limit (e ∷ past)
    → is_some (ended s past c.number) ≡ true → is_holding s (e ∷ past) c ≡ is_holding s past c
holds-on s w limit e past c legal h = ap (holds c) (ended-stays s w limit e past c.number legal h)

-- an eager claim holds as long as it hasn't been given up
eager-keeps : (c : Claim) (o : Option Finished) → c.eager ≡ true → holds c o ≡ keeps c o
eager-keeps c None t = t
eager-keeps c (Some f) t = refl

eager-before : (s : Plan) (w limit : ℕ) (e : Entry) (past : Past) (r k : List ℕ) (c : Claim) → KeepsRules s w limit (e ∷ past)
    → is_eager_of s (e ∷ past) r k c ≡ true → is_eager_of s past r k c ≡ true
eager-before s w limit e past r k c legal h =
    let a = and_parts c.eager (is_claim_of s (e ∷ past) r k c) h in
    let b = and_parts (is_key r k c) (is_holding s (e ∷ past) c) a.1 in
    let now : keeps c (ended s (e ∷ past) c.number) ≡ true = sym (eager-keeps c (ended s (e ∷ past) c.number) a.0) ∙ b.1 in
    let was : is_holding s past c ≡ true = eager-keeps c (ended s past c.number) a.0 ∙ keeps-before s w limit e past c legal now in
    both_true a.0 b.0 was
  where
    both_true : {u v w : Bool} → u ≡ true → v ≡ true → w ≡ true → (u && (v && w)) ≡ true
    both_true a b c = rw (a, b, c) refl

held-less : (s : Plan) (w limit : ℕ) (e : Entry) (past : Past) (r k : List ℕ) (xs : List Claim) → KeepsRules s w limit (e ∷ past)
    → length (filter (is_eager_of s (e ∷ past) r k) xs) ≤ length (filter (is_eager_of s past r k) xs)
held-less s w limit e past r k xs legal =
    fewer (is_eager_of s past r k) (is_eager_of s (e ∷ past) r k) xs (λ c h. eager-before s w limit e past r k c legal h)

-- no claim holds the key that a Fresh answer gives
pub fresh-none : (s : Plan) (past : Past) (r k : List ℕ) → holder_of s past r k ≡ None → filter (is_claim_of s past r k) (claims s past) ≡ []
unfolding holder_of
fresh-none s past r k h = map-none claimer _ (least-none (holders s past r k) h)

pub claims-more : (s : Plan) (e : Entry) (past : Past) → claims s (e ∷ past) ≡ claims s past ++ filter_map claim_of (served_in s past e.worker e.kind)
unfolding served
claims-more s e past = filter_map-append claim_of (served s past) (served_in s past e.worker e.kind)

-- what an answer claims: nothing, or the key of a Fresh
pub data Claims (x : ℕ) (q : Request) (a : Reply) : Type 0 where
  NoClaim : claim_for x q a ≡ None → Claims x q a
  OneClaim : (r k : List ℕ) (eager remove : Bool) → q ≡ request.Idem r k eager remove → a ≡ reply.Fresh
      → claim_for x q a ≡ Some (record { number = x; repository = r; key = k; eager = eager; remove = remove }) → Claims x q a

claims-what : (x : ℕ) (q : Request) (a : Reply) → Claims x q a
claims-what x (request.Idem r k eager remove) reply.Fresh = OneClaim r k eager remove refl refl refl
claims-what x _ _ = NoClaim refl

-- at most one eager claim holds a key
pub one-eager-holder : (s : Plan) (w limit : ℕ) (past : Past) (r k : List ℕ) → KeepsRules s w limit past → length (filter (is_eager_of s past r k) (claims s past)) ≤ 1
unfolding served
one-eager-holder s w limit [] r k legal = omega arith
one-eager-holder s w limit (e ∷ past) r k legal =
    let ih = one-eager-holder s w limit past r k (legal-tail s w limit e past legal) in
    let old = held-less s w limit e past r k (claims s past) legal in
    by_kind e.kind (legal-may s w limit e past legal) (omega (arith, ih, old)) old
  where
    with_new : (xs : List Claim) (n : ℕ)
        → length (filter (is_eager_of s (e ∷ past) r k) (claims s past)) + length (filter (is_eager_of s (e ∷ past) r k) xs) ≤ n
        → length (filter (is_eager_of s (e ∷ past) r k) (claims s past ++ xs)) ≤ n
    with_new xs n l =
        let a = length-append (filter (is_eager_of s (e ∷ past) r k) (claims s past)) (filter (is_eager_of s (e ∷ past) r k) xs) in
        let b = ap length (filter-append (is_eager_of s (e ∷ past) r k) (claims s past) xs) in omega (arith, a, b, l)

    by_claim : (x : ℕ) (a : Reply) (m : MayAnswer s limit past e.worker x a) → Claims m.asks.birth.number m.asks.request a
        → length (filter (is_eager_of s (e ∷ past) r k) (claims s past)) ≤ 1
        → length (filter (is_eager_of s (e ∷ past) r k) (claims s past)) ≤ length (filter (is_eager_of s past r k) (claims s past))
        → length (filter (is_eager_of s (e ∷ past) r k) (claims s past ++ filter_map claim_of (served_by e.worker (Some m.asks) a))) ≤ 1
    by_claim x a m (NoClaim n) one old = rw n (with_new [] 1 (omega (arith, one)))
    by_claim x a m (OneClaim r' k' eager remove q f n) one old =
        let c : Claim = record { number = m.asks.birth.number; repository = r'; key = k'; eager = eager; remove = remove } in
        rw n (with_new (c ∷ []) 1 (elim (cases_Bool (is_eager_of s (e ∷ past) r k c)) [
          | inr no_claim ↦ rw no_claim (omega (arith, one))
          | inl yes_claim ↦ (
              let held = and_parts eager (is_claim_of s (e ∷ past) r k c) yes_claim in
              let both = and_parts (bytes_eq r' r && bytes_eq k' k) (is_holding s (e ∷ past) c) held.1 in
              let pair = and_parts (bytes_eq r' r) (bytes_eq k' k) both.0 in
              let r_same : r' ≡ r = bytes_eq-true r' r pair.0 in
              let k_same : k' ≡ k = bytes_eq-true k' k pair.1 in
              let free : holder_of s past r' k'
              ≡ None = subst (λ b. Content s past m.asks (request.Idem r' k' eager remove) b) f (subst (λ u. Content s past m.asks u a) q m.content) in
              let gone = ap length (fresh-none s past r k (subst (λ u. holder_of s past u k
              ≡ None) r_same (subst (λ u. holder_of s past r' u ≡ None) k_same free))) in
              let none = fewer (is_claim_of s past r k) (is_eager_of s past r k) (claims s past) (λ d h. (and_parts d.eager (is_claim_of s past r k d) h).1) in
              rw yes_claim (omega (arith, gone, none, old)))
        ]))

    by_kind : (kind : Kind) → May s limit past e.worker kind → length (filter (is_eager_of s (e ∷ past) r k) (claims s past)) ≤ 1
        → length (filter (is_eager_of s (e ∷ past) r k) (claims s past)) ≤ length (filter (is_eager_of s past r k) (claims s past))
        → length (filter (is_eager_of s (e ∷ past) r k) (filter_map claim_of (served s past ++ served_in s past e.worker kind))) ≤ 1
    by_kind (Answer x a) may one old =
        rw (filter_map-append claim_of (served s past) (served_in s past e.worker (Answer x a)), may.asked_is)
        (by_claim x a may (claims-what may.asks.birth.number may.asks.request a) one old)
    by_kind _ may one old = rw (append-nil (served s past)) one

-- so a key all of whose claims are eager has at most one holder
pub one-holder : (s : Plan) (w limit : ℕ) (past : Past) (r k : List ℕ) → KeepsRules s w limit past
    → ((i : ℕ) (c : Claim) → slice_get (claims s past) i ≡ Some c → is_key r k c ≡ true → c.eager ≡ true) → length (holders s past r k) ≤ 1
one-holder s w limit past r k legal eager =
    let one = one-eager-holder s w limit past r k legal in
    let same = ap length (all-eager (claims s past) eager) in
    let long = length-map (filter (is_claim_of s past r k) (claims s past)) claimer in
    omega (arith, one, same, long)
  where
    all-eager : (cs : List Claim) → ((i : ℕ) (c : Claim) → slice_get cs i ≡ Some c → is_key r k c ≡ true → c.eager ≡ true)
        → filter (is_claim_of s past r k) cs ≡ filter (is_eager_of s past r k) cs
    all-eager [] h = refl
    all-eager (c ∷ cs) h =
        let ih = all-eager cs (λ i d at t. h (suc i) d at t) in
        let same : is_claim_of s past r k c ≡ is_eager_of s past r k c = elim (cases_Bool (is_claim_of s past r k c)) [
          | inl t ↦ (let key = and_parts (is_key r k c) (is_holding s past c) t in ap (λ v. v && is_claim_of s past r k c) (sym (h 0 c refl key.0)))
          | inr f ↦ f ∙ sym (and_right c.eager (is_claim_of s past r k c) f)
        ] in
        ap (λ v. cond v (c ∷ filter (is_claim_of s past r k) cs) (filter (is_claim_of s past r k) cs)) same
        ∙ ap (λ xs. cond (is_eager_of s past r k c) (c ∷ xs) xs) ih
