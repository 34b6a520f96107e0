-- What an entry does to the claims that a table of keys has.
use Rattle.std.proofs.Common.{◌≡◌, ◌≢◌, ℕ, ◌==◌, Bool, true, false, cond, List, [], ◌∷◌, ◌++◌, filter, filter_map, map, Option, Some, None, is_some, refl, sym, ap, subst, ◌∙◌, eq-eqb, inl, inr}
use Rattle.std.specs.List.{cons_option as list_cons}
use Rattle.std.proofs.lemmas.Bool.{cases_Bool, eqb-true, and_right}
use Rattle.std.proofs.lemmas.List.{append-nil}
use Rattle.std.proofs.lemmas.List.Elements.{filter_map-append}
use Rattle.eip_exchange.specs.declared.birth.Birth.{Birth}
use Rattle.eip_exchange.specs.declared.end.Ended.{Ended as Finished}
use Rattle.eip_frames.specs.declared.answer.Answer.{Answer as Reply}
use Rattle.eip_frames.specs.declared.answer.Answer.TheVariants as reply
use Rattle.eip_frames.specs.declared.request.Request.{Request}
use Rattle.eip_frames.specs.declared.request.Request.TheVariants as request
use Rattle.eip_ledger.specs.declared.entry.Entry.{Entry}
use Rattle.eip_ledger.specs.declared.entry.Kind.{Kind}
use Rattle.eip_ledger.specs.declared.entry.Kind.TheVariants.{Answer, Starve}
use Rattle.eip_history.specs.Plan.{Plan}
use Rattle.eip_history.specs.Own.{Past, concerns, answer_in, is_starve, numbered}
use Rattle.eip_history.specs.Births.{Asked, births, asked}
use Rattle.eip_history.specs.Place.{ended}
use Rattle.eip_history.specs.Rules.{KeepsRules, Claim, claims, claim_of, claim_for, claimer, holder_of, keeps, holds, lasts, least, is_key, is_claim_of, served, served_in, served_by}
use Rattle.eip_history.specs.Kept.{Hold, hold_by, hold_at, kept, turned, holds_key, hold_number, holding_numbers, is_fresh, moves_keys}
use Rattle.eip_history.proofs.Unborn.{asked-born, birth-stays}
use Rattle.eip_history.proofs.Parts.{numbered-number, asked-birth}
use Rattle.eip_history.proofs.Places.{EndsNone, ended-other}
use Rattle.eip_history.proofs.Final.{ended-stays}
use Rattle.eip_history.proofs.Moves.{ends-nobody}
use Rattle.eip_history.proofs.Keys.{claims-more}

-- who holds a key is told by the kept claims alone
holds-keeps : (c : Claim) (o : Option Finished) → keeps c o ≡ false → holds c o ≡ false
holds-keeps c None h = absurd (cc h)
holds-keeps c (Some f) h = h

numbers-kept : (s : Plan) (past : Past) (r k : List ℕ) (cs : List Claim)
    → map claimer (filter (is_claim_of s past r k) cs) ≡ holding_numbers r k (filter_map (hold_at s past) cs)
numbers-kept s past r k [] = refl
numbers-kept s past r k (c ∷ cs) =
    let ih = numbers-kept s past r k cs in
    elim (cases_Bool (keeps c (ended s past c.number))) [
      | inl t ↦ rw t (elim (is_claim_of s past r k c) as (λ v. map claimer (cond v (c ∷ filter (is_claim_of s past r k) cs) (filter (is_claim_of s past r k) cs))
          ≡ map hold_number (cond v ((record { claim = c; held = holds c (ended s past c.number) }) ∷ filter (holds_key r k) (filter_map (hold_at s past) cs))
          (filter (holds_key r k) (filter_map (hold_at s past) cs)))) [ true ↦ ap (λ xs. c.number ∷ xs) ih | false ↦ ih ])
      | inr f ↦ rw (f, holds-keeps c (ended s past c.number) f, and_right (is_key r k c) false refl) ih
    ]

pub holder-kept : (s : Plan) (past : Past) (r k : List ℕ) → holder_of s past r k ≡ least (holding_numbers r k (kept s past))
unfolding holder_of kept
holder-kept s past r k = ap least (numbers-kept s past r k (claims s past))

-- ---- who claims is born

abbrev pub IsBorn : Plan → Past → ℕ → Type 0
IsBorn s past x = (b : Birth) × (numbered (births s past) x ≡ Some b)

abbrev pub AllBorn : Plan → Past → List Claim → Type 0
AllBorn s past [] = Unit {0}
AllBorn s past (c ∷ cs) = IsBorn s past c.number × AllBorn s past cs

born-append : (s : Plan) (past : Past) (xs ys : List Claim) → AllBorn s past xs → AllBorn s past ys → AllBorn s past (xs ++ ys)
born-append s past [] ys a b = b
born-append s past (x ∷ xs) ys a b = (a.0, born-append s past xs ys a.1 b)

born-stays : (s : Plan) (e : Entry) (past : Past) (xs : List Claim) → AllBorn s past xs → AllBorn s (e ∷ past) xs
born-stays s e past [] a = tt
born-stays s e past (x ∷ xs) a = ((a.0.0, birth-stays s e past x.number a.0.0 a.0.1), born-stays s e past xs a.1)

born-for : (s : Plan) (past : Past) (x : ℕ) (a : Reply) (w : ℕ) (k : Asked) → k.birth.number ≡ x → IsBorn s past x
    → AllBorn s past (filter_map claim_of (served_by w (Some k) a))
born-for s past x a w k n born = by_claim (claim_for k.birth.number k.request a) refl
  where
    number-of : (q : Request) (a : Reply) (y : ℕ) (c : Claim) → claim_for y q a ≡ Some c → c.number ≡ y
    number-of (request.Idem r k eager remove) reply.Fresh y c h =
        let e : (record { number = y; repository = r; key = k; eager = eager; remove = remove }) ≡ c = cc in sym (ap (λ (d : Claim). d.number) e)
    number-of _ _ y c h = absurd (cc h)

    by_claim : (o : Option Claim) → claim_for k.birth.number k.request a ≡ o → AllBorn s past (filter_map claim_of (served_by w (Some k) a))
    by_claim None h = rw h tt
    by_claim (Some c) h = rw h (subst (IsBorn s past) (sym (number-of k.request a k.birth.number c h ∙ n)) born, tt)

born-in : (s : Plan) (past : Past) (w : ℕ) (k : Kind) → AllBorn s past (filter_map claim_of (served_in s past w k))
born-in s past w (Answer x a) = by_asked (asked s past x) refl
  where
    by_asked : (o : Option Asked) → asked s past x ≡ o → AllBorn s past (filter_map claim_of (served_by w o a))
    by_asked None h = tt
    by_asked (Some k) h =
        let b = asked-born s past x k h in
        let same = asked-birth b.0 _ k b.2 in
        let n = numbered-number s past x b.0 b.1 in
        born-for s past x a w k (ap (λ (d : Birth). d.number) same ∙ n) (b.0, b.1)
born-in s past w _ = tt

pub claims-born : (s : Plan) (past : Past) → AllBorn s past (claims s past)
unfolding served
claims-born s [] = tt
claims-born s (e ∷ past) =
    rw (claims-more s e past)
    (born-append s (e ∷ past) (claims s past) (filter_map claim_of (served_in s past e.worker e.kind))
    (born-stays s e past (claims s past) (claims-born s past))
    (born-stays s e past (filter_map claim_of (served_in s past e.worker e.kind)) (born-in s past e.worker e.kind)))

-- what an entry claims
abbrev pub claimed : Plan → Entry → Past → List Claim
claimed s e past = filter_map claim_of (served_in s past e.worker e.kind)

-- the claims behind an entry: those before, as their exchanges' ends leave them now, and what it claims
pub kept-more : (s : Plan) (e : Entry) (past : Past)
    → kept s (e ∷ past) ≡ filter_map (hold_at s (e ∷ past)) (claims s past) ++ filter_map (hold_at s (e ∷ past)) (claimed s e past)
unfolding kept
kept-more s e past =
    ap (filter_map (hold_at s (e ∷ past))) (claims-more s e past) ∙ filter_map-append (hold_at s (e ∷ past)) (claims s past) (claimed s e past)

kept-all : (s : Plan) (past past' : Past) (cs : List Claim) → AllBorn s past cs → ((x : ℕ) → IsBorn s past x → ended s past' x ≡ ended s past x)
    → filter_map (hold_at s past') cs ≡ filter_map (hold_at s past) cs
kept-all s past past' [] born h = refl
kept-all s past past' (c ∷ cs) born h =
    ap (λ o. list_cons (hold_by o c) (filter_map (hold_at s past') cs)) (h c.number born.0) ∙ ap (list_cons (hold_at s past c)) (kept-all s past past' cs born.1 h)

-- an entry that ends nobody turns no claim
pub kept-same : (s : Plan) (e : Entry) (past : Past) → EndsNone s e past
    → kept s (e ∷ past) ≡ kept s past ++ filter_map (hold_at s (e ∷ past)) (claimed s e past)
unfolding kept
kept-same s e past none =
    kept-more s e past
    ∙ ap (λ xs. xs ++ filter_map (hold_at s (e ∷ past)) (claimed s e past)) (kept-all s past (e ∷ past) (claims s past) (claims-born s past) (λ x b. none x b.0 b.1))

-- a claim behind an entry of x, made of what it was before
turned-own : (x : ℕ) (o : Option Finished) (c : Claim) → (c.number == x) ≡ true → (hs : List Hold)
    → list_cons (hold_by o c) (filter_map (turned x o) hs) ≡ filter_map (turned x o) (list_cons (hold_by None c) hs)
turned-own x None c t hs = refl
turned-own x (Some f) c t hs = rw t (elim (lasts c f) as (λ v. list_cons (cond v (Some (record { claim = c; held = v })) None) (filter_map (turned x (Some f)) hs)
    ≡ list_cons (cond v (Some (record { claim = c; held = true })) None) (filter_map (turned x (Some f)) hs)) [ true ↦ refl | false ↦ refl ])

turned-again : (x : ℕ) (f : Finished) (c : Claim) → (c.number == x) ≡ true → (hs : List Hold)
    → list_cons (hold_by (Some f) c) (filter_map (turned x (Some f)) hs) ≡ filter_map (turned x (Some f)) (list_cons (hold_by (Some f) c) hs)
turned-again x f c t hs = elim (cases_Bool (lasts c f)) [ inl l ↦ rw (l, t, l) refl | inr l ↦ rw l refl ]

turned-other : (x : ℕ) (o p : Option Finished) (c : Claim) → (c.number == x) ≡ false → (hs : List Hold)
    → list_cons (hold_by p c) (filter_map (turned x o) hs) ≡ filter_map (turned x o) (list_cons (hold_by p c) hs)
turned-other x None p c f hs = elim (cases_Bool (keeps c p)) [ inl l ↦ rw l refl | inr l ↦ rw l refl ]
turned-other x (Some u) p c f hs = elim (cases_Bool (keeps c p)) [ inl l ↦ rw (l, f) refl | inr l ↦ rw l refl ]

kept-turns : (s : Plan) (w limit : ℕ) (e : Entry) (past : Past) (x : ℕ) (cs : List Claim) → KeepsRules s w limit (e ∷ past)
    → ((y : ℕ) → y ≢ x → concerns y e.kind ≡ false) → AllBorn s past cs
    → filter_map (hold_at s (e ∷ past)) cs ≡ filter_map (turned x (ended s (e ∷ past) x)) (filter_map (hold_at s past) cs)
kept-turns s w limit e past x [] legal only born = refl
kept-turns s w limit e past x (c ∷ cs) legal only born =
    ap (list_cons (hold_at s (e ∷ past) c)) (kept-turns s w limit e past x cs legal only born.1)
    ∙ elim (cases_Bool (c.number == x)) [ inl t ↦ of_x t (ended s past c.number) refl | inr f ↦ of_other f ]
  where
    rest : List Hold
    rest = filter_map (hold_at s past) cs

    ne-false : (y z : ℕ) → (y == z) ≡ false → y ≡ z → ⊥
    ne-false y z f g = let k = eq-eqb y z g in cc

    of_x : (c.number == x) ≡ true → (o : Option Finished) → ended s past c.number ≡ o
        → list_cons (hold_at s (e ∷ past) c) (filter_map (turned x (ended s (e ∷ past) x)) rest)
        ≡ filter_map (turned x (ended s (e ∷ past) x)) (list_cons (hold_at s past c) rest)
    of_x t None was =
        let same : c.number ≡ x = eqb-true c.number x t in
        ap (λ n. list_cons (hold_by (ended s (e ∷ past) n) c) (filter_map (turned x (ended s (e ∷ past) x)) rest)) same
        ∙ (turned-own x (ended s (e ∷ past) x) c t rest
        ∙ ap (λ o. filter_map (turned x (ended s (e ∷ past) x)) (list_cons (hold_by o c) rest)) (sym was))
    of_x t (Some f) was =
        let same : c.number ≡ x = eqb-true c.number x t in
        let stays : ended s (e ∷ past) c.number ≡ Some f = ended-stays s w limit e past c.number legal (ap is_some was) ∙ was in
        let now : ended s (e ∷ past) x ≡ Some f = ap (ended s (e ∷ past)) (sym same) ∙ stays in
        rw (stays, now, was) (turned-again x f c t rest)

    of_other : (c.number == x) ≡ false
        → list_cons (hold_at s (e ∷ past) c) (filter_map (turned x (ended s (e ∷ past) x)) rest)
        ≡ filter_map (turned x (ended s (e ∷ past) x)) (list_cons (hold_at s past c) rest)
    of_other f =
        let ne : c.number ≢ x = λ g. ne-false c.number x f g in
        let same = ended-other s e past c.number born.0.0 born.0.1 (only c.number ne) in
        ap (λ o. list_cons (hold_by o c) (filter_map (turned x (ended s (e ∷ past) x)) rest)) same
        ∙ turned-other x (ended s (e ∷ past) x) (ended s past c.number) c f rest

-- an entry of x: x's claims turn where it ends by it
pub kept-own : (s : Plan) (w limit : ℕ) (e : Entry) (past : Past) (x : ℕ) → KeepsRules s w limit (e ∷ past) → ((y : ℕ) → y ≢ x → concerns y e.kind ≡ false)
    → kept s (e ∷ past) ≡ filter_map (turned x (ended s (e ∷ past) x)) (kept s past) ++ filter_map (hold_at s (e ∷ past)) (claimed s e past)
unfolding kept
kept-own s w limit e past x legal only =
    kept-more s e past
    ∙ ap (λ xs. xs ++ filter_map (hold_at s (e ∷ past)) (claimed s e past)) (kept-turns s w limit e past x (claims s past) legal only (claims-born s past))

-- a Fresh answer to an offered key is the one claim of its entry
pub claims-one : (s : Plan) (v x : ℕ) (past : Past) (q : Asked) (r k : List ℕ) (eager remove : Bool) → asked s past x ≡ Some q
    → q.request ≡ request.Idem r k eager remove
    → claimed s (record { worker = v; kind = Answer x reply.Fresh }) past
    ≡ (record { number = q.birth.number; repository = r; key = k; eager = eager; remove = remove }) ∷ []
claims-one s v x past q r k eager remove at same =
    ap (λ o. filter_map claim_of (served_by v o reply.Fresh)) at ∙ ap (λ u. list_cons (claim_for q.birth.number u reply.Fresh) []) same

-- no other answer claims a key
pub claims-none : (s : Plan) (v x : ℕ) (a : Reply) (past : Past) → is_fresh a ≡ false → claimed s (record { worker = v; kind = Answer x a }) past ≡ []
claims-none s v x a past h = by_asked (asked s past x)
  where
    no-claim : (y : ℕ) (q : Request) (b : Reply) → is_fresh b ≡ false → claim_for y q b ≡ None
    no-claim y (request.Idem r k eager remove) reply.Fresh g = absurd (cc g)
    no-claim y _ _ g = refl

    by_asked : (o : Option Asked) → filter_map claim_of (served_by v o a) ≡ []
    by_asked None = refl
    by_asked (Some q) = ap (λ c. list_cons c []) (no-claim q.birth.number q.request a h)

-- an entry by which nobody claims a key or ends leaves the claims as they were
pub kept-stay : (s : Plan) (v : ℕ) (k : Kind) (past : Past) → moves_keys k ≡ false → kept s ((record { worker = v; kind = k }) ∷ past) ≡ kept s past
kept-stay s v k past h =
    kept-same s e past (ends-nobody s e past (no-answer k h) (no-starve k h))
    ∙ (ap (λ cs. kept s past ++ filter_map (hold_at s (e ∷ past)) cs) (none-claimed k h) ∙ append-nil (kept s past))
  where
    e : Entry
    e = record { worker = v; kind = k }

    no-answer : (k' : Kind) → moves_keys k' ≡ false → answer_in k' ≡ []
    no-answer (Answer y a) g = absurd (cc g)
    no-answer _ g = refl

    no-starve : (k' : Kind) → moves_keys k' ≡ false → is_starve k' ≡ false
    no-starve (Starve y) g = absurd (cc g)
    no-starve _ g = refl

    none-claimed : (k' : Kind) → moves_keys k' ≡ false → claimed s (record { worker = v; kind = k' }) past ≡ []
    none-claimed (Answer y a) g = absurd (cc g)
    none-claimed _ g = refl
