-- Who is in hand: the tickets behind one more entry.
use Rattle.std.proofs.Common.{◌≡◌, ◌≢◌, ℕ, zero, suc, ◌<◌, ◌≤◌, ◌⊎◌, true, false, ◌==◌, cond, List, [], ◌∷◌, length, Option, Some, None, refl, sym, ap, subst, ◌∙◌, arith, inl, inr, eq-eqb}
use Rattle.std.proofs.lemmas.Bool.{cases_Bool, cases_lt, eqb-true}
use Rattle.eip_exchange.specs.declared.birth.Birth.{Birth}
use Rattle.eip_ledger.specs.declared.entry.Entry.{Entry}
use Rattle.eip_ledger.specs.declared.place.Place.TheVariants as place_is
use Rattle.eip_ordered.specs.Numbered.{value_at, Puts}
use Rattle.eip_history.specs.Plan.{Plan}
use Rattle.eip_history.specs.Own.{Past, own, concerns, numbered, taker, taken_by}
use Rattle.eip_history.specs.Births.{births, asked, asked_of, asked_by, fate}
use Rattle.eip_history.specs.Place.{place, place_of}
use Rattle.eip_history.specs.Rules.{KeepsRules}
use Rattle.eip_history.proofs.Stuck.{Standing, InEnd, InQueue, Held, Asleep, Waits, Able, standing}
use Rattle.eip_history.proofs.Lists.{slice_get-some}
use Rattle.eip_history.proofs.Parts.{numbered-number}
use Rattle.eip_history.proofs.Places.{fate-other}
use Rattle.eip_history.proofs.Hands.{taken-in-hand}
use Rattle.eip_history.proofs.Told.{own-other, own-here}
use Rattle.eip_history.proofs.Unborn.{legal-tail, place-born, birth-stays, unborn-own}
use Rattle.eip_table_laws.proofs.HandCalls.{place-at}
use Rattle.eip_hub.specs.Ticket.{Ticket}
use Rattle.eip_audit.specs.Judging.{HandTold, HandsStand}

-- who is in hand was taken by its newest entry
in-hand-by : (s : Plan) (past : Past) (b : Birth) (w : ℕ) → place_of s past b ≡ place_is.InHand w → taker (own b.number past) ≡ Some w
in-hand-by s past b w h = by_standing (standing s past b)
  where
    by_standing : Standing s past b → taker (own b.number past) ≡ Some w
    by_standing (InEnd e p t) = absurd (let g = sym p ∙ h in cc g)
    by_standing (InQueue q o p) = absurd (let g = sym p ∙ h in cc g)
    by_standing (Held v t p) = let g : place_is.InHand v ≡ place_is.InHand w = sym p ∙ h in let e : v ≡ w = cc in t ∙ ap Some e
    by_standing (Asleep d sl lt_now p) = absurd (let g = sym p ∙ h in cc g)
    by_standing (Able p) = absurd (let g = sym p ∙ h in cc g)
    by_standing (Waits f c la a p) = absurd (let g = sym p ∙ h in cc g)

-- a birth that is taken, by its number
pub record IsTaken (s : Plan) (past : Past) (x w : ℕ) : Type 0 where
  pub birth : Birth
  pub at : numbered (births s past) x ≡ Some birth
  pub by_take : taker (own x past) ≡ Some w

pub taken-of : (s : Plan) (past : Past) (x w : ℕ) → place s past x ≡ Some (place_is.InHand w) → IsTaken s past x w
taken-of s past x w h =
    let b = place-born s past x (place_is.InHand w) h in
    let n = numbered-number s past x b.0 b.1 in
    record { birth = b.0; at = b.1; by_take = subst (λ (m : ℕ). taker (own m past) ≡ Some w) n (in-hand-by s past b.0 w b.2) }

pub in-hand-of : (s : Plan) (v limit : ℕ) (past : Past) (x w : ℕ) → KeepsRules s v limit past → IsTaken s past x w → place s past x ≡ Some (place_is.InHand w)
in-hand-of s v limit past x w legal t =
    let n = numbered-number s past x t.birth t.at in
    place-at s past x t.birth (place_is.InHand w) t.at
    (taken-in-hand s v limit past x w t.birth legal t.at (subst (λ (m : ℕ). taker (own m past) ≡ Some w) (sym n) t.by_take))

born-at : (s : Plan) (past : Past) (x : ℕ) → 0 < x → x ≤ length (births s past) → (b : Birth) × (numbered (births s past) x ≡ Some b)
born-at s past zero l m = absurd (omega (arith, l))
born-at s past (suc i) l m = slice_get-some (births s past) i (omega (arith, m))

some-number : (s : Plan) (past : Past) (x : ℕ) (b : Birth) → numbered (births s past) x ≡ Some b → 0 < x
some-number s past zero b h = absurd (cc h)
some-number s past (suc i) b h = omega arith

never-none : (s : Plan) (past : Past) (x w : ℕ) → own x past ≡ [] → taker (own x past) ≡ Some w → ⊥
never-none s past x w none t = let g : None ≡ Some w = ap taker (sym none) ∙ t in cc g

-- an entry of another leaves who is in hand there
taken-on : (s : Plan) (e : Entry) (past : Past) (x w : ℕ) → concerns x e.kind ≡ false → IsTaken s past x w → IsTaken s (e ∷ past) x w
taken-on s e past x w c t = record { birth = t.birth; at = birth-stays s e past x t.birth t.at; by_take = ap taker (own-other x e past c) ∙ t.by_take }

taken-back : (s : Plan) (v limit : ℕ) (e : Entry) (past : Past) (x w : ℕ) → KeepsRules s v limit past → concerns x e.kind ≡ false → IsTaken s (e ∷ past) x w
    → IsTaken s past x w
taken-back s v limit e past x w legal c t =
    let own_taken : taker (own x past) ≡ Some w = sym (ap taker (own-other x e past c)) ∙ t.by_take in
    by_born own_taken (cases_lt (length (births s past)) x)
  where
    by_born : taker (own x past) ≡ Some w → ((length (births s past) < x) ⊎ (x ≤ length (births s past))) → IsTaken s past x w
    by_born k (inl l) = absurd (never-none s past x w (unborn-own s v limit past x legal l) k)
    by_born k (inr m) =
        let b = born-at s past x (some-number s (e ∷ past) x t.birth t.at) m in
        record { birth = b.0; at = b.1; by_take = k }

asked-on : (s : Plan) (e : Entry) (past : Past) (x : ℕ) (b : Birth) → numbered (births s past) x ≡ Some b → concerns x e.kind ≡ false
    → asked s (e ∷ past) x ≡ asked s past x
asked-on s e past x b at c =
    let n = numbered-number s past x b at in
    let same : fate s (e ∷ past) b ≡ fate s past b = fate-other s e past b (subst (λ (m : ℕ). concerns m e.kind ≡ false) (sym n) c) in
    let now : asked s (e ∷ past) x ≡ asked_by b (fate s (e ∷ past) b) = ap (asked_of s (e ∷ past)) (birth-stays s e past x b at) in
    let was : asked s past x ≡ asked_by b (fate s past b) = ap (asked_of s past) at in
    now ∙ (ap (asked_by b) same ∙ sym was)

module _ (s : Plan) (v limit : ℕ) (e : Entry) (past : Past) (legal : KeepsRules s v limit (e ∷ past)) where
  -- the ticket of another
  pub hand-other : (x : ℕ) (o : Option Ticket) → concerns x e.kind ≡ false → HandTold s past x o → HandTold s (e ∷ past) x o
  hand-other x None c h =
      λ w there. h w (in-hand-of s v limit past x w (legal-tail s v limit e past legal) (taken-back s v limit e past x w (legal-tail s v limit e past legal) c (taken-of s (e ∷ past) x w there)))
  hand-other x (Some t) c h =
      let k = taken-of s past x t.worker h.1 in
      (h.0, in-hand-of s v limit (e ∷ past) x t.worker legal (taken-on s e past x t.worker c k), (h.2.0, (asked-on s e past x k.birth k.at c ∙ h.2.1.0, h.2.1.1)))

  -- whose own entry came, and was no take, is in nobody's hand
  pub hand-gone : (x : ℕ) → concerns x e.kind ≡ true → taken_by e.worker e.kind ≡ None → HandTold s (e ∷ past) x None
  hand-gone x c none =
      λ w there.
      let t = taken-of s (e ∷ past) x w there in
      let g : None ≡ Some w = sym none ∙ (sym (ap taker (own-here x e past c)) ∙ t.by_take) in
      cc g

  -- where the entry is of no exchange, all tickets stay
  pub hands-apart : (tickets : List (ℕ × Ticket)) → ((x : ℕ) → concerns x e.kind ≡ false) → HandsStand s past tickets → HandsStand s (e ∷ past) tickets
  hands-apart tickets c h = λ x. hand-other x (value_at tickets x) (c x) (h x)

  -- where it is of one, that one's ticket is new, or gone
  pub hands-put : (old new : List (ℕ × Ticket)) (x : ℕ) (o : Option Ticket) → ((y : ℕ) → y ≢ x → concerns y e.kind ≡ false) → Puts old new x o
      → HandTold s (e ∷ past) x o → HandsStand s past old → HandsStand s (e ∷ past) new
  hands-put old new x o c puts told h = λ y. by_number y (cases_Bool (x == y))
    where
      by_number : (y : ℕ) → ((x == y) ≡ true) ⊎ ((x == y) ≡ false) → HandTold s (e ∷ past) y (value_at new y)
      by_number y (inl t) =
          let same : x ≡ y = eqb-true x y t in
          let there : value_at new y ≡ o = puts y ∙ ap (λ b. cond b o (value_at old y)) t in
          subst (HandTold s (e ∷ past) y) (sym there) (subst (λ (n : ℕ). HandTold s (e ∷ past) n o) same told)
      by_number y (inr f) =
          let there : value_at new y ≡ value_at old y = puts y ∙ ap (λ b. cond b o (value_at old y)) f in
          subst (HandTold s (e ∷ past) y) (sym there)
          (hand-other y (value_at old y) (c y (λ same. let k = eq-eqb x y (sym same) in let g = sym k ∙ f in cc g)) (h y))

  -- nobody had it in hand, and nobody has
  pub hands-stay : (tickets : List (ℕ × Ticket)) (x : ℕ) → ((y : ℕ) → y ≢ x → concerns y e.kind ≡ false) → concerns x e.kind ≡ true → taken_by e.worker e.kind ≡ None
      → value_at tickets x ≡ None → HandsStand s past tickets → HandsStand s (e ∷ past) tickets
  hands-stay tickets x c here none free h = hands-put tickets tickets x None c puts (hand-gone x here none) h
    where
      puts : Puts tickets tickets x None
      puts y = by_number (cases_Bool (x == y))
        where
          by_number : ((x == y) ≡ true) ⊎ ((x == y) ≡ false) → value_at tickets y ≡ cond (x == y) None (value_at tickets y)
          by_number (inl t) = rw t (subst (λ (n : ℕ). value_at tickets n ≡ None) (eqb-true x y t) free)
          by_number (inr f) = rw f refl

-- who isn't in hand has no ticket
pub no-ticket : (s : Plan) (past : Past) (tickets : List (ℕ × Ticket)) (x : ℕ) → HandsStand s past tickets → ((w : ℕ) → place s past x ≡ Some (place_is.InHand w) → ⊥)
    → value_at tickets x ≡ None
no-ticket s past tickets x h out = by_ticket (value_at tickets x) refl (h x)
  where
    by_ticket : (o : Option Ticket) → value_at tickets x ≡ o → HandTold s past x o → value_at tickets x ≡ None
    by_ticket None e told = e
    by_ticket (Some t) e told = absurd (out t.worker told.1)

pub ready-free : (s : Plan) (past : Past) (tickets : List (ℕ × Ticket)) (x : ℕ) → HandsStand s past tickets → place s past x ≡ Some place_is.Ready
    → value_at tickets x ≡ None
ready-free s past tickets x h ready = no-ticket s past tickets x h (λ w there. let g = sym ready ∙ there in cc g)
