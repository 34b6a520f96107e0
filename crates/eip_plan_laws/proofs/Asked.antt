-- The parts that an exchange has asked for, by its own answers.
use Rattle.std.proofs.Common.{◌≡◌, ℕ, zero, suc, ◌==◌, Bool, true, false, cond, List, [], ◌∷◌, ◌++◌, Option, Some, None, refl, sym, ap, subst, ◌∙◌, append_assoc, append-nil, eq-eqb}
use Rattle.std.specs.List.{flat_map}
use Rattle.std.proofs.lemmas.Bool.{eqb-true}
use Rattle.std.proofs.lemmas.List.Concat.{flat_map-append}
use Rattle.eip_exchange.specs.Ends.{out_of_memory}
use Rattle.eip_exchange.specs.declared.birth.Birth.{Birth}
use Rattle.eip_frames.specs.Fate.{Fate, AsksNext, Ends, Strays}
use Rattle.eip_frames.specs.declared.answer.Answer.{Answer as Reply}
use Rattle.eip_ledger.specs.declared.entry.Entry.{Entry}
use Rattle.eip_ledger.specs.declared.entry.Kind.{Kind}
use Rattle.eip_ledger.specs.declared.entry.Kind.TheVariants.{Start, Take, Answer, Starve, Return}
use Rattle.eip_history.specs.Plan.{Plan}
use Rattle.eip_history.specs.Own.{Past, own, answers, answer_in, concerns, numbered, starved}
use Rattle.eip_history.specs.Births.{Asked, asked, asked_by, births, fate}
use Rattle.eip_history.specs.Rules.{KeepsRules, May, MayAnswer, served, served_in}
use Rattle.eip_history.proofs.Parts.{asked-birth, numbered-number}
use Rattle.eip_history.proofs.ServedSteps.{served-more, served-none}
use Rattle.eip_history.proofs.Told.{own-here, own-other, births-none}
use Rattle.eip_history.proofs.Unborn.{legal-may, legal-tail, own-none, entry-born, asked-born, birth-stays}
use Rattle.eip_plan_laws.specs.Parts.{seeds_in, seeds_for, parts_asked}
use Rattle.eip_plan_laws.proofs.InTurn.{seeds_next, seeds_before}

seeds-push : (F : List Reply → Fate) (A : List Reply) (a : Reply) → seeds_before F (A ++ a ∷ []) ≡ seeds_before F A ++ seeds_next (F A)
seeds-push F [] a = append-nil (seeds_next (F []))
seeds-push F (b ∷ A) a =
    ap (λ xs. seeds_next (F []) ++ xs) (seeds-push (λ A'. F (b ∷ A')) A a)
    ∙ sym (append_assoc (seeds_next (F [])) (seeds_before (λ A'. F (b ∷ A')) A) (seeds_next (F (b ∷ A))))

asked-seeds : (b : Birth) (f : Fate) (k : Asked) → asked_by b f ≡ Some k → seeds_in k.request ≡ seeds_next f
asked-seeds b (AsksNext q p) k h = let e : (record { birth = b; request = q; at = p }) ≡ k = cc h in sym (ap (λ (d : Asked). seeds_in d.request) e)
asked-seeds b (Ends e m) k h = absurd (cc h)
asked-seeds b Strays k h = absurd (cc h)

-- who asks wasn't starved, and asks what the meaning says
pub asks-by-meaning : (s : Plan) (past : Past) (b : Birth) (k : Asked) → asked_by b (fate s past b) ≡ Some k → asked_by b (s.mean b (answers (own b.number past))) ≡ Some k
unfolding fate
asks-by-meaning s past b k h = by_starve (starved (own b.number past)) h
  where
    by_starve : (v : Bool) → asked_by b (cond v (Ends out_of_memory b.message) (s.mean b (answers (own b.number past)))) ≡ Some k → asked_by b (s.mean b (answers (own b.number past))) ≡ Some k
    by_starve true e = absurd (cc e)
    by_starve false e = e

module _ (s : Plan) (x : ℕ) where
  asked-more : (e : Entry) (past : Past) → parts_asked s (e ∷ past) x ≡ parts_asked s past x ++ flat_map (seeds_for x) (served_in s past e.worker e.kind)
  asked-more e past = ap (flat_map (seeds_for x)) (served-more s e past) ∙ flat_map-append (seeds_for x) (served s past) (served_in s past e.worker e.kind)

  asked-none : parts_asked s [] x ≡ []
  asked-none = ap (flat_map (seeds_for x)) (served-none s)

  -- who asks has the number of its answer
  asker : (past : Past) (y : ℕ) (k : Asked) → asked s past y ≡ Some k → k.birth.number ≡ y
  asker past y k h =
      let b = asked-born s past y k h in
      ap (λ (d : Birth). d.number) (asked-birth b.0 (fate s past b.0) k b.2) ∙ numbered-number s past y b.0 b.1

  -- an entry of another exchange asks for none
  asked-other : (limit w : ℕ) (past : Past) (k : Kind) → May s limit past w k → concerns x k ≡ false → flat_map (seeds_for x) (served_in s past w k) ≡ []
  asked-other limit w past (Answer y a) may c =
      let apart : (may.asks.birth.number == x) ≡ false = ap (λ n. n == x) (asker past y may.asks may.asked_is) ∙ c in
      rw (may.asked_is, apart) refl
  asked-other limit w past _ may c = refl

  -- an answer asks for those of its request
  asked-own : (limit w : ℕ) (past : Past) (a : Reply) (b : Birth) → numbered (births s past) x ≡ Some b → MayAnswer s limit past w x a
      → flat_map (seeds_for x) (served_in s past w (Answer x a)) ≡ seeds_next (s.mean b (answers (own x past)))
  asked-own limit w past a b at may =
      let r = asked-born s past x may.asks may.asked_is in
      let same : r.0 ≡ b = let both : Some r.0 ≡ Some b = sym r.1 ∙ at in cc both in
      let here : asked_by b (fate s past b) ≡ Some may.asks = subst (λ d. asked_by d (fate s past d) ≡ Some may.asks) same r.2 in
      let n : b.number ≡ x = numbered-number s past x b at in
      let asks : asked_by b (s.mean b (answers (own x past))) ≡ Some may.asks =
      subst (λ y. asked_by b (s.mean b (answers (own y past))) ≡ Some may.asks) n (asks-by-meaning s past b may.asks here) in
      let mine : (may.asks.birth.number == x) ≡ true = eq-eqb may.asks.birth.number x (asker past x may.asks may.asked_is) in
      rw (may.asked_is, mine) (append-nil (seeds_in may.asks.request) ∙ asked-seeds b (s.mean b (answers (own x past))) may.asks asks)

  -- who isn't born has no entry
  unconcerned : (limit : ℕ) (e : Entry) (past : Past) → May s limit past e.worker e.kind → numbered (births s past) x ≡ None → concerns x e.kind ≡ false
  unconcerned limit e past may none = by_test (concerns x e.kind) refl
    where
      by_test : (v : Bool) → concerns x e.kind ≡ v → v ≡ false
      by_test true c = absurd (let b = entry-born s limit past e.worker x e.kind may c in let both : None ≡ Some b.0 = sym none ∙ b.1 in cc both)
      by_test false c = refl

  module _ (w limit : ℕ) where
    -- who isn't born has asked for none and has no answers
    silent : (past : Past) → KeepsRules s w limit past → numbered (births s past) x ≡ None → (own x past ≡ []) × (parts_asked s past x ≡ [])
    silent [] legal none = (own-none x, asked-none)
    silent (e ∷ past) legal none = by_born (numbered (births s past) x) refl (λ at. silent past (legal-tail s w limit e past legal) at)
      where
        by_born : (o : Option Birth) → numbered (births s past) x ≡ o → (numbered (births s past) x ≡ None → (own x past ≡ []) × (parts_asked s past x ≡ []))
            → (own x (e ∷ past) ≡ []) × (parts_asked s (e ∷ past) x ≡ [])
        by_born (Some b) at ih = absurd (let both : None ≡ Some b = sym none ∙ birth-stays s e past x b at in cc both)
        by_born None at ih =
            let c = unconcerned limit e past (legal-may s w limit e past legal) at in
            let older = ih at in
            let none = asked-other limit e.worker past e.kind (legal-may s w limit e past legal) c in
            (own-other x e past c ∙ older.0, asked-more e past ∙ (ap (λ xs. xs ++ flat_map (seeds_for x) (served_in s past e.worker e.kind)) older.1 ∙ none))

    -- it has asked for what it asked before each of its answers
    pub parts-by-answers : (past : Past) (b : Birth) → KeepsRules s w limit past → numbered (births s past) x ≡ Some b
        → parts_asked s past x ≡ seeds_before (s.mean b) (answers (own x past))
    parts-by-answers [] b legal at = by_number x (subst (λ bs. numbered bs x ≡ Some b) (births-none s) at)
      where
        by_number : (y : ℕ) → ◌≡◌ {A = Option Birth} (numbered [] y) (Some b) → parts_asked s [] x ≡ seeds_before (s.mean b) (answers (own x []))
        by_number zero h = absurd (cc h)
        by_number (suc i) h = absurd (cc h)
    parts-by-answers (e ∷ past) b legal at =
        by_born (numbered (births s past) x) refl (λ born. parts-by-answers past b (legal-tail s w limit e past legal) born)
      where
        by_kind : (k : Kind) → May s limit past e.worker k → concerns x k ≡ true → (c : Birth) → numbered (births s past) x ≡ Some c → c ≡ b
            → parts_asked s past x ≡ seeds_before (s.mean b) (answers (own x past))
            → parts_asked s past x ++ flat_map (seeds_for x) (served_in s past e.worker k) ≡ seeds_before (s.mean b) (answers (own x past) ++ answer_in k)
        by_kind (Answer y a) may t c born same ih =
            let mine : y ≡ x = eqb-true y x t in
            let here : MayAnswer s limit past e.worker x a = subst (λ n. MayAnswer s limit past e.worker n a) mine may in
            let born_b : numbered (births s past) x ≡ Some b = subst (λ d. numbered (births s past) x ≡ Some d) same born in
            rw (mine, ih) (ap (λ xs. seeds_before (s.mean b) (answers (own x past)) ++ xs) (asked-own limit e.worker past a b born_b here)
            ∙ sym (seeds-push (s.mean b) (answers (own x past)) a))
        by_kind (Start q n) may t c born same ih = rw (append-nil (parts_asked s past x), append-nil (answers (own x past))) ih
        by_kind (Take n) may t c born same ih = rw (append-nil (parts_asked s past x), append-nil (answers (own x past))) ih
        by_kind (Starve n) may t c born same ih = rw (append-nil (parts_asked s past x), append-nil (answers (own x past))) ih
        by_kind (Return n) may t c born same ih = rw (append-nil (parts_asked s past x), append-nil (answers (own x past))) ih
        by_kind _ may t c born same ih = absurd (cc t)

        by_test : (v : Bool) → concerns x e.kind ≡ v → (c : Birth) → numbered (births s past) x ≡ Some c → c ≡ b
            → parts_asked s past x ≡ seeds_before (s.mean b) (answers (own x past)) → parts_asked s (e ∷ past) x ≡ seeds_before (s.mean b) (answers (own x (e ∷ past)))
        by_test true t c born same ih =
            asked-more e past ∙ (by_kind e.kind (legal-may s w limit e past legal) t c born same ih ∙ ap (λ o. seeds_before (s.mean b) (answers o)) (sym (own-here x e past t)))
        by_test false t c born same ih =
            asked-more e past
            ∙ (ap (λ xs. parts_asked s past x ++ xs) (asked-other limit e.worker past e.kind (legal-may s w limit e past legal) t)
            ∙ (append-nil (parts_asked s past x) ∙ (ih ∙ ap (λ o. seeds_before (s.mean b) (answers o)) (sym (own-other x e past t)))))

        by_born : (o : Option Birth) → numbered (births s past) x ≡ o
            → (numbered (births s past) x ≡ Some b → parts_asked s past x ≡ seeds_before (s.mean b) (answers (own x past)))
            → parts_asked s (e ∷ past) x ≡ seeds_before (s.mean b) (answers (own x (e ∷ past)))
        by_born (Some c) born ih =
            let same : c ≡ b = let both : Some c ≡ Some b = sym (birth-stays s e past x c born) ∙ at in cc both in
            by_test (concerns x e.kind) refl c born same (ih (subst (λ d. numbered (births s past) x ≡ Some d) same born))
        by_born None none ih =
            let older = silent past (legal-tail s w limit e past legal) none in
            let c = unconcerned limit e past (legal-may s w limit e past legal) none in
            let none = asked-other limit e.worker past e.kind (legal-may s w limit e past legal) c in
            asked-more e past
            ∙ (ap (λ xs. xs ++ flat_map (seeds_for x) (served_in s past e.worker e.kind)) older.1
            ∙ (none ∙ ap (λ o. seeds_before (s.mean b) (answers o)) (sym (own-other x e past c ∙ older.0))))
