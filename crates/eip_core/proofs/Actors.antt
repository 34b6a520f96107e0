-- Who acts next in the plain schedule, by what is known of a past.
use Rattle.std.proofs.Common.{◌≡◌, ℕ, zero, suc, ◌+◌, ◌<◌, ◌&&◌, not, Bool, true, false, List, [], ◌∷◌, ◌++◌, Option, Some, None, is_some, filter, map, refl, sym, ap, subst, ◌∙◌, arith, cond, eq-eqb}
use Rattle.std.specs.List.{slice_get}
use Rattle.std.proofs.lemmas.Bool.{ne_eqb}
use Rattle.std.proofs.lemmas.List.{append-nil}
use Rattle.eip_exchange.specs.declared.birth.Birth.{Birth}
use Rattle.eip_ledger.specs.declared.entry.Entry.{Entry}
use Rattle.eip_ledger.specs.declared.entry.Kind.TheVariants.{Pull, Take}
use Rattle.eip_ledger.specs.declared.place.Place.{Place}
use Rattle.eip_ledger.specs.declared.place.Place.TheVariants as place_is
use Rattle.eip_history.specs.Plan.{Plan}
use Rattle.eip_history.specs.Own.{Past, SourceState, Idle, Out, Done, numbers_below, source_state, is_out, is_done, numbered}
use Rattle.eip_history.specs.Births.{births, groups}
use Rattle.eip_history.specs.Place.{place, place_of, numbers_at, number_of, ready_numbers, is_held, is_taken, pulls_out, takes_out, hands, end_of}
use Rattle.eip_history.specs.Rules.{KeepsRules, May, IsSource, IsBelow, IsQuiet, first, unfinished, startable, dues, least, any_group}
use Rattle.eip_history.specs.Groups.{is_forced}
use Rattle.eip_history.specs.Stop.{Actor, TheExchange, TheSource, TheQueue, TheClock, TheForce, Nobody, first_or, actor}
use Rattle.eip_history.specs.Laws.{PlanLaws}
use Rattle.eip_history.specs.Tables.{put_in}
use Rattle.eip_history.proofs.Stuck.{none-at, none-from, length-none, below-none}
use Rattle.eip_history.proofs.Limit.{in-hand-taken, source-after, not-same}
use Rattle.eip_history.proofs.Numbers.{numbers-quiet}
use Rattle.eip_history.proofs.NumbersBelow.{first-below}
use Rattle.eip_history.proofs.OneRow.{numbers-own-join}
use Rattle.eip_history.proofs.Places.{EndsNone, ended-same}
use Rattle.eip_history.proofs.Moves.{fate-unanswered}
use Rattle.eip_history.proofs.Unborn.{birth-stays, place-born}

-- with no Take out nobody is held
pub held-none : (s : Plan) (past : Past) → takes_out s past ≡ 0 → numbers_at s past is_held ≡ []
unfolding numbers_at takes_out
held-none s past e =
    ap (map number_of)
    (none-from (λ (b : Birth). is_held (place_of s past b)) (births s past)
    (λ i b at. not_held b (place_of s past b) refl (none-at (is_taken past) (births s past) i b (length-none (filter (is_taken past) (births s past)) e) at)))
  where
    not_held : (b : Birth) (p : Place) → place_of s past b ≡ p → is_taken past b ≡ false → is_held p ≡ false
    not_held b (place_is.InHand w) h t = absurd (let g = in-hand-taken s past b w h in cc)
    not_held b _ h t = refl

-- with no Pull out no source is
pub out-none : (s : Plan) (past : Past) → pulls_out s past ≡ 0 → numbers_below (λ t. is_out (source_state t past)) s.routes ≡ []
unfolding pulls_out
out-none s past e = length-none (numbers_below (λ t. is_out (source_state t past)) s.routes) e

-- the first of a list acts
pub first-acts : (xs : List ℕ) (f : ℕ → Actor) (a : Actor) (x : ℕ) → first xs ≡ Some x → first_or xs f a ≡ f x
first-acts [] f a x h = absurd (cc h)
first-acts (y ∷ ys) f a x h = let e : y ≡ x = cc in ap f e

-- nobody of an empty list acts
pub none-acts : (xs : List ℕ) (f : ℕ → Actor) (a : Actor) → xs ≡ [] → first_or xs f a ≡ a
none-acts xs f a h = ap (λ ys. first_or ys f a) h

pub first-none : (xs : List ℕ) → first xs ≡ None → xs ≡ []
first-none [] h = refl
first-none (x ∷ xs) h = absurd (cc h)

module _ (s : Plan) (past : Past) where
  -- with no hand out the least Ready number acts
  pub actor-ready : (x : ℕ) → hands s past ≡ 0 → first (ready_numbers s past) ≡ Some x → actor s past ≡ TheExchange x
  unfolding actor
  actor-ready x home h =
      let pulls : pulls_out s past ≡ 0 = omega (arith, home) in
      let takes : takes_out s past ≡ 0 = omega (arith, home) in
      none-acts (numbers_at s past is_held) TheExchange _ (held-none s past takes)
      ∙ (none-acts (numbers_below (λ t. is_out (source_state t past)) s.routes) TheSource _ (out-none s past pulls)
      ∙ first-acts (ready_numbers s past) TheExchange _ x h)

  -- with nobody Ready the first startable queue acts
  pub actor-queue : (q : ℕ) → hands s past ≡ 0 → first (ready_numbers s past) ≡ None → first (startable s past) ≡ Some q → actor s past ≡ TheQueue q
  unfolding actor
  actor-queue q home ready h =
      let pulls : pulls_out s past ≡ 0 = omega (arith, home) in
      let takes : takes_out s past ≡ 0 = omega (arith, home) in
      none-acts (numbers_at s past is_held) TheExchange _ (held-none s past takes)
      ∙ (none-acts (numbers_below (λ u. is_out (source_state u past)) s.routes) TheSource _ (out-none s past pulls)
      ∙ (none-acts (ready_numbers s past) TheExchange _ (first-none (ready_numbers s past) ready)
      ∙ first-acts (startable s past) TheQueue _ q h))

  -- with nobody Ready and no queue startable the first unfinished source acts
  pub actor-source : (t : ℕ) → hands s past ≡ 0 → first (ready_numbers s past) ≡ None → first (startable s past) ≡ None → first (unfinished s past) ≡ Some t
      → actor s past ≡ TheSource t
  unfolding actor
  actor-source t home ready queues h =
      let pulls : pulls_out s past ≡ 0 = omega (arith, home) in
      let takes : takes_out s past ≡ 0 = omega (arith, home) in
      none-acts (numbers_at s past is_held) TheExchange _ (held-none s past takes)
      ∙ (none-acts (numbers_below (λ u. is_out (source_state u past)) s.routes) TheSource _ (out-none s past pulls)
      ∙ (none-acts (ready_numbers s past) TheExchange _ (first-none (ready_numbers s past) ready)
      ∙ (none-acts (startable s past) TheQueue _ (first-none (startable s past) queues)
      ∙ first-acts (unfinished s past) TheSource _ t h)))

module _ (s : Plan) (past : Past) where
  -- where nobody may act, and somebody is due, the clock acts
  pub actor-clock : (t : ℕ) → IsQuiet s past → least (dues s past) ≡ Some t → actor s past ≡ TheClock
  unfolding actor
  actor-clock t quiet h =
      let home = quiet.no_hand in
      let pulls : pulls_out s past ≡ 0 = omega (arith, home) in
      let takes : takes_out s past ≡ 0 = omega (arith, home) in
      none-acts (numbers_at s past is_held) TheExchange _ (held-none s past takes)
      ∙ (none-acts (numbers_below (λ u. is_out (source_state u past)) s.routes) TheSource _ (out-none s past pulls)
      ∙ (none-acts (ready_numbers s past) TheExchange _ quiet.none_ready
      ∙ (none-acts (startable s past) TheQueue _ quiet.none_startable
      ∙ (none-acts (unfinished s past) TheSource _ quiet.sources_done
      ∙ ap (λ (o : Option ℕ). cond (is_some o) TheClock (cond (any_group (is_forced s) (groups s past)) TheForce Nobody)) h))))

  -- and where nobody is due, but a group may be forced, force does
  pub actor-force : IsQuiet s past → least (dues s past) ≡ None → any_group (is_forced s) (groups s past) ≡ true → actor s past ≡ TheForce
  unfolding actor
  actor-force quiet none forced =
      let home = quiet.no_hand in
      let pulls : pulls_out s past ≡ 0 = omega (arith, home) in
      let takes : takes_out s past ≡ 0 = omega (arith, home) in
      none-acts (numbers_at s past is_held) TheExchange _ (held-none s past takes)
      ∙ (none-acts (numbers_below (λ u. is_out (source_state u past)) s.routes) TheSource _ (out-none s past pulls)
      ∙ (none-acts (ready_numbers s past) TheExchange _ quiet.none_ready
      ∙ (none-acts (startable s past) TheQueue _ quiet.none_startable
      ∙ (none-acts (unfinished s past) TheSource _ quiet.sources_done
      ∙ (ap (λ (o : Option ℕ). cond (is_some o) TheClock (cond (any_group (is_forced s) (groups s past)) TheForce Nobody)) none
      ∙ ap (λ v. cond v TheForce Nobody) forced)))))

-- ---- behind a Pull and behind a Take

module _ (s : Plan) (laws : PlanLaws s) (w limit v : ℕ) (past : Past) where
  -- behind its Pull the source acts
  pub actor-out : (t : ℕ) → KeepsRules s w limit ((record { worker = v; kind = Pull t }) ∷ past) → hands s past ≡ 0 → IsSource s t
      → actor s ((record { worker = v; kind = Pull t }) ∷ past) ≡ TheSource t
  unfolding actor
  actor-out t legal home source =
      let e : Entry = record { worker = v; kind = Pull t } in
      let pulls : pulls_out s past ≡ 0 = omega (arith, home) in
      let takes : takes_out s past ≡ 0 = omega (arith, home) in
      let none = numbers-quiet s laws w limit e past legal (λ x. refl) (λ n. refl) is_held ∙ (append-nil (numbers_at s past is_held) ∙ held-none s past takes) in
      none-acts (numbers_at s (e ∷ past) is_held) TheExchange _ none
      ∙ first-acts (numbers_below (λ u. is_out (source_state u (e ∷ past))) s.routes) TheSource _ t
      (first-below (λ u. is_out (source_state u (e ∷ past))) s.routes t source.0
      (rw (source-after v t (Pull t) past, eq-eqb t t refl) refl)
      (λ u l. rw (source-after v u (Pull t) past, ne_eqb t u (λ g. absurd (omega (arith, l, g))))
      (below-none (λ x. is_out (source_state x past)) s.routes u (out-none s past pulls) (omega (arith, l, source.0)))))

  unborn-zero : place s past 0 ≡ Some place_is.Ready → ⊥
  unfolding place
  unborn-zero h = cc h

  take-ends-none : (x : ℕ) → EndsNone s (record { worker = v; kind = Take x }) past
  take-ends-none x y b at =
      let e : Entry = record { worker = v; kind = Take x } in
      ended-same s e past y b at (ap end_of (fate-unanswered s e past b refl refl))

  -- behind its Take the exchange acts
  pub actor-held : (i : ℕ) → KeepsRules s w limit ((record { worker = v; kind = Take (1 + i) }) ∷ past) → hands s past ≡ 0 → place s past (1 + i) ≡ Some place_is.Ready
      → place s ((record { worker = v; kind = Take (1 + i) }) ∷ past) (1 + i) ≡ Some (place_is.InHand v)
      → actor s ((record { worker = v; kind = Take (1 + i) }) ∷ past) ≡ TheExchange (1 + i)
  unfolding actor
  actor-held i legal home ready held =
      let e : Entry = record { worker = v; kind = Take (1 + i) } in
      let takes : takes_out s past ≡ 0 = omega (arith, home) in
      let g : 1 + i ≡ suc i = omega arith in
      let r = place-born s past (1 + i) place_is.Ready ready in
      let t = place-born s (e ∷ past) (1 + i) (place_is.InHand v) held in
      let stays : numbered (births s (e ∷ past)) (1 + i) ≡ Some r.0 = birth-stays s e past (1 + i) r.0 r.1 in
      let one : r.0 ≡ t.0 = let both : Some r.0 ≡ Some t.0 = sym stays ∙ t.1 in cc in
      let at_i : slice_get (births s past) i ≡ Some r.0 = let h : numbered (births s past) (suc i) ≡ Some r.0 = subst (λ (n : ℕ). numbered (births s past) n ≡ Some r.0) g r.1 in h in
      let changes : (b : Birth) → slice_get (births s past) i ≡ Some b → (is_held (place_of s past b) ≡ false) × (is_held (place_of s (e ∷ past) b) ≡ true) =
      λ b at. let same : b ≡ r.0 = let both : Some b ≡ Some r.0 = sym at ∙ at_i in cc in
      (ap (λ d. is_held (place_of s past d)) same ∙ ap is_held r.2, ap (λ d. is_held (place_of s (e ∷ past) d)) (same ∙ one) ∙ ap is_held t.2) in
      let numbers = numbers-own-join s laws w limit e past i r.0 legal
      (λ y ne. not-same y (1 + i) ne) (λ n. refl) (take-ends-none (1 + i)) is_held at_i changes in
      first-acts (numbers_at s (e ∷ past) is_held) TheExchange _ (1 + i)
      (ap first numbers ∙ ap (λ xs. first (put_in (1 + i) xs ++ [])) (held-none s past takes))

  pub actor-taken : (x : ℕ) → KeepsRules s w limit ((record { worker = v; kind = Take x }) ∷ past) → hands s past ≡ 0 → place s past x ≡ Some place_is.Ready
      → place s ((record { worker = v; kind = Take x }) ∷ past) x ≡ Some (place_is.InHand v)
      → actor s ((record { worker = v; kind = Take x }) ∷ past) ≡ TheExchange x
  actor-taken zero legal home ready held = absurd (unborn-zero ready)
  actor-taken (suc i) legal home ready held =
      let g : 1 + i ≡ suc i = omega arith in
      let P : ℕ → Type 0 = λ n. KeepsRules s w limit ((record { worker = v; kind = Take n }) ∷ past) → place s past n ≡ Some place_is.Ready
      → place s ((record { worker = v; kind = Take n }) ∷ past) n ≡ Some (place_is.InHand v)
      → actor s ((record { worker = v; kind = Take n }) ∷ past) ≡ TheExchange n in
      subst P g (λ l r h. actor-held i l home r h) legal ready held

-- ---- the first unfinished source

module _ (s : Plan) (limit w : ℕ) (past : Past) where
  -- the first source that may be pulled is the first unfinished one
  pub unfinished-first : (t : ℕ) → hands s past ≡ 0 → May s limit past w (Pull t) → ((r : ℕ) → r < t → May s limit past w (Pull r) → ⊥) → first (unfinished s past) ≡ Some t
  unfolding unfinished
  unfinished-first t home may least =
      first-below (λ u. s.is_source u && not (is_done (source_state u past))) s.routes t may.0.0
      (rw (may.0.1, may.1) refl)
      (λ u l. by_source u l (s.is_source u) (source_state u past) refl refl)
    where
      by_source : (u : ℕ) → u < t → (v : Bool) (st : SourceState) → s.is_source u ≡ v → source_state u past ≡ st → (s.is_source u && not (is_done (source_state u past))) ≡ false
      by_source u l false st i e = rw i refl
      by_source u l true Idle i e = absurd (least u l ((omega (arith, l, may.0.0), i), e, may.2))
      by_source u l true (Out x) i e =
          absurd (let pulls : pulls_out s past ≡ 0 = omega (arith, home) in
          let g = below-none (λ y. is_out (source_state y past)) s.routes u (out-none s past pulls) (omega (arith, l, may.0.0)) in
          let h = rw e at g in cc h)
      by_source u l true Done i e = rw (i, e) refl

  passes : (p : ℕ → Bool) (n t : ℕ) → first (numbers_below p n) ≡ Some t → (t < n) × (p t ≡ true)
  passes p zero t h = absurd (cc h)
  passes p (suc n) t h = by_front (numbers_below p n) refl (λ x g. passes p n x g)
    where
      by_last : (v : Bool) → p n ≡ v → first (cond v (n ∷ []) []) ≡ Some t → (t < suc n) × (p t ≡ true)
      by_last true e g = let same : n ≡ t = cc in (omega (arith, same), sym (ap p same) ∙ e)
      by_last false e g = absurd (cc g)

      by_front : (xs : List ℕ) → numbers_below p n ≡ xs → ((x : ℕ) → first (numbers_below p n) ≡ Some x → (x < n) × (p x ≡ true)) → (t < suc n) × (p t ≡ true)
      by_front [] e older = by_last (p n) refl (let g = rw e at h in g)
      by_front (x ∷ xs) e older =
          let g : Some x ≡ Some t = let k = rw e at h in k in
          let same : x ≡ t = cc in
          let r = older t (rw e (ap Some same)) in (omega (arith, r.0), r.1)

  -- the first unfinished source may be pulled
  pub first-pullable : (t : ℕ) → hands s past ≡ 0 → IsBelow s limit past → first (unfinished s past) ≡ Some t → May s limit past w (Pull t)
  unfolding unfinished
  first-pullable t home below h =
      let r = passes (λ u. s.is_source u && not (is_done (source_state u past))) s.routes t h in
      by_source r.0 (s.is_source t) (source_state t past) refl refl r.1
    where
      by_source : t < s.routes → (v : Bool) (st : SourceState) → s.is_source t ≡ v → source_state t past ≡ st → (v && not (is_done st)) ≡ true → May s limit past w (Pull t)
      by_source l false st i e g = absurd (cc g)
      by_source l true Idle i e g = ((l, i), e, below)
      by_source l true (Out x) i e g =
          absurd (let pulls : pulls_out s past ≡ 0 = omega (arith, home) in
          let k = below-none (λ y. is_out (source_state y past)) s.routes t (out-none s past pulls) l in
          let m = rw e at k in cc m)
      by_source l true Done i e g = absurd (cc g)
