-- The table of joins behind an entry by which an exchange ends, and the parent that is ready again.
use Rattle.std.proofs.Common.{◌≡◌, ◌≢◌, ℕ, zero, suc, ◌+◌, ◌-◌, ◌<◌, ◌≤◌, Bool, true, false, ◌==◌, cond, List, ◌∷◌, length, Option, Some, None, is_some, option_map, inl, inr, refl, sym, ap, subst, ◌∙◌, arith, eq-eqb}
use Rattle.std.proofs.lemmas.Bool.{cases_Bool, eqb-true, ne_eqb}
use Rattle.eip_exchange.specs.declared.birth.Birth.{Birth}
use Rattle.eip_exchange.specs.declared.birth.Origin.{Origin}
use Rattle.eip_exchange.specs.declared.birth.Origin.TheVariants as from
use Rattle.eip_exchange.specs.declared.end.Ended.{Ended as Finished}
use Rattle.eip_exchange.specs.Ends.{out_of_memory}
use Rattle.eip_route.specs.declared.route.RouteSet.{RouteSet}
use Rattle.eip_frames.specs.declared.answer.Answer.TheVariants as reply
use Rattle.eip_frames.specs.Fate.{Fate, AsksNext, Ends, Strays}
use Rattle.eip_ledger.specs.declared.entry.Entry.{Entry}
use Rattle.eip_ledger.specs.declared.entry.Kind.{Kind}
use Rattle.eip_ledger.specs.declared.entry.Kind.TheVariants.{Starve}
use Rattle.eip_ledger.specs.declared.place.Place.{Place}
use Rattle.eip_ledger.specs.declared.place.Place.TheVariants as place_is
use Rattle.eip_join.specs.Parts as join
use Rattle.eip_join.specs.Parts.{Call, PartEnded, Took, Open, IsOpenPart, is_ready, join_over}
use Rattle.eip_join.proofs.Standing.{length-ends, end_at_index}
use Rattle.eip_history.specs.Plan.{Plan}
use Rattle.eip_history.specs.Own.{Past, own, concerns, ticked, last_answer, started, taker, clock, numbered}
use Rattle.eip_history.specs.Births.{births, fate}
use Rattle.eip_history.specs.Place.{ended, place_of, place_by, all_ended, pause_of, paused, in_hand, queued}
use Rattle.eip_history.specs.Rules.{KeepsRules}
use Rattle.eip_history.specs.TableWords.{open_parts}
use Rattle.eip_history.proofs.Told.{own-other, own-here}
use Rattle.eip_history.proofs.Lists.{related-length}
use Rattle.eip_history.proofs.Unborn.{legal-tail, birth-stays, numbered-within}
use Rattle.eip_history.proofs.Parts.{is_part_of, numbered-number}
use Rattle.eip_history.proofs.Places.{place-same, place-end-other, clock-same, fate-other, ended-is}
use Rattle.eip_history.proofs.JoinTable.{parts-same}
use Rattle.eip_history.proofs.Acting.{paused-place}
use Rattle.eip_plan.specs.Plan.{plan_of}
use Rattle.eip_plan.specs.Simple.{AnswersSimply}
use Rattle.eip_plan.proofs.Laws.{plan-laws}
use Rattle.eip_tables.specs.declared.row.Born.{Born}
use Rattle.eip_tables.specs.declared.row.Born.TheVariants as made
use Rattle.eip_tables.specs.Joins.{JoinsStand, MayTell, Tells, Wakes, closing}
use Rattle.eip_tables.specs.Row.{Row}
use Rattle.eip_tables.specs.Moves.{starved_end}
use Rattle.eip_tables.specs.Rows.{ComesFrom, Keeps, RowStands}
use Rattle.eip_tables.specs.Stands.{Tables, Stands}
use Rattle.eip_table_laws.proofs.RowPlaces.{born-origin}
use Rattle.eip_table_laws.proofs.PartFacts.{IsAwaited, awaited, awaited-unended, parent-born, parent-joins}
use Rattle.eip_table_laws.proofs.JoinsKept.{opens, closed-end, awaits, open-for, ready-is, joins-own, none-open}
use Rattle.eip_table_laws.proofs.OwnEvents.{StandsApart, IsWoken, AlsoMoves}

-- calls behind which x has no open join, and all else is as before
pub record IsShut (x : ℕ) (calls now : List Call) : Type 0 where
  pub own : join.parts_of now x ≡ None
  pub others : (p : ℕ) → p ≢ x → join.parts_of now p ≡ join.parts_of calls p
  pub ends : (y : ℕ) → join.end_of now y ≡ join.end_of calls y

pub shut-none : (x : ℕ) (calls : List Call) → join.parts_of calls x ≡ None → IsShut x calls calls
shut-none x calls h = record { own = h; others = λ p ne. refl; ends = λ y. refl }

-- a Ready exchange whose join is closed, where it has one
pub shut-closing : (set : RouteSet) (past : Past) (x : ℕ) (b : Birth) (joins : List (ℕ × Open)) → b.number ≡ x → place_of (plan_of set) past b ≡ place_is.Ready → (st : JoinsStand set past joins) → IsShut x st.calls (closing x st.calls)
shut-closing set past x b joins number ready st = by_ready (is_ready st.calls x) refl
  where
    s : Plan
    s = plan_of set

    -- its parts have all ended
    complete : (first count : ℕ) → open_parts s past x ≡ Some (first, count) → all_ended s past first count ≡ true
    complete first count h =
        let last = (open-for s past x first count h).last in
        let able = paused-place s past b ready in
        by_all (all_ended s past first count) (rw (number, last) at able)
      where
        by_all : (v : Bool) → cond v place_is.Ready place_is.Joining ≡ place_is.Ready → v ≡ true
        by_all true g = refl
        by_all false g = absurd (cc g)

    none : (o : Option (ℕ × ℕ)) → open_parts s past x ≡ o → is_ready st.calls x ≡ false → open_parts s past x ≡ None
    none None h f = h
    none (Some p) h f = absurd (let g = ready-is st x p.0 p.1 h ∙ complete p.0 p.1 h in let k = sym g ∙ f in cc k)

    by_ready : (v : Bool) → is_ready st.calls x ≡ v → IsShut x st.calls (cond v (Took x ∷ st.calls) st.calls)
    by_ready true h = record {
      own = ap (λ (t : Bool). cond t None (join.parts_of st.calls x)) (eq-eqb x x refl);
      others = λ p ne. ap (λ (t : Bool). cond t None (join.parts_of st.calls p)) (ne_eqb x p (λ same. ne (sym same)));
      ends = λ y. refl;
    }
    by_ready false h = shut-none x st.calls (st.parts x ∙ none (open_parts s past x) refl h)

-- who stood in its place Joining is Ready where all its parts have ended
joining-out : (r : Origin) (v : Bool) (t : Option ℕ) (p : Place) → queued r v (in_hand t p) ≡ place_is.Joining → (q : Place) → queued r v (in_hand t q) ≡ q
joining-out (from.Queue n) false t p h q = absurd (cc h)
joining-out (from.Queue n) true None p h q = refl
joining-out (from.Queue n) true (Some w) p h q = absurd (cc h)
joining-out (from.Source n i) v None p h q = refl
joining-out (from.Source n i) v (Some w) p h q = absurd (cc h)
joining-out (from.Part n i) v None p h q = refl
joining-out (from.Part n i) v (Some w) p h q = absurd (cc h)
joining-out (from.Group n) v None p h q = refl
joining-out (from.Group n) v (Some w) p h q = absurd (cc h)

joining-ready : (now now' : ℕ) (all all' : ℕ → ℕ → Bool) (b : Birth) (o : Past) (f : Fate) → place_by now all b o f ≡ place_is.Joining → paused now' all' (pause_of (last_answer o)) ≡ place_is.Ready → place_by now' all' b o f ≡ place_is.Ready
joining-ready now now' all all' b o (Ends e m) h g = absurd (cc h)
joining-ready now now' all all' b o (AsksNext q p) h g = joining-out b.origin (started o) (taker o) _ h _ ∙ g
joining-ready now now' all all' b o Strays h g = joining-out b.origin (started o) (taker o) _ h _ ∙ g

joined-now : (s : Plan) (e : Entry) (past : Past) (b : Birth) (first count : ℕ) → concerns b.number e.kind ≡ false → last_answer (own b.number past) ≡ Some (reply.Born first count) → all_ended s (e ∷ past) first count ≡ true
    → place_of s past b ≡ place_is.Joining → place_of s (e ∷ past) b ≡ place_is.Ready
unfolding place_of
joined-now s e past b first count n last all was =
    rw (own-other b.number e past n, fate-other s e past b n)
    (joining-ready (clock past) (clock (e ∷ past)) (all_ended s past) (all_ended s (e ∷ past)) b (own b.number past) (fate s past b) was (rw (last, all) refl))

not-part : (q : ℕ) (o : Origin) → ((p i : ℕ) → o ≡ from.Part p i → ⊥) → is_part_of q o ≡ false
not-part q (from.Part p i) h = absurd (h p i refl)
not-part q (from.Source r i) h = refl
not-part q (from.Queue r) h = refl
not-part q (from.Group g) h = refl

-- an exchange that did not come as a part is none
pub comes-alone : (s : Plan) (past : Past) (o : Born) (b : Birth) → ComesFrom s past o b → ((p i : ℕ) → o ≡ made.Part p i → ⊥) → (p i : ℕ) → b.origin ≡ from.Part p i → ⊥
comes-alone s past (made.Item n) b h alone p i g = let k = sym (born-origin s past n b h) ∙ g in cc k
comes-alone s past (made.Copy q) b h alone p i g = let k = sym h ∙ g in cc k
comes-alone s past (made.Group y c) b h alone p i g = let k = sym h ∙ g in cc k
comes-alone s past (made.Part y j) b h alone p i g = alone y j refl

-- the parent that is ready again has a row
pub woken-within : {set : RouteSet} {workers limit : ℕ} {past : Past} (t : Tables) (st : Stands set workers limit past t) (e : Entry) (x : ℕ) (behind : Option ℕ) (y : ℕ) → behind ≡ Some y → AlsoMoves set past e x behind → (0 < y) × (y ≤ length t.rows)
woken-within {set} {workers} {limit} {past} t st e x (Some z) y is moves =
    let same : z ≡ y = cc in
    let at : numbered (births (plan_of set) past) y ≡ Some moves.birth = subst (λ (n : ℕ). numbered (births (plan_of set) past) n ≡ Some moves.birth) same moves.at in
    (above y moves.birth at, omega (arith, numbered-within (births (plan_of set) past) y moves.birth at, related-length (RowStands set past) (births (plan_of set) past) t.rows st.rows))
  where
    above : (n : ℕ) (b : Birth) → numbered (births (plan_of set) past) n ≡ Some b → 0 < n
    above zero b h = absurd (cc h)
    above (suc i) b h = omega arith
woken-within t st e x None y is moves = absurd (cc is)

-- the end of a starved exchange
pub starved-end : (set : RouteSet) (past : Past) (w x : ℕ) (b : Birth) → b.number ≡ x → numbered (births (plan_of set) past) x ≡ Some b
    → ended (plan_of set) ((record { worker = w; kind = Starve x }) ∷ past) x ≡ Some (record { end = out_of_memory; message = b.message })
unfolding fate
starved-end set past w x b number at =
    let e : Entry = record { worker = w; kind = Starve x } in
    ended-is (plan_of set) (e ∷ past) x b (birth-stays (plan_of set) e past x b at) ∙ rw (own-here b.number e past (eq-eqb x b.number (sym number))) refl

-- what the parent of a starved part is told
pub starved-told : (r : Row) (b : Birth) (p i : ℕ) → r.born ≡ made.Part p i → Keeps r.born true b r.birth r.fault → starved_end r.birth r.fault ≡ Some (record { end = out_of_memory; message = b.message })
starved-told r b p i is k = let kept = rw is at k in rw (kept.0, kept.1) refl

-- an entry by which x ends
module _ {set : RouteSet} {past : Past} {joins : List (ℕ × Open)} (workers limit w x : ℕ) (k : Kind) (b : Birth) (f : Finished) (legal : KeepsRules (plan_of set) workers limit ((record { worker = w; kind = k }) ∷ past))
    (simple : AnswersSimply past) (mine : concerns x k ≡ true) (only : (y : ℕ) → y ≢ x → concerns y k ≡ false) (no_tick : (n : ℕ) → ticked k n ≡ n) (at : numbered (births (plan_of set) past) x ≡ Some b) (lives : ended (plan_of set) past x ≡ None)
    (gone : ended (plan_of set) ((record { worker = w; kind = k }) ∷ past) x ≡ Some f) (st : JoinsStand set past joins) (calls : List Call) (shut : IsShut x st.calls calls) (closed : List (ℕ × Open)) (stands : join.Stands calls closed) where
  tail : KeepsRules (plan_of set) workers limit past
  tail = legal-tail (plan_of set) workers limit (record { worker = w; kind = k }) past legal

  over : open_parts (plan_of set) ((record { worker = w; kind = k }) ∷ past) x ≡ None
  over = closed-end (plan_of set) ((record { worker = w; kind = k }) ∷ past) x (ap is_some gone)

  -- where it is a part, its parent waits for it
  module _ (y j : ℕ) (origin : b.origin ≡ from.Part y j) where
    waited : IsAwaited (plan_of set) past y x
    waited = awaited set workers limit past tail simple x b y j at origin lives

    opened : open_parts (plan_of set) past y ≡ Some (waited.first, waited.count)
    opened = opens (plan_of set) past y waited.first waited.count waited.last waited.lives

    apart : y ≢ x
    apart same = let n = (awaits (plan_of set) workers limit past y waited.first waited.count tail opened).behind in omega (arith, n, waited.from, same)

    place-in : waited.first + (x - waited.first) ≡ x
    place-in = omega (arith, waited.from)

    pub open-part : IsOpenPart x closed
    open-part =
        let within : x - waited.first < waited.count = omega (arith, waited.from, waited.to) in
        let parts : join.parts_of calls y ≡ Some (waited.first, waited.count) = shut.others y apart ∙ (st.parts y ∙ opened) in
        let ends = st.ends y waited.first waited.count opened (x - waited.first) within in
        let end : join.end_of calls x ≡ None = shut.ends x ∙ (rw place-in at ends ∙ lives) in
        record {
          parent = y;
          join = join_over calls (waited.first, waited.count);
          opened = stands y ∙ ap (option_map (join_over calls)) parts;
          part = (waited.from, omega (arith, waited.to, length-ends calls waited.first waited.count));
          unended = end_at_index calls waited.first waited.count (x - waited.first) within ∙ (rw place-in (ap Some end));
        }

  pub may-tell : (o : Born) (told : Option Finished) → ComesFrom (plan_of set) past o b → ((p i : ℕ) → o ≡ made.Part p i → told ≡ Some f) → MayTell o x told closed
  may-tell (made.Item i) told h is = tt
  may-tell (made.Copy q) told h is = tt
  may-tell (made.Group y c) told h is = tt
  may-tell (made.Part y j) (Some g) h is = open-part y j h
  may-tell (made.Part y j) None h is = absurd (let n = is y j refl in cc n)

  -- nobody is told where it is no part
  pub joins-alone : ((p i : ℕ) → b.origin ≡ from.Part p i → ⊥) → JoinsStand set ((record { worker = w; kind = k }) ∷ past) closed
  joins-alone alone =
      joins-own set workers limit (record { worker = w; kind = k }) past x legal mine only closed calls st stands (shut.own ∙ sym over) shut.others
      (λ p first count i opened l same. absurd (by_part p first count i opened l same)) (λ y ne l. shut.ends y) (λ first count opened i l. none-open _ first count over opened)
    where
      by_part : (p first count i : ℕ) → open_parts (plan_of set) past p ≡ Some (first, count) → i < count → first + i ≡ x → ⊥
      by_part p first count i opened l same =
          let r = (awaits (plan_of set) workers limit past p first count tail opened).part i l in
          let there : numbered (births (plan_of set) past) x ≡ Some r.0 = rw same at r.1 in
          let both : Some r.0 ≡ Some b = sym there ∙ at in
          let is : r.0 ≡ b = cc in
          let n = not-part p b.origin alone in
          let t = rw is at r.2 in
          let g = sym t ∙ n in
          cc g

  joins-part : (new : List (ℕ × Open)) → ((c : List Call) → join.Stands c closed → join.Stands (PartEnded x f ∷ c) new) → JoinsStand set ((record { worker = w; kind = k }) ∷ past) new
  joins-part new tells =
      joins-own set workers limit (record { worker = w; kind = k }) past x legal mine only new (PartEnded x f ∷ calls) st (tells calls stands) (shut.own ∙ sym over) shut.others
      (λ p first count i opened l same. ap (λ (t : Bool). cond t (Some f) (join.end_of calls x)) (eq-eqb x x refl) ∙ sym gone)
      (λ y ne l. ap (λ (t : Bool). cond t (Some f) (join.end_of calls y)) (ne_eqb x y (λ same. ne (sym same))) ∙ shut.ends y) (λ first count opened i l. none-open _ first count over opened)

  pub joins-ended : (o : Born) (told : Option Finished) (new : List (ℕ × Open)) → ComesFrom (plan_of set) past o b → ((p i : ℕ) → o ≡ made.Part p i → told ≡ Some f) → Tells o x told closed new
      → JoinsStand set ((record { worker = w; kind = k }) ∷ past) new
  joins-ended (made.Item i) told new h is t =
      subst (λ (js : List (ℕ × Open)). JoinsStand set ((record { worker = w; kind = k }) ∷ past) js) (sym t) (joins-alone (comes-alone (plan_of set) past (made.Item i) b h (λ p j g. cc g)))
  joins-ended (made.Copy q) told new h is t =
      subst (λ (js : List (ℕ × Open)). JoinsStand set ((record { worker = w; kind = k }) ∷ past) js) (sym t) (joins-alone (comes-alone (plan_of set) past (made.Copy q) b h (λ p j g. cc g)))
  joins-ended (made.Group y c) told new h is t =
      subst (λ (js : List (ℕ × Open)). JoinsStand set ((record { worker = w; kind = k }) ∷ past) js) (sym t) (joins-alone (comes-alone (plan_of set) past (made.Group y c) b h (λ p j g. cc g)))
  joins-ended (made.Part y j) (Some g) new h is t =
      let n = is y j refl in
      let same : g ≡ f = cc in
      joins-part new (subst (λ (z : Finished). (c : List Call) → join.Stands c closed → join.Stands (PartEnded x z ∷ c) new) same t)
  joins-ended (made.Part y j) None new h is t = absurd (let n = is y j refl in cc n)

  -- ---- who is ready again

  pub moves-alone : ((p i : ℕ) → b.origin ≡ from.Part p i → ⊥) → StandsApart set past (record { worker = w; kind = k }) x
  moves-alone alone d ne = place-end-other (plan_of set) workers limit (record { worker = w; kind = k }) past x b d tail at only ne (not-part d.number b.origin alone) no_tick

  module _ (y j : ℕ) (origin : b.origin ≡ from.Part y j) where
    others : (d : Birth) → d.number ≢ x → d.number ≢ y → place_of (plan_of set) ((record { worker = w; kind = k }) ∷ past) d ≡ place_of (plan_of set) past d
    others d ne nep =
        place-end-other (plan_of set) workers limit (record { worker = w; kind = k }) past x b d tail at only ne
        (ap (is_part_of d.number) origin ∙ ne_eqb y d.number (λ same. nep (sym same))) no_tick

    still : concerns y k ≡ false
    still = only y (apart y j origin)

    -- some of its parts haven't ended
    waits-yet : all_ended (plan_of set) ((record { worker = w; kind = k }) ∷ past) (waited y j origin).first (waited y j origin).count ≡ false → StandsApart set past (record { worker = w; kind = k }) x
    waits-yet h d ne = elim (cases_Bool (d.number == y)) [
      | inl t ↦ (let same : d.number ≡ y = eqb-true d.number y t in
          place-same (plan_of set) (record { worker = w; kind = k }) past d (rw same still) (clock-same (record { worker = w; kind = k }) past no_tick)
          (λ first count last.
          let a = waited y j origin in
          let l : last_answer (own y past) ≡ Some (reply.Born first count) = rw same at last in
          let both : Some (reply.Born a.first a.count) ≡ Some (reply.Born first count) = sym a.last ∙ l in
          let f_is : a.first ≡ first = cc in
          let c_is : a.count ≡ count = cc in
          let was = awaited-unended (plan_of set) past y x a lives in
          rw (← f_is, ← c_is) (h ∙ sym was)))
      | inr n ↦ others d ne (λ same. let g = eq-eqb d.number y same in let m = sym g ∙ n in cc m)
    ]

    -- all of them have
    wakes-up : all_ended (plan_of set) ((record { worker = w; kind = k }) ∷ past) (waited y j origin).first (waited y j origin).count ≡ true → IsWoken set past (record { worker = w; kind = k }) x y
    wakes-up h =
        let a = waited y j origin in
        let d = parent-born set workers limit past y x tail a lives in
        let number = numbered-number (plan_of set) past y d.0 d.1 in
        let was = parent-joins set workers limit past y x tail a lives d.0 d.1 in
        record {
          other = apart y j origin;
          birth = d.0;
          at = d.1;
          was = was;
          now = joined-now (plan_of set) (record { worker = w; kind = k }) past d.0 a.first a.count (rw number still) (rw number a.last) h was;
          apart = others;
        }

    also : {new : List (ℕ × Open)} → JoinsStand set ((record { worker = w; kind = k }) ∷ past) new → (woken : Option ℕ) → Wakes (made.Part y j) new woken → AlsoMoves set past (record { worker = w; kind = k }) x woken
    also {new} now woken wakes =
        let a = waited y j origin in
        let opened' : open_parts (plan_of set) ((record { worker = w; kind = k }) ∷ past) y ≡ Some (a.first, a.count) = parts-same (plan_of set) (plan-laws set) workers limit (record { worker = w; kind = k }) past y legal still ∙ opened y j origin in
        let ready = ready-is now y a.first a.count opened' in
        by_all (all_ended (plan_of set) ((record { worker = w; kind = k }) ∷ past) a.first a.count) refl (wakes now.calls now.stands ∙ ap (λ (v : Bool). cond v (Some y) None) ready)
      where
        by_all : (v : Bool) → all_ended (plan_of set) ((record { worker = w; kind = k }) ∷ past) (waited y j origin).first (waited y j origin).count ≡ v → woken ≡ cond v (Some y) None → AlsoMoves set past (record { worker = w; kind = k }) x woken
        by_all true h same = subst (λ (o : Option ℕ). AlsoMoves set past (record { worker = w; kind = k }) x o) (sym same) (wakes-up h)
        by_all false h same = subst (λ (o : Option ℕ). AlsoMoves set past (record { worker = w; kind = k }) x o) (sym same) (waits-yet h)

  pub also-moves : (o : Born) (new : List (ℕ × Open)) (woken : Option ℕ) → ComesFrom (plan_of set) past o b → JoinsStand set ((record { worker = w; kind = k }) ∷ past) new → Wakes o new woken
      → AlsoMoves set past (record { worker = w; kind = k }) x woken
  also-moves (made.Item i) new woken h now wakes =
      subst (λ (u : Option ℕ). AlsoMoves set past (record { worker = w; kind = k }) x u) (sym wakes) (moves-alone (comes-alone (plan_of set) past (made.Item i) b h (λ p j g. cc g)))
  also-moves (made.Copy q) new woken h now wakes =
      subst (λ (u : Option ℕ). AlsoMoves set past (record { worker = w; kind = k }) x u) (sym wakes) (moves-alone (comes-alone (plan_of set) past (made.Copy q) b h (λ p j g. cc g)))
  also-moves (made.Group y c) new woken h now wakes =
      subst (λ (u : Option ℕ). AlsoMoves set past (record { worker = w; kind = k }) x u) (sym wakes) (moves-alone (comes-alone (plan_of set) past (made.Group y c) b h (λ p j g. cc g)))
  also-moves (made.Part y j) new woken h now wakes = also y j h now woken wakes
