-- The states of the sources behind one more entry.
use Rattle.std.proofs.Common.{◌≡◌, ◌≢◌, ℕ, ◌<◌, Bool, true, false, List, ◌∷◌, set as put_at, Option, Some, None, refl, sym, ap, ◌∙◌, arith, cond, eq-eqb}
use Rattle.std.specs.List.{slice_get}
use Rattle.std.specs.Prelude.{unwrap_or}
use Rattle.std.proofs.lemmas.Option.{slice_get_within}
use Rattle.eip_exchange.specs.declared.message.Message.{Message}
use Rattle.eip_ledger.specs.declared.entry.Kind.{Kind}
use Rattle.eip_ledger.specs.declared.entry.Kind.TheVariants.{Pull, Accept, Refuse, SourceEnd, SourceFault}
use Rattle.eip_ledger.specs.declared.entry.Refused.{Refused}
use Rattle.eip_history.specs.Plan.{Plan}
use Rattle.eip_history.specs.Own.{Past, source_state, moved, SourceState}
use Rattle.eip_history.specs.Own as own_of
use Rattle.eip_history.specs.Rules.{IsSource}
use Rattle.eip_history.proofs.Limit.{source-after, not-same}
use Rattle.eip_tables.specs.declared.row.SourceState.{SourceState as Kept}
use Rattle.eip_tables.specs.declared.row.SourceState.TheVariants as kept
use Rattle.eip_tables.specs.Rows.{SourcesStand, source_row, kept_state}
use Rattle.eip_table_laws.proofs.SourceEvents.{sources-set, sources-same}
use Rattle.eip_audit.specs.Judging.{state_at}

-- what is read at a route
state-of : (states : List Kept) (r : ℕ) (o : Option Kept) → slice_get states r ≡ o → state_at states r ≡ unwrap_or o kept.Unused
state-of states r o h = ap (λ q. unwrap_or q kept.Unused) h

-- a source that the books keep so is one, and stands so
pub record IsAt (s : Plan) (past : Past) (r : ℕ) (was : SourceState) : Type 0 where
  pub source : IsSource s r
  pub state : source_state r past ≡ was

kept-so : (st was : SourceState) → kept_state st ≡ kept_state was → st ≡ was
kept-so own_of.Idle own_of.Idle h = refl
kept-so (own_of.Out v) (own_of.Out w) h = let e : v ≡ w = cc in ap own_of.Out e
kept-so own_of.Done own_of.Done h = refl
kept-so own_of.Idle (own_of.Out w) h = absurd (cc h)
kept-so own_of.Idle own_of.Done h = absurd (cc h)
kept-so (own_of.Out v) own_of.Idle h = absurd (cc h)
kept-so (own_of.Out v) own_of.Done h = absurd (cc h)
kept-so own_of.Done own_of.Idle h = absurd (cc h)
kept-so own_of.Done (own_of.Out w) h = absurd (cc h)

never-unused : (was : SourceState) → kept.Unused ≡ kept_state was → ⊥
never-unused own_of.Idle h = cc h
never-unused (own_of.Out w) h = cc h
never-unused own_of.Done h = cc h

module _ (s : Plan) (past : Past) (states : List Kept) (st : SourcesStand s past states) (r : ℕ) where
  row-is : (v : Bool) → s.is_source r ≡ v → (was : SourceState) → cond v (kept_state (source_state r past)) kept.Unused ≡ kept_state was → r < s.routes → IsAt s past r was
  row-is true e was h l = record { source = (l, e); state = kept-so (source_state r past) was h }
  row-is false e was h l = absurd (never-unused was h)

  -- what the states tell of a source
  pub told-at : (was : SourceState) → state_at states r ≡ kept_state was → IsAt s past r was
  told-at was h = by_there (slice_get states r) refl
    where
      by_there : (o : Option Kept) → slice_get states r ≡ o → IsAt s past r was
      by_there None e = absurd (never-unused was (sym (state-of states r None e) ∙ h))
      by_there (Some x) e =
          let l : r < s.routes = omega (arith, st.many, slice_get_within states r x e) in
          let both : Some x ≡ Some (source_row s past r) = sym e ∙ st.each r l in
          let row : x ≡ source_row s past r = cc in
          row-is (s.is_source r) refl was (sym row ∙ (sym (state-of states r (Some x) e) ∙ h)) l

  -- and the other way round
  pub at-told : (was : SourceState) → IsSource s r → source_state r past ≡ was → state_at states r ≡ kept_state was
  at-told was is h =
      state-of states r (Some (source_row s past r)) (st.each r is.0)
      ∙ (ap (λ v. cond v (kept_state (source_state r past)) kept.Unused) is.1 ∙ ap kept_state h)

  -- an entry of this source moves it, and no other
  pub source-moves : (w : ℕ) (k : Kind) (now : SourceState) (new : Kept) → IsSource s r → ((u : ℕ) (was : SourceState) → u ≢ r → moved w u k was ≡ was)
      → moved w r k (source_state r past) ≡ now → new ≡ kept_state now → SourcesStand s ((record { worker = w; kind = k }) ∷ past) (put_at states r new)
  source-moves w k now new is others here kept_so =
      sources-set s (record { worker = w; kind = k }) past states r new is.0 (λ u ne. source-after w u k past ∙ others u (source_state u past) ne)
      (kept_so ∙ sym (ap (λ v. cond v (kept_state (source_state r ((record { worker = w; kind = k }) ∷ past))) kept.Unused) is.1 ∙ ap kept_state (source-after w r k past ∙ here))) st

-- an entry of none moves none
pub sources-stay : (s : Plan) (past : Past) (states : List Kept) (w : ℕ) (k : Kind) → ((u : ℕ) (was : SourceState) → moved w u k was ≡ was)
    → SourcesStand s past states → SourcesStand s ((record { worker = w; kind = k }) ∷ past) states
sources-stay s past states w k none st = sources-same s (record { worker = w; kind = k }) past states (λ u. source-after w u k past ∙ none u (source_state u past)) st

-- ---- the entries of a source

module _ (s : Plan) (past : Past) (states : List Kept) (st : SourcesStand s past states) (r w : ℕ) (is : IsSource s r) where
  pub pulled : SourcesStand s ((record { worker = w; kind = Pull r }) ∷ past) (put_at states r (kept.Out w))
  pulled = source-moves s past states st r w (Pull r) (own_of.Out w) (kept.Out w) is (λ u was ne. rw (not-same u r ne) refl) (rw (eq-eqb r r refl) refl) refl

  pub accepted : (item : List ℕ) (m : Message) → SourcesStand s ((record { worker = w; kind = Accept r item m }) ∷ past) (put_at states r kept.Idle)
  accepted item m = source-moves s past states st r w (Accept r item m) own_of.Idle kept.Idle is (λ u was ne. rw (not-same u r ne) refl) (rw (eq-eqb r r refl) refl) refl

  pub refused : (item : List ℕ) (cause : Refused) → SourcesStand s ((record { worker = w; kind = Refuse r item cause }) ∷ past) (put_at states r kept.Idle)
  refused item cause = source-moves s past states st r w (Refuse r item cause) own_of.Idle kept.Idle is (λ u was ne. rw (not-same u r ne) refl) (rw (eq-eqb r r refl) refl) refl

  pub done : SourcesStand s ((record { worker = w; kind = SourceEnd r }) ∷ past) (put_at states r kept.Done)
  done = source-moves s past states st r w (SourceEnd r) own_of.Done kept.Done is (λ u was ne. rw (not-same u r ne) refl) (rw (eq-eqb r r refl) refl) refl

  pub failed : SourcesStand s ((record { worker = w; kind = SourceFault r }) ∷ past) (put_at states r kept.Done)
  failed = source-moves s past states st r w (SourceFault r) own_of.Done kept.Done is (λ u was ne. rw (not-same u r ne) refl) (rw (eq-eqb r r refl) refl) refl
