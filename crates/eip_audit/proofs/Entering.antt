-- What holds of an auditor behind an entry that its books have entered.
use Rattle.std.proofs.Common.{◌≡◌, ◌≢◌, ℕ, zero, suc, Bool, true, false, [], ◌∷◌, Option, Some, None, Result, Ok, Err, sym, ap, subst}
use Rattle.std.specs.Prelude.{IfOk}
use Rattle.eip_text.specs.declared.memory.NoMemory.{NoMemory}
use Rattle.eip_exchange.specs.declared.birth.Birth.{Birth}
use Rattle.eip_route.specs.declared.route.RouteSet.{RouteSet}
use Rattle.eip_ledger.specs.declared.entry.Entry.{Entry}
use Rattle.eip_ledger.specs.declared.entry.Kind.{Kind}
use Rattle.eip_ordered.specs.Numbered.{value_at, Puts}
use Rattle.eip_history.specs.Plan.{Plan}
use Rattle.eip_history.specs.Own.{Past, concerns, taken_by, moved, numbered, SourceState}
use Rattle.eip_history.specs.Rules.{KeepsRules, May}
use Rattle.eip_history.proofs.Told.{births-none}
use Rattle.eip_history.proofs.Unborn.{legal-may, place-born}
use Rattle.eip_plan.specs.Plan.{plan_of}
use Rattle.eip_tables.specs.Rows.{SourcesStand}
use Rattle.eip_hub.specs.Ticket.{Ticket}
use Rattle.eip_hub.specs.View.{BooksView, plan, IsLegalRun, Adds}
use Rattle.eip_audit.specs.declared.auditor.Auditor.{Auditor}
use Rattle.eip_audit.specs.Judging.{HandTold, HandsStand, Holds, Enters, Judges, JudgesEntry}
use Rattle.eip_audit.proofs.Hands.{hand-gone, hands-apart, hands-put, hands-stay}
use Rattle.eip_audit.proofs.SourceStates.{sources-stay}

-- the past with one more entry
abbrev pub entered : BooksView → ℕ → Kind → Past
entered v w k = (record { worker = w; kind = k }) ∷ v.journal.past

pub plan-same : (old new : BooksView) (w : ℕ) (k : Kind) → Adds old new w k → plan new ≡ plan old
plan-same old new w k adds = ap plan_of adds.same.set

-- the entry is legal behind those before
pub rules-kept : (old new : BooksView) (w : ℕ) (k : Kind) → Adds old new w k → IsLegalRun new → KeepsRules (plan old) old.journal.workers old.journal.turns (entered old w k)
rules-kept old new w k adds legal =
    subst (λ (s : Plan). KeepsRules s old.journal.workers old.journal.turns (entered old w k)) (plan-same old new w k adds)
    (subst (λ (n : ℕ). KeepsRules (plan new) n old.journal.turns (entered old w k)) adds.same.workers
    (subst (λ (n : ℕ). KeepsRules (plan new) new.journal.workers n (entered old w k)) adds.same.turns
    (subst (KeepsRules (plan new) new.journal.workers new.journal.turns) adds.past legal.entries)))

-- so it keeps its rule
pub may-of : (old new : BooksView) (w : ℕ) (k : Kind) → Adds old new w k → IsLegalRun new → May (plan old) old.journal.turns old.journal.past w k
may-of old new w k adds legal =
    legal-may (plan old) old.journal.workers old.journal.turns (record { worker = w; kind = k }) old.journal.past (rules-kept old new w k adds legal)

-- a ticket of the new books
pub ticket-back : (old new : BooksView) (w : ℕ) (k : Kind) → Adds old new w k → (x : ℕ) (o : Option Ticket) → HandTold (plan new) new.journal.past x o
    → HandTold (plan old) (entered old w k) x o
ticket-back old new w k adds x o told =
    subst (λ (s : Plan). HandTold s (entered old w k) x o) (plan-same old new w k adds) (subst (λ (p : Past). HandTold (plan new) p x o) adds.past told)

-- behind the entry of an exchange that was no take, it is in nobody's hand
pub ticket-gone : (old new : BooksView) (w : ℕ) (k : Kind) → Adds old new w k → IsLegalRun new → (x : ℕ) → concerns x k ≡ true → taken_by w k ≡ None
    → HandTold (plan old) (entered old w k) x None
ticket-gone old new w k adds legal x here none =
    hand-gone (plan old) old.journal.workers old.journal.turns (record { worker = w; kind = k }) old.journal.past (rules-kept old new w k adds legal) x here none

module _ (old new : Auditor) (w : ℕ) (k : Kind) (adds : Adds old.books new.books w k) (legal : IsLegalRun new.books) where
  pub enters : SourcesStand (plan old.books) (entered old.books w k) new.sources.items → HandsStand (plan old.books) (entered old.books w k) new.hands.entries → Enters old new w k
  enters sources hands = record {
    adds = adds;
    holds = record {
      legal = legal;
      sources =
          subst (λ (s : Plan). SourcesStand s new.books.journal.past new.sources.items) (sym (plan-same old.books new.books w k adds))
          (subst (λ (p : Past). SourcesStand (plan old.books) p new.sources.items) (sym adds.past) sources);
      hands =
          subst (λ (s : Plan). HandsStand s new.books.journal.past new.hands.entries) (sym (plan-same old.books new.books w k adds))
          (subst (λ (p : Past). HandsStand (plan old.books) p new.hands.entries) (sym adds.past) hands);
    };
  }

  -- an entry of neither source nor exchange, and one of a source
  pub enters-source : ((x : ℕ) → concerns x k ≡ false) → new.hands.entries ≡ old.hands.entries → HandsStand (plan old.books) old.books.journal.past old.hands.entries
      → SourcesStand (plan old.books) (entered old.books w k) new.sources.items → Enters old new w k
  enters-source nobody same hands sources =
      enters sources
      (subst (HandsStand (plan old.books) (entered old.books w k)) (sym same)
      (hands-apart (plan old.books) old.books.journal.workers old.books.journal.turns (record { worker = w; kind = k }) old.books.journal.past
      (rules-kept old.books new.books w k adds legal) old.hands.entries nobody hands))

  pub enters-none : ((x : ℕ) → concerns x k ≡ false) → ((u : ℕ) (was : SourceState) → moved w u k was ≡ was) → new.hands.entries ≡ old.hands.entries
      → new.sources.items ≡ old.sources.items → Holds old → Enters old new w k
  enters-none nobody none same states holds =
      enters-source nobody same holds.hands
      (subst (SourcesStand (plan old.books) (entered old.books w k)) (sym states)
      (sources-stay (plan old.books) old.books.journal.past old.sources.items w k none holds.sources))

  -- an entry of one exchange, whose ticket is new or gone
  pub enters-own : (x : ℕ) (o : Option Ticket) → ((y : ℕ) → y ≢ x → concerns y k ≡ false) → ((u : ℕ) (was : SourceState) → moved w u k was ≡ was)
      → Puts old.hands.entries new.hands.entries x o → HandTold (plan old.books) (entered old.books w k) x o → new.sources.items ≡ old.sources.items → Holds old
      → Enters old new w k
  enters-own x o others none puts told states holds =
      enters
      (subst (SourcesStand (plan old.books) (entered old.books w k)) (sym states)
      (sources-stay (plan old.books) old.books.journal.past old.sources.items w k none holds.sources))
      (hands-put (plan old.books) old.books.journal.workers old.books.journal.turns (record { worker = w; kind = k }) old.books.journal.past
      (rules-kept old.books new.books w k adds legal) old.hands.entries new.hands.entries x o others puts told holds.hands)

  -- an entry of one exchange that nobody has in hand, before and behind it
  pub enters-free : (x : ℕ) → ((y : ℕ) → y ≢ x → concerns y k ≡ false) → concerns x k ≡ true → taken_by w k ≡ None → ((u : ℕ) (was : SourceState) → moved w u k was ≡ was)
      → value_at old.hands.entries x ≡ None → new.hands.entries ≡ old.hands.entries → new.sources.items ≡ old.sources.items → Holds old → Enters old new w k
  enters-free x others here untaken none free same states holds =
      enters
      (subst (SourcesStand (plan old.books) (entered old.books w k)) (sym states)
      (sources-stay (plan old.books) old.books.journal.past old.sources.items w k none holds.sources))
      (subst (HandsStand (plan old.books) (entered old.books w k)) (sym same)
      (hands-stay (plan old.books) old.books.journal.workers old.books.journal.turns (record { worker = w; kind = k }) old.books.journal.past
      (rules-kept old.books new.books w k adds legal) old.hands.entries x others here untaken free holds.hands))

-- an entry that a worker made is entered where it keeps its rule
pub judged-entry : (old new : Auditor) (e : Entry) (r : Result Bool NoMemory) → IfOk r (Judges old new e.worker e.kind) → IfOk r (JudgesEntry old new e)
judged-entry old new e (Err f) h = h
judged-entry old new e (Ok true) h = h
judged-entry old new e (Ok false) h = λ k. h k.1

-- before the first entry nobody has anything in hand
pub none-in-hand : (s : Plan) → HandsStand s [] []
none-in-hand s = λ x w there. let b = place-born s [] x _ there in unborn x b.0 (subst (λ bs. numbered bs x ≡ Some b.0) (births-none s) b.1)
  where
    unborn : (x : ℕ) (b : Birth) → numbered [] x ≡ Some b → ⊥
    unborn zero b h = cc h
    unborn (suc i) b h = cc h

pub holds-first : (a : Auditor) → IsLegalRun a.books → (set : RouteSet) → a.books.set ≡ set → a.books.journal.past ≡ [] → SourcesStand (plan_of set) [] a.sources.items → a.hands.entries ≡ [] → Holds a
holds-first a legal set same none sources hands = record {
  legal = legal;
  sources =
      subst (λ (p : Past). SourcesStand (plan a.books) p a.sources.items) (sym none) (subst (λ (s : RouteSet). SourcesStand (plan_of s) [] a.sources.items) (sym same) sources);
  hands =
      subst (λ (p : Past). HandsStand (plan a.books) p a.hands.entries) (sym none) (subst (HandsStand (plan a.books) []) (sym hands) (none-in-hand (plan a.books)));
}
