-- What is true behind a call that made no entry.
use Rattle.std.proofs.Common.{ℕ, ◌∷◌, sym, ap, subst, ◌∙◌}
use Rattle.eip_ledger.specs.declared.entry.Kind.{Kind}
use Rattle.eip_history.specs.Plan.{Plan}
use Rattle.eip_history.specs.Own.{Past}
use Rattle.eip_plan.specs.Plan.{plan_of}
use Rattle.eip_hub.specs.View.{BooksView, plan, Adds, AddsNone}

module _ (a b : BooksView) (n : AddsNone a b) where
  -- what is read from the plan, the limit and the past stays
  pub none-on : (P : Plan → ℕ → Past → Type 0) → P (plan a) a.journal.turns a.journal.past → P (plan b) b.journal.turns b.journal.past
  none-on P h =
      subst (λ (s : Plan). P s b.journal.turns b.journal.past) (sym (ap plan_of n.same.set))
      (subst (λ (t : ℕ). P (plan a) t b.journal.past) (sym n.same.turns) (subst (λ (p : Past). P (plan a) a.journal.turns p) (sym n.past) h))

  pub none-back : (P : Plan → ℕ → Past → Type 0) → P (plan b) b.journal.turns b.journal.past → P (plan a) a.journal.turns a.journal.past
  none-back P h =
      subst (λ (s : Plan). P s a.journal.turns a.journal.past) (ap plan_of n.same.set)
      (subst (λ (t : ℕ). P (plan b) t a.journal.past) n.same.turns (subst (λ (p : Past). P (plan b) b.journal.turns p) n.past h))

  -- an entry that came then came at once
  pub adds-on : (c : BooksView) (w : ℕ) (k : Kind) → Adds b c w k → Adds a c w k
  adds-on c w k d = record {
    same = record { set = d.same.set ∙ n.same.set; workers = d.same.workers ∙ n.same.workers; turns = d.same.turns ∙ n.same.turns };
    past = d.past ∙ ap (λ (p : Past). (record { worker = w; kind = k }) ∷ p) n.past;
  }

  pub none-more : (c : BooksView) → AddsNone b c → AddsNone a c
  none-more c m = record {
    same = record { set = m.same.set ∙ n.same.set; workers = m.same.workers ∙ n.same.workers; turns = m.same.turns ∙ n.same.turns };
    past = m.past ∙ n.past;
  }
