-- A journal has one verdict: one first entry that breaks its rule, or none.
use Rattle.std.proofs.Common.{◌≡◌, ◌↔◌, ℕ, ◌+◌, List, [], ◌∷◌, ◌++◌, length, sym, ap, subst, ◌∙◌}
use Rattle.eip_ledger.specs.declared.entry.Entry.{Entry}
use Rattle.eip_history.specs.Plan.{Plan}
use Rattle.eip_history.specs.Own.{Past}
use Rattle.eip_history.specs.Rules.{KeepsRules, IsLegal}
use Rattle.eip_history.proofs.Unborn.{legal-tail}
use Rattle.eip_verdict.specs.declared.verdict.Verdict.{Verdict}
use Rattle.eip_verdict.specs.declared.verdict.Verdict.TheVariants.{Legal, Wrong}
use Rattle.eip_verdict.specs.Verdicts.{rule_of, Keeps, IsFirstWrong, Says}
use Rattle.eip_verdict.proofs.Keeping.{keep-head}

module _ (s : Plan) (workers limit : ℕ) where
  keep-behind : (later : List Entry) (before : Past) → KeepsRules s workers limit (later ++ before) → KeepsRules s workers limit before
  keep-behind [] before h = h
  keep-behind (e ∷ later) before h = keep-behind later before (legal-tail s workers limit e (later ++ before) h)

  -- where all keep their rules, none breaks it
  none-breaks : (later : List Entry) (wrong : Entry) (before past : Past) → past ≡ later ++ (wrong ∷ before) → KeepsRules s workers limit past
      → (Keeps s workers limit before wrong → ⊥) → ⊥
  none-breaks later wrong before past split h broken =
      broken (keep-head s workers limit wrong before (keep-behind later (wrong ∷ before) (subst (KeepsRules s workers limit) split h)))

  not-both : (past : Past) (entry rule : ℕ) → IsLegal s workers limit past → IsFirstWrong s workers limit past entry rule → ⊥
  not-both past entry rule h w = none-breaks w.later w.wrong w.before past w.split h.entries w.breaks

  -- two first wrong entries are one
  same-wrong : (one two : List Entry) (a b : Entry) (p q : Past) → one ++ (a ∷ p) ≡ two ++ (b ∷ q) → KeepsRules s workers limit p → KeepsRules s workers limit q
      → (Keeps s workers limit p a → ⊥) → (Keeps s workers limit q b → ⊥) → (a ≡ b) × (p ≡ q)
  same-wrong [] [] a b p q e h k u v = (cc, cc)
  same-wrong [] (d ∷ two) a b p q e h k u v = let t : p ≡ two ++ (b ∷ q) = cc in absurd (none-breaks two b q p t h v)
  same-wrong (c ∷ one) [] a b p q e h k u v = let t : q ≡ one ++ (a ∷ p) = cc in absurd (none-breaks one a p q t k u)
  same-wrong (c ∷ one) (d ∷ two) a b p q e h k u v = let t : one ++ (a ∷ p) ≡ two ++ (b ∷ q) = cc in same-wrong one two a b p q t h k u v

  pub one-verdict : (past : Past) (u v : Verdict) → Says s workers limit past u → Says s workers limit past v → u ≡ v
  one-verdict past (Legal n) (Legal m) h k = let e : n ≡ m = h.1 ∙ sym k.1 in cc
  one-verdict past (Legal n) (Wrong e r) h k = absurd (not-both past e r h.0 k)
  one-verdict past (Wrong e r) (Legal n) h k = absurd (not-both past e r k.0 h)
  one-verdict past (Wrong e r) (Wrong f t) h k =
      let same = same-wrong h.later k.later h.wrong k.wrong h.before k.before (sym h.split ∙ k.split) h.kept k.kept h.breaks k.breaks in
      let a : e ≡ f = h.number ∙ (ap (λ (p : Past). length p + 1) same.1 ∙ sym k.number) in
      let b : r ≡ t = h.rule_is ∙ (ap (λ (d : Entry). rule_of d.kind) same.0 ∙ sym k.rule_is) in
      cc

  pub legal-exactly : (past : Past) (v : Verdict) → Says s workers limit past v → (v ≡ Legal (length past) ↔ IsLegal s workers limit past)
  legal-exactly past (Legal n) h = (λ e. h.0, λ l. ap Legal h.1)
  legal-exactly past (Wrong e r) h = (λ same. absurd (cc same), λ l. absurd (not-both past e r l h))
