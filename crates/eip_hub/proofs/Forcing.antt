-- When open groups are closed by force: where nobody may act and nobody is due, a run that goes on waits for them alone.
use Rattle.std.proofs.Common.{◌≡◌, ℕ, ◌==◌, ◌&&◌, ◌||◌, not, Bool, true, false, cond, List, [], ◌∷◌, length, Option, Some, None, is_some, refl, sym, ap, subst, ◌∙◌, arith}
use Rattle.std.proofs.lemmas.Bool.{eqb-true}
use Rattle.eip_ledger.specs.declared.place.Stop.{Stop}
use Rattle.eip_ledger.specs.declared.entry.Kind.TheVariants.{Force}
use Rattle.eip_history.specs.Plan.{Plan}
use Rattle.eip_history.specs.Own.{Past, turns}
use Rattle.eip_history.specs.Groups.{Group, due_of, is_forced}
use Rattle.eip_history.specs.Births.{groups}
use Rattle.eip_history.specs.Place.{hands}
use Rattle.eip_history.specs.Rules.{KeepsRules, May, IsQuiet, IsBelow, any_group, dues, least, first, unfinished}
use Rattle.eip_ledger.specs.declared.place.Stop.TheVariants.{Spent}
use Rattle.eip_history.specs.Stop.{stop_of, is_over, will_close, no_numbers, unended, with_fault, first_fault, held_or_drained, open_groups}
use Rattle.eip_history.specs.Laws.{PlanLaws}
use Rattle.eip_history.proofs.Waits.{Acts, Runs, Starts, Pulls, Ticks, Forces}
use Rattle.eip_history.proofs.Main.{somebody-acts}

-- the one that passes is among them
any-more : (p q : Group → Bool) (gs : List Group) → ((g : Group) → p g ≡ true → q g ≡ true) → any_group p gs ≡ true → any_group q gs ≡ true
any-more p q [] h e = e
any-more p q (g ∷ gs) h e = by_first (p g) refl (q g) refl e (λ f. any-more p q gs h f)
  where
    by_first : (u : Bool) → p g ≡ u → (v : Bool) → q g ≡ v → (u || any_group p gs) ≡ true → (any_group p gs ≡ true → any_group q gs ≡ true) → (v || any_group q gs) ≡ true
    by_first u s true t f later = refl
    by_first true s false t f later = absurd (let k = h g s in cc)
    by_first false s false t f later = later f

forced-closes : (s : Plan) (g : Group) → is_forced s g ≡ true → will_close s g ≡ true
forced-closes s g h = by_due (is_some (due_of s g))
  where
    by_due : (v : Bool) → (v || is_forced s g) ≡ true
    by_due true = refl
    by_due false = h

module _ (s : Plan) (w limit : ℕ) (past : Past) where
  -- where nobody may act, nobody is due, turns are left and the run goes on, a group may be forced
  pub may-force : (v : ℕ) → PlanLaws s → KeepsRules s w limit past → IsQuiet s past → IsBelow s limit past → least (dues s past) ≡ None → stop_of s limit past ≡ None
      → May s limit past v Force
  may-force v laws legal quiet below none waits = (quiet, below, none, by_acts (somebody-acts s laws w limit past legal quiet.no_hand waits).1)
    where
      by_acts : Acts s limit past → any_group (is_forced s) (groups s past) ≡ true
      by_acts (Runs x h) = absurd (let e : first [] ≡ Some x = subst (λ xs. first xs ≡ Some x) quiet.none_ready h in cc e)
      by_acts (Starts q h) = absurd (let e : first [] ≡ Some q = subst (λ xs. first xs ≡ Some q) quiet.none_startable h in cc e)
      by_acts (Pulls t h) = absurd (let e : first [] ≡ Some t = subst (λ xs. first xs ≡ Some t) quiet.sources_done h in cc e)
      by_acts (Ticks t q h) = absurd (let e : None ≡ Some t = sym none ∙ h in cc e)
      by_acts (Forces q n h) = h

  -- and where one may, the run goes on
  over-not : any_group (is_forced s) (groups s past) ≡ true → is_over s past ≡ false
  unfolding is_over
  over-not forced =
      let closes : any_group (will_close s) (groups s past) ≡ true = any-more (is_forced s) (will_close s) (groups s past) (forced-closes s) forced in
      ap (λ v. (unended s past == 0) && (no_numbers (unfinished s past) && not v)) closes ∙ nothing (unended s past == 0) (no_numbers (unfinished s past))
    where
      nothing : (u v : Bool) → (u && (v && not true)) ≡ false
      nothing true true = refl
      nothing true false = refl
      nothing false v = refl

  turns-left : IsBelow s limit past → (turns past == limit) ≡ false
  turns-left below = by_test (turns past == limit) refl
    where
      by_test : (v : Bool) → (turns past == limit) ≡ v → v ≡ false
      by_test true t = absurd (let e = eqb-true (turns past) limit t in omega (arith, below, e))
      by_test false t = refl

  pub forced-waits : (v : ℕ) (r : Stop) → May s limit past v Force → stop_of s limit past ≡ Some r → ⊥
  unfolding stop_of
  forced-waits v r may h =
      not-stopped (is_over s past) (turns past == limit) (hands s past == 0)
      (Some (with_fault (first_fault past) (held_or_drained (length (open_groups s past))))) (Some (with_fault (first_fault past) Spent))
      (over-not may.3) (turns-left may.1) h
    where
      not-stopped : (over spent home : Bool) (a b : Option Stop) → over ≡ false → spent ≡ false → cond over a (cond (spent && home) b None) ≡ Some r → ⊥
      not-stopped true spent home a b f g e = cc f
      not-stopped false true home a b f g e = cc g
      not-stopped false false home a b f g e = cc e

-- there is nothing where none is told of, and something where one is
pub none-told : {A : Type 0} (o : Option A) → is_some o ≡ false → o ≡ None
none-told None h = refl
none-told (Some x) h = absurd (cc h)

pub some-told : {A : Type 0} (o : Option A) → is_some o ≡ true → (x : A) × (o ≡ Some x)
some-told None h = absurd (cc h)
some-told (Some x) h = (x, refl)
