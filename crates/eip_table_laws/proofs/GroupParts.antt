-- What the parts of a group make, as the table of groups is told of them and as the journal has them.
use Rattle.std.proofs.Common.{suc, ◌≡◌, ℕ, ◌+◌, Bool, cond, max, List, [], ◌∷◌, ◌++◌, length, Option, Some, None, refl, sym, ap, ◌∙◌, arith, append_assoc, length-append}
use Rattle.std.specs.Prelude.{Result, Ok, Err}
use Rattle.std.proofs.lemmas.List.{append-nil}
use Rattle.eip_exchange.specs.declared.message.Message.{Message}
use Rattle.eip_frames.specs.declared.answer.Completion.TheVariants as by
use Rattle.eip_route.specs.declared.route.RouteSet.{RouteSet}
use Rattle.eip_simple_read.specs.declared.tree.Predicate.{Predicate}
use Rattle.eip_strategy.specs.Adding.{added}
use Rattle.eip_strategy.specs.declared.fault.StrategyFault.{StrategyFault}
use Rattle.eip_aggregator.specs.Arrivals as table
use Rattle.eip_history.specs.Groups.{Arrival, Group, labelled, or_old, folded, or_empty, message_of, is_size, cause_at, last_at, after, greatest_hops}
use Rattle.eip_plan.specs.Plan.{plan_of, setting_of, added_one, closed_by}
use Rattle.eip_tables.specs.Groups.{told}

-- the parts as the table is told of them, the last one first
abbrev pub told_parts : RouteSet → List Arrival → List table.Arrival
told_parts set [] = []
told_parts set (p ∷ ps) = told_parts set ps ++ told set p ∷ []

told-first : (set : RouteSet) (p : Arrival) (ps : List Arrival) (qs : List table.Arrival) → told_parts set (p ∷ ps) ++ qs ≡ told_parts set ps ++ (told set p ∷ qs)
told-first set p ps qs = append_assoc (told_parts set ps) (told set p ∷ []) qs

pub told-push : (set : RouteSet) (ps : List Arrival) (p : Arrival) → told_parts set (ps ++ p ∷ []) ≡ told set p ∷ told_parts set ps
told-push set [] p = refl
told-push set (q ∷ ps) p = ap (λ (xs : List table.Arrival). xs ++ told set q ∷ []) (told-push set ps p)

pub told-many : (set : RouteSet) (ps : List Arrival) → length (told_parts set ps) ≡ length ps
told-many set [] = refl
told-many set (p ∷ ps) = let n = told-many set ps in let m = length-append (told_parts set ps) (told set p ∷ []) in omega (arith, n, m)

-- ---- the message

pub same-or_empty : (o : Option Message) → table.or_empty o ≡ or_empty o
same-or_empty (Some m) = refl
same-or_empty None = refl

same-old : (old : Option Message) (m : Message) (r : Result Message StrategyFault) → table.or_old old m r ≡ or_old old m (added_one r)
same-old old m (Ok n) = refl
same-old (Some o) m (Err f) = refl
same-old None m (Err f) = refl

module _ (set : RouteSet) (a : ℕ) (key : List ℕ) where
  one-more : (was : Option Message) (n : ℕ) (p : Arrival)
      → Some (table.labelled (n + 1) key (table.or_old was p.message (added (setting_of set a).strategy was p.message))) ≡ Some (labelled (n + 1) key (or_old was p.message (((plan_of set).group a).add was p.message)))
  unfolding plan_of
  one-more was n p = ap (λ (m : Message). Some (labelled (n + 1) key m)) (same-old was p.message (added (setting_of set a).strategy was p.message))

  folded-behind : (ps : List Arrival) (qs : List table.Arrival) → folded ((plan_of set).group a) key (length qs) (table.message_of (setting_of set a) key qs) ps ≡ table.message_of (setting_of set a) key (told_parts set ps ++ qs)
  folded-behind [] qs = refl
  folded-behind (p ∷ ps) qs =
      let n : length qs + 1 ≡ suc (length qs) = omega arith in
      let ih = folded-behind ps (told set p ∷ qs) in
      ap (λ (o : Option Message). folded ((plan_of set).group a) key (length qs + 1) o ps) (sym (one-more (table.message_of (setting_of set a) key qs) (length qs) p))
      ∙ (ap (λ (m : ℕ). folded ((plan_of set).group a) key m (table.message_of (setting_of set a) key (told set p ∷ qs)) ps) n
      ∙ (ih ∙ ap (table.message_of (setting_of set a) key) (sym (told-first set p ps qs))))

  -- the message that the parts make
  pub same-folded : (ps : List Arrival) → table.message_of (setting_of set a) key (told_parts set ps) ≡ folded ((plan_of set).group a) key 0 None ps
  same-folded ps = sym (folded-behind ps [] ∙ ap (table.message_of (setting_of set a) key) (append-nil (told_parts set ps)))

  -- what the strategy makes of it and one more
  pub same-added : (old : Option Message) (m : Message) → ((plan_of set).group a).add old m ≡ added_one (added (setting_of set a).strategy old m)
  unfolding plan_of
  same-added old m = refl

  -- ---- when it closes

  same-closes : (o : Option Predicate) (m : Message) (p : Arrival) → table.closes o m p.number (told set p).route ≡ closed_by set o p.number p.route m
  same-closes None m p = refl
  same-closes (Some predicate) m p = refl

  same-size : (o : Option ℕ) (n : ℕ) → table.is_size o n ≡ is_size o n
  same-size None n = refl
  same-size (Some k) n = refl

  pub same-cause : (g : Group) (p : Arrival) → g.aggregator ≡ a → table.cause_at (setting_of set a) (message_of (plan_of set) g) (length g.parts) p.number (told set p).route ≡ cause_at (plan_of set) g p
  unfolding plan_of
  same-cause g p is =
      ap (λ (v : Bool). cond v (Some by.Predicate) (table.size_cause (setting_of set a).size (length g.parts))) (same-closes (setting_of set a).predicate (message_of (plan_of set) g) p)
      ∙ (ap (λ (v : Bool). cond (closed_by set (setting_of set a).predicate p.number p.route (message_of (plan_of set) g)) (Some by.Predicate) (cond v (Some by.Size) None)) (same-size (setting_of set a).size (length g.parts))
      ∙ ap (λ (b : ℕ). cond (closed_by set (setting_of set b).predicate p.number p.route (message_of (plan_of set) g)) (Some by.Predicate) (cond (is_size (setting_of set b).size (length g.parts)) (Some by.Size) None)) (sym is))

  -- ---- when it is due

  same-after : (n : ℕ) (o : Option ℕ) → table.after n o ≡ after n o
  same-after n None = refl
  same-after n (Some d) = refl

  last-told : (p : Arrival) (ps : List Arrival) (qs : List table.Arrival) → table.due_of (setting_of set a) (told_parts set (p ∷ ps) ++ qs) ≡ table.after (last_at (p ∷ ps)) (setting_of set a).timeout
  last-told p [] qs = refl
  last-told p (r ∷ ps) qs = ap (table.due_of (setting_of set a)) (told-first set p (r ∷ ps) qs) ∙ last-told r ps (told set p ∷ qs)

  timeout-is : (setting_of set a).timeout ≡ ((plan_of set).group a).timeout
  unfolding plan_of
  timeout-is = refl

  pub force-is : (setting_of set a).force ≡ ((plan_of set).group a).force
  unfolding plan_of
  force-is = refl

  pub same-due : (p : Arrival) (ps : List Arrival) → table.due_of (setting_of set a) (told_parts set (p ∷ ps)) ≡ after (last_at (p ∷ ps)) ((plan_of set).group a).timeout
  same-due p ps =
      sym (ap (table.due_of (setting_of set a)) (append-nil (told_parts set (p ∷ ps))))
      ∙ (last-told p ps [] ∙ (same-after (last_at (p ∷ ps)) (setting_of set a).timeout ∙ ap (after (last_at (p ∷ ps))) timeout-is))

-- ---- hops

hops-behind : (set : RouteSet) (ps : List Arrival) (qs : List table.Arrival) → table.greatest_hops (told_parts set ps ++ qs) ≡ max (greatest_hops ps) (table.greatest_hops qs)
hops-behind set [] qs = omega arith
hops-behind set (p ∷ ps) qs =
    let ih = hops-behind set ps (told set p ∷ qs) in
    ap table.greatest_hops (told-first set p ps qs) ∙ (ih ∙ omega arith)

pub same-hops : (set : RouteSet) (ps : List Arrival) → table.greatest_hops (told_parts set ps) ≡ greatest_hops ps
same-hops set ps = sym (ap table.greatest_hops (append-nil (told_parts set ps))) ∙ (hops-behind set ps [] ∙ omega arith)
