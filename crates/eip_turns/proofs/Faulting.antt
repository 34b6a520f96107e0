-- What follows a fault.
use Rattle.std.proofs.Common.{◌≡◌, ℕ, zero, suc, ◌-◌, Bool, true, false, cond, List, refl, sym, ◌∙◌, ap, inl, inr, arith}
use Rattle.std.specs.Prelude.{Option, Some, None, ltb, ◌&&◌}
use Rattle.std.proofs.Math.Path.{fun_ext}
use Rattle.std.proofs.lemmas.Bool.{lt-ltb, cases_Bool, false≢true}
use Rattle.eip_exchange.specs.declared.message.Message.{Message}
use Rattle.eip_exchange.specs.declared.end.Fault.{Fault}
use Rattle.eip_exchange.specs.declared.end.End.TheVariants.{Handled}
use Rattle.eip_exchange.specs.declared.setting.Clause.{Clause}
use Rattle.eip_exchange.specs.declared.setting.Policy.{Policy}
use Rattle.eip_error_handler.specs.Redelivery.{delay_of}
use Rattle.eip_uri.specs.declared.uri.Uri.{Uri}
use Rattle.eip_route.specs.declared.route.RouteSet.{RouteSet}
use Rattle.eip_frames.specs.declared.answer.Answer.{Answer as Reply}
use Rattle.eip_meaning.specs.declared.context.Context.{Context}
use Rattle.eip_meaning.specs.Outcomes.{Stops, Runner, followed}
use Rattle.eip_meaning.specs.Contexts.{in_handler}
use Rattle.eip_meaning.specs.Values.{redelivered}
use Rattle.eip_meaning.specs.Sends.{to_mean}
use Rattle.eip_meaning.specs.Checks.{block_or_goes}
use Rattle.eip_meaning.specs.Attempts.{number_of_try, policy_for, may_try_again, tries}
use Rattle.eip_meaning.specs.Meaning.{block_mean, handle_in, ends_failed, behind_clause, decides, dead_letter, by_clause}
use Rattle.eip_meaning.proofs.Unfolding.{block_equation}
use Rattle.eip_progress.specs.declared.frame.Task.{Task}
use Rattle.eip_progress.specs.declared.frame.Task.TheVariants as task
use Rattle.eip_progress.specs.declared.frame.Wait.TheVariants as wait
use Rattle.eip_progress.specs.declared.frame.Now.TheVariants as now
use Rattle.eip_progress.specs.Rest.{call_at, try_of, try_of_send, fault_mean, rest_of_block, now_mean}
use Rattle.eip_turns.specs.Kept.{decider_of}

none_some : {X : Type 0} {k : X} → None ≡ Some k → ⊥
none_some e = cc

pub first_delay : (p : Policy) (n : ℕ) → n ≡ 0 → delay_of p 1 ≡ delay_of p n
unfolding delay_of
first_delay p zero h = refl
first_delay p (suc n) h = cc

-- a block from its first step on is the block
pub rest_at_start : (set : RouteSet) (c : Context) (b : ℕ) (m : Message) (A : List Reply) → rest_of_block set c b 0 m A ≡ block_mean set (handle_in set c) c b m A
rest_at_start set c b m A = sym (block_equation set (handle_in set c) c b m A)

module _ (set : RouteSet) (whole : Option Uri) (c : Context) where
  pub letters_as : (f : Fault) (m : Message) (u : Uri) (A : List Reply) → set.handler.dead ≡ Some u →
      now_mean set whole (now.Letters (in_handler c) m) A ≡ dead_letter set set.handler.dead (in_handler c) f m A
  letters_as f m u A e =
      let t : try_of set whole (in_handler c) task.Dead ≡ to_mean set (call_at set (in_handler c)) (in_handler c) u = fun_ext (λ m'. fun_ext (λ A'. ap (λ (o : Option Uri). try_of_send set (in_handler c) o m' A') e)) in
      ap (λ (try : Runner). followed (tries set ends_failed try (in_handler c) 1000 m A) (λ m' A'. Stops Handled m' A')) t
      ∙ ap (λ (o : Option Uri). dead_letter set o (in_handler c) f m A) (sym e)

  handles_as : (f : Fault) (k : Clause) (m : Message) (A : List Reply) → decides k ≡ true →
      now_mean set whole (now.Handles k.handled k.continued f (in_handler c) k.block m) A ≡ by_clause set (Some k) (in_handler c) f m A
  handles_as f k m A t =
      ap (λ (n : ℕ → Runner). followed (block_or_goes n k.block m A) (behind_clause k f)) (fun_ext (λ j. fun_ext (λ m'. fun_ext (λ A'. rest_at_start set (in_handler c) j m' A'))))
      ∙ ap (λ (b : Bool). cond b (followed (block_or_goes (block_mean set ends_failed (in_handler c)) k.block m A) (behind_clause k f)) (dead_letter set set.handler.dead (in_handler c) f m A)) (sym t)

  -- by the clause that decides
  pub by_decider : (f : Fault) (o : Option Clause) (k : Clause) (m : Message) (A : List Reply) → decider_of o ≡ Some k →
      now_mean set whole (now.Handles k.handled k.continued f (in_handler c) k.block m) A ≡ by_clause set o (in_handler c) f m A
  by_decider f None k m A e = absurd (none_some e)
  by_decider f (Some j) k m A e =
      elim (cases_Bool (decides j)) [
        | inl t ↦
            let s : Some j ≡ Some k = rw t at e in
            let q : j ≡ k = cc in
            rw (← q) (handles_as f j m A t)
        | inr t ↦ absurd (none_some (rw t at e))
      ]

  pub by_nobody : (f : Fault) (o : Option Clause) (m : Message) (A : List Reply) → decider_of o ≡ None → dead_letter set set.handler.dead (in_handler c) f m A ≡ by_clause set o (in_handler c) f m A
  by_nobody f None m A e = refl
  by_nobody f (Some j) m A e =
      elim (cases_Bool (decides j)) [
        | inl t ↦ absurd (none_some (sym (rw t at e)))
        | inr t ↦ rw t refl
      ]

  module _ (t : Task) (m : Message) (f : Fault) (again : Bool) where
    -- the delay before the next try
    pub sleeping_as : (left : ℕ) (A : List Reply) → (ltb 0 left && may_try_again set c (number_of_try left) f again) ≡ true →
        now_mean set whole (now.Waits (wait.Sleeping c t (left - 1) (delay_of (policy_for set f) (number_of_try left)) m)) A ≡ fault_mean set whole c t left m f again A
    sleeping_as zero A y = absurd (false≢true y)
    sleeping_as (suc left) A y =
        let l : suc left - 1 ≡ left = omega arith in
        let z : may_try_again set c (number_of_try (suc left)) f again ≡ true = rw (lt-ltb 0 (suc left) (omega arith)) at y in
        rw (l, z) refl

    -- no further try
    pub handled_as : (left : ℕ) (x : Message) (A : List Reply) → (ltb 0 left && may_try_again set c (number_of_try left) f again) ≡ false → x ≡ redelivered m (number_of_try left) →
        handle_in set c c f x A ≡ fault_mean set whole c t left m f again A
    handled_as zero x A y e = ap (λ (n : Message). handle_in set c c f n A) e
    handled_as (suc left) x A y e =
        let z : may_try_again set c (number_of_try (suc left)) f again ≡ false = rw (lt-ltb 0 (suc left) (omega arith)) at y in
        ap (λ (n : Message). handle_in set c c f n A) e ∙ rw z refl
