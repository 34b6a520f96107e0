-- Steps with their attempts, blocks, and the work of a birth behave so, and none of them faults.
use Rattle.std.proofs.Common.{ℕ, zero, suc, ◌-◌, Bool, true, false, eqb, List, [], ◌∷◌, refl}
use Rattle.std.specs.Prelude.{Option, Some, None, Result, Ok, Err, ltb}
use Rattle.eip_exchange.specs.declared.message.Message.{Message}
use Rattle.eip_exchange.specs.declared.end.Fault.{Fault}
use Rattle.eip_exchange.specs.declared.end.End.TheVariants.{Handled, Failed}
use Rattle.eip_exchange.specs.declared.birth.Work.{Work}
use Rattle.eip_exchange.specs.declared.birth.Work.TheVariants as work
use Rattle.eip_exchange.specs.declared.setting.Clause.{Clause}
use Rattle.eip_uri.specs.Reading.{read}
use Rattle.eip_uri.specs.declared.fault.UriFault.{UriFault}
use Rattle.eip_uri.specs.declared.uri.Uri.{Uri}
use Rattle.eip_route.specs.declared.route.Block.{Block}
use Rattle.eip_route.specs.declared.route.RouteSet.{RouteSet}
use Rattle.eip_route.specs.declared.step.Step.{Step}
use Rattle.eip_meaning.specs.declared.context.Context.{Context}
use Rattle.eip_meaning.specs.Outcomes.{Goes as OGoes, Runner}
use Rattle.eip_meaning.specs.Contexts.{called, in_handler, has_handlers}
use Rattle.eip_meaning.specs.Values.{redelivered, caught_message}
use Rattle.eip_meaning.specs.Sends.{to_mean}
use Rattle.eip_meaning.specs.Checks.{block_or_goes}
use Rattle.eip_meaning.specs.Steps.{one_try}
use Rattle.eip_meaning.specs.Attempts.{Handle, clause_for, number_of_try, may_try_again, tries}
use Rattle.eip_meaning.specs.Meaning.{steps_mean, blocks_mean, level_mean, block_mean, block_of_route, call_in, send_mean, ends_failed, behind_clause, dead_letter, decides, by_clause, handle_with, handle_in, send_to, work_mean}
use Rattle.eip_meaning.proofs.Scripts.{Script, goes, stops, caught-script, followed-script, wait-script, either-script}
use Rattle.eip_meaning.proofs.StepScripts.{to-script, one_try-script}

module _ (set : RouteSet) where
  module _ (handle : Handle) (H : (c : Context) (f : Fault) (m : Message) → Script set false (handle c f m)) where
    tries-script : (try : Runner) → ((m : Message) → Script set true (try m)) → (c : Context) (left : ℕ) (m : Message) → Script set false (λ A. tries set handle try c left m A)
    unfolding tries
    tries-script try T c zero m = caught-script _ (T (redelivered m (number_of_try zero))) (λ f again. H c f (redelivered m (number_of_try zero)))
    tries-script try T c (suc left) m =
        caught-script _ (T (redelivered m (number_of_try (suc left))))
        (λ f again. either-script (may_try_again set c (number_of_try (suc left)) f again)
        (wait-script set _ _ _ (λ a. tries-script try T c left m))
        (H c f (redelivered m (number_of_try (suc left)))))

    module _ (call : ℕ → Runner) (C : (r : ℕ) (m : Message) → Script set false (call r m)) where
      steps-script : (nested : ℕ → Runner) → ((b : ℕ) (m : Message) → Script set false (nested b m)) → (c : Context) (ss : List Step) (m : Message) → Script set false (steps_mean set handle nested call c ss m)
      steps-script nested N c [] m = goes m (λ A. refl)
      steps-script nested N c (s ∷ ss) m =
          followed-script (λ m' A'. steps_mean set handle nested call c ss m' A')
          (tries-script (one_try set nested call c s) (λ m'. one_try-script set call C nested N c s m') c 1000 m)
          (λ m'. steps-script nested N c ss m')

      blocks-script : (c : Context) (here : ℕ) (bs : List Block) (j : ℕ) (m : Message) → Script set false (λ A. blocks_mean set handle call c here bs j m A)
      unfolding blocks_mean
      blocks-script c here [] j m = goes m (λ A. refl)
      blocks-script c here (b ∷ bs) j m =
          either-script (eqb j here)
          (steps-script (λ i m' A'. blocks_mean set handle call c (suc here) bs i m' A') (λ i m'. blocks-script c (suc here) bs i m') c b.steps m)
          (blocks-script c (suc here) bs j m)

    level-script : (k : ℕ) (c : Context) (b : ℕ) (m : Message) → Script set false (λ A. level_mean set handle k c b m A)
    unfolding level_mean
    level-script zero c b m = blocks-script (λ r m' A'. OGoes m' A') (λ r m'. goes m' (λ A. refl)) c 0 set.blocks b m
    level-script (suc k) c b m =
        blocks-script (λ r m' A'. level_mean set handle k (called c r) (block_of_route set r) m' A') (λ r m'. level-script k (called c r) (block_of_route set r) m') c 0 set.blocks b m

    -- a block
    pub block-script : (c : Context) (b : ℕ) (m : Message) → Script set false (λ A. block_mean set handle c b m A)
    unfolding block_mean
    block-script c b m = level-script (32 - c.depth) c b m

    call-script : (c : Context) (r : ℕ) (m : Message) → Script set false (call_in set handle c r m)
    call-script c r m = either-script (ltb c.depth 32) (block-script (called c r) (block_of_route set r) m) (goes m (λ A. refl))

    -- one send
    pub send-script : (c : Context) (u : Uri) (m : Message) → Script set false (send_mean set handle c u m)
    send-script c u m = tries-script (to_mean set (call_in set handle c) c u) (λ m'. to-script set (call_in set handle c) (call-script c) c u m') c 1000 m

  -- ---- handling

  failed-script : (c : Context) (f : Fault) (m : Message) → Script set false (ends_failed c f m)
  failed-script c f m = stops (Failed f) (caught_message m f) (λ A. refl)

  behind_clause-script : (k : Clause) (f : Fault) (m : Message) → Script set false (behind_clause k f m)
  behind_clause-script k f m = either-script k.handled (stops Handled m (λ A. refl)) (either-script k.continued (goes m (λ A. refl)) (stops (Failed f) m (λ A. refl)))

  dead_letter-script : (dead : Option Uri) (c : Context) (f : Fault) (m : Message) → Script set false (dead_letter set dead c f m)
  dead_letter-script None c f m = stops (Failed f) m (λ A. refl)
  dead_letter-script (Some u) c f m = followed-script _ (send-script ends_failed failed-script c u m) (λ m'. stops Handled m' (λ A. refl))

  or_goes-script : (c : Context) (o : Option ℕ) (m : Message) → Script set false (block_or_goes (block_mean set ends_failed c) o m)
  or_goes-script c None m = goes m (λ A. refl)
  or_goes-script c (Some b) m = block-script ends_failed failed-script c b m

  by_clause-script : (o : Option Clause) (c : Context) (f : Fault) (m : Message) → Script set false (by_clause set o c f m)
  by_clause-script None c f m = dead_letter-script set.handler.dead c f m
  by_clause-script (Some k) c f m =
      either-script (decides k)
      (followed-script (behind_clause k f) (or_goes-script c k.block m) (λ m'. behind_clause-script k f m'))
      (dead_letter-script set.handler.dead c f m)

  handle-script : (handlers : Bool) (c : Context) (f : Fault) (m : Message) → Script set false (handle_with set handlers c f m)
  handle-script true c f m = by_clause-script (clause_for set f) (in_handler c) f (caught_message m f)
  handle-script false c f m = failed-script c f m

  send_to-script : (c : Context) (r : Result Uri UriFault) (m : Message) → Script set false (send_to set c r m)
  send_to-script c (Ok u) m = send-script (handle_in set c) (handle-script (has_handlers c)) c u m
  send_to-script c (Err f) m = goes m (λ A. refl)

  -- the work of a birth
  pub work-script : (c : Context) (w : Work) (m : Message) → Script set false (work_mean set c w m)
  work-script c (work.Block b) m = block-script (handle_in set c) (handle-script (has_handlers c)) c b m
  work-script c (work.To text) m = send_to-script c (read text []) m
