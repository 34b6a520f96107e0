-- Steps with their attempts, blocks, and the work of a birth ask by the set's names alone, where its steps do.
use Rattle.std.proofs.Common.{◌≡◌, ℕ, zero, suc, ◌-◌, Bool, true, false, eqb, List, [], ◌∷◌}
use Rattle.std.specs.Prelude.{Option, Some, None, Result, Ok, Err, ltb, All}
use Rattle.std.proofs.lemmas.Bool.{and_parts}
use Rattle.std.proofs.lemmas.List.Elements.{All-head, All-tail}
use Rattle.eip_exchange.specs.declared.message.Message.{Message}
use Rattle.eip_exchange.specs.declared.end.Fault.{Fault}
use Rattle.eip_exchange.specs.declared.end.End.TheVariants.{Handled, Failed}
use Rattle.eip_exchange.specs.declared.birth.Work.{Work}
use Rattle.eip_exchange.specs.declared.birth.Work.TheVariants as work
use Rattle.eip_exchange.specs.declared.setting.Clause.{Clause}
use Rattle.eip_uri.specs.Reading.{read}
use Rattle.eip_uri.specs.declared.fault.UriFault.{UriFault}
use Rattle.eip_uri.specs.declared.uri.Uri.{Uri}
use Rattle.eip_route.specs.Valid.{is_step, are_steps}
use Rattle.eip_route.specs.declared.route.Block.{Block}
use Rattle.eip_route.specs.declared.route.RouteSet.{RouteSet}
use Rattle.eip_route.specs.declared.step.Step.{Step}
use Rattle.eip_frames.specs.declared.answer.Answer.{Answer as Reply}
use Rattle.eip_meaning.specs.declared.context.Context.{Context}
use Rattle.eip_meaning.specs.Outcomes.{Goes, Runner}
use Rattle.eip_meaning.specs.Contexts.{called, in_handler, has_handlers}
use Rattle.eip_meaning.specs.Values.{redelivered, caught_message}
use Rattle.eip_meaning.specs.Sends.{to_mean}
use Rattle.eip_meaning.specs.Checks.{block_or_goes}
use Rattle.eip_meaning.specs.Steps.{one_try}
use Rattle.eip_meaning.specs.Attempts.{Handle, clause_for, number_of_try, may_try_again, tries}
use Rattle.eip_meaning.specs.Meaning.{steps_mean, blocks_mean, level_mean, block_mean, block_of_route, call_in, send_mean, ends_failed, behind_clause, dead_letter, decides, by_clause, handle_with, handle_in, send_to, work_mean}
use Rattle.eip_asked_laws.proofs.Outcomes.{Named, goes, stops, followed-named, caught-named, either-named, ask-named}
use Rattle.eip_asked_laws.proofs.Steps.{to-named, one_try-named}

-- the steps of a block may stand in the set
abbrev pub IsBlock : RouteSet → Block → Type 0
IsBlock set b = are_steps set.names b.steps ≡ true

module _ (set : RouteSet) where
  module _ (handle : Handle) (H : (c : Context) (f : Fault) (m : Message) (A : List Reply) → Named set.names (handle c f m A)) where
    tries-named : (try : Runner) → ((m : Message) (A : List Reply) → Named set.names (try m A)) → (c : Context) (left : ℕ) (m : Message) (A : List Reply) → Named set.names (tries set handle try c left m A)
    unfolding tries
    tries-named try T c zero m A = caught-named _ (T (redelivered m (number_of_try zero)) A) (λ f again A'. H c f (redelivered m (number_of_try zero)) A')
    tries-named try T c (suc left) m A =
        caught-named _ (T (redelivered m (number_of_try (suc left))) A)
        (λ f again A'. either-named (may_try_again set c (number_of_try (suc left)) f again)
        (ask-named set _ _ _ tt (λ a A''. tries-named try T c left m A'') A')
        (H c f (redelivered m (number_of_try (suc left))) A'))

    module _ (call : ℕ → Runner) (C : (r : ℕ) (m : Message) (A : List Reply) → Named set.names (call r m A)) where
      steps-named : (nested : ℕ → Runner) → ((b : ℕ) (m : Message) (A : List Reply) → Named set.names (nested b m A)) → (c : Context) (ss : List Step) (m : Message) → are_steps set.names ss ≡ true
          → (A : List Reply) → Named set.names (steps_mean set handle nested call c ss m A)
      steps-named nested N c [] m h A = goes m A
      steps-named nested N c (s ∷ ss) m h A =
          let both = and_parts (is_step set.names s) (are_steps set.names ss) h in
          followed-named (λ m' A'. steps_mean set handle nested call c ss m' A')
          (tries-named (one_try set nested call c s) (λ m' A'. one_try-named set call C nested N c s m' both.0 A') c 1000 m A)
          (λ m' A'. steps-named nested N c ss m' both.1 A')

      blocks-named : (c : Context) (here : ℕ) (bs : List Block) (j : ℕ) (m : Message) → All (IsBlock set) bs → (A : List Reply) → Named set.names (blocks_mean set handle call c here bs j m A)
      unfolding blocks_mean
      blocks-named c here [] j m h A = goes m A
      blocks-named c here (b ∷ bs) j m h A =
          let rest : All (IsBlock set) bs = All-tail (IsBlock set) b bs h in
          either-named (eqb j here)
          (steps-named (λ i m' A'. blocks_mean set handle call c (suc here) bs i m' A') (λ i m' A'. blocks-named c (suc here) bs i m' rest A') c b.steps m (All-head (IsBlock set) b bs h) A)
          (blocks-named c (suc here) bs j m rest A)

    module _ (valid : All (IsBlock set) set.blocks) where
      level-named : (k : ℕ) (c : Context) (b : ℕ) (m : Message) (A : List Reply) → Named set.names (level_mean set handle k c b m A)
      unfolding level_mean
      level-named zero c b m A = blocks-named (λ r m' A'. Goes m' A') (λ r m' A'. goes m' A') c 0 set.blocks b m valid A
      level-named (suc k) c b m A =
          blocks-named (λ r m' A'. level_mean set handle k (called c r) (block_of_route set r) m' A') (λ r m' A'. level-named k (called c r) (block_of_route set r) m' A') c 0 set.blocks b m valid A

      -- a block
      pub block-named : (c : Context) (b : ℕ) (m : Message) (A : List Reply) → Named set.names (block_mean set handle c b m A)
      unfolding block_mean
      block-named c b m A = level-named (32 - c.depth) c b m A

      call-named : (c : Context) (r : ℕ) (m : Message) (A : List Reply) → Named set.names (call_in set handle c r m A)
      call-named c r m A = either-named (ltb c.depth 32) (block-named (called c r) (block_of_route set r) m A) (goes m A)

      -- one send
      pub send-named : (c : Context) (u : Uri) (m : Message) (A : List Reply) → Named set.names (send_mean set handle c u m A)
      send-named c u m A = tries-named (to_mean set (call_in set handle c) c u) (λ m' A'. to-named set (call_in set handle c) (call-named c) c u m' A') c 1000 m A

  -- ---- handling

  failed-named : (c : Context) (f : Fault) (m : Message) (A : List Reply) → Named set.names (ends_failed c f m A)
  failed-named c f m A = stops (Failed f) (caught_message m f) A

  behind_clause-named : (k : Clause) (f : Fault) (m : Message) (A : List Reply) → Named set.names (behind_clause k f m A)
  behind_clause-named k f m A = either-named k.handled (stops Handled m A) (either-named k.continued (goes m A) (stops (Failed f) m A))

  module _ (valid : All (IsBlock set) set.blocks) where
    dead_letter-named : (dead : Option Uri) (c : Context) (f : Fault) (m : Message) (A : List Reply) → Named set.names (dead_letter set dead c f m A)
    dead_letter-named None c f m A = stops (Failed f) m A
    dead_letter-named (Some u) c f m A = followed-named _ (send-named ends_failed failed-named valid c u m A) (λ m' A'. stops Handled m' A')

    or_goes-named : (c : Context) (o : Option ℕ) (m : Message) (A : List Reply) → Named set.names (block_or_goes (block_mean set ends_failed c) o m A)
    or_goes-named c None m A = goes m A
    or_goes-named c (Some b) m A = block-named ends_failed failed-named valid c b m A

    by_clause-named : (o : Option Clause) (c : Context) (f : Fault) (m : Message) (A : List Reply) → Named set.names (by_clause set o c f m A)
    by_clause-named None c f m A = dead_letter-named set.handler.dead c f m A
    by_clause-named (Some k) c f m A =
        either-named (decides k)
        (followed-named (behind_clause k f) (or_goes-named c k.block m A) (λ m' A'. behind_clause-named k f m' A'))
        (dead_letter-named set.handler.dead c f m A)

    handle-named : (handlers : Bool) (c : Context) (f : Fault) (m : Message) (A : List Reply) → Named set.names (handle_with set handlers c f m A)
    handle-named true c f m A = by_clause-named (clause_for set f) (in_handler c) f (caught_message m f) A
    handle-named false c f m A = failed-named c f m A

    send_to-named : (c : Context) (r : Result Uri UriFault) (m : Message) (A : List Reply) → Named set.names (send_to set c r m A)
    send_to-named c (Ok u) m A = send-named (handle_in set c) (handle-named (has_handlers c)) valid c u m A
    send_to-named c (Err f) m A = goes m A

    -- the work of a birth
    pub work-named : (c : Context) (w : Work) (m : Message) (A : List Reply) → Named set.names (work_mean set c w m A)
    work-named c (work.Block b) m A = block-named (handle_in set c) (handle-named (has_handlers c)) valid c b m A
    work-named c (work.To text) m A = send_to-named c (read text []) m A
