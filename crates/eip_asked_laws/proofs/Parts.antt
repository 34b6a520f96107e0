-- Fan-outs ask for nothing by name.
use Rattle.std.proofs.Common.{ℕ, Bool, false, List, [], ◌∷◌, ◌++◌}
use Rattle.std.specs.Prelude.{Option, Some, None, Result, Ok, Err, ◌&&◌, is_some, nat_le, length}
use Rattle.eip_exchange.specs.declared.message.Message.{Message}
use Rattle.eip_exchange.specs.declared.end.Ended.{Ended}
use Rattle.eip_exchange.specs.declared.setting.How.{How}
use Rattle.eip_exchange.specs.declared.setting.Strategy.{Strategy}
use Rattle.eip_strategy.specs.declared.fault.StrategyFault.{StrategyFault}
use Rattle.eip_splitter.specs.declared.fault.SplitFault.{SplitFault}
use Rattle.eip_router.specs.declared.fault.RecipientFault.{RecipientFault}
use Rattle.eip_uri.specs.declared.uri.Uri.{Uri}
use Rattle.eip_route.specs.Faults.{next_number}
use Rattle.eip_route.specs.declared.route.Names.{Names}
use Rattle.eip_route.specs.declared.route.RouteSet.{RouteSet}
use Rattle.eip_route.specs.declared.step.Expr.{Expr}
use Rattle.eip_route.specs.declared.step.Fan.{Fan}
use Rattle.eip_frames.specs.declared.request.Seed.{Seed}
use Rattle.eip_frames.specs.declared.answer.Answer.{Answer as Reply}
use Rattle.eip_meaning.specs.declared.context.Context.{Context}
use Rattle.eip_meaning.specs.Outcomes.{Outcome}
use Rattle.eip_meaning.specs.Values.{value_of, short}
use Rattle.eip_meaning.specs.Parts.{first_fault, messages_of, made_one, taken_over, join_mean}
use Rattle.eip_meaning.specs.FanOuts.{at_once, in_turn, fan_mean, with_parts, cut, split_mean, multicast_mean, with_recipients, listed, recipients_mean}
use Rattle.eip_asked_laws.proofs.Outcomes.{Named, goes, faults, either-named, unless-named, short-named, spawned-named}

module _ (set : RouteSet) {names : Names} where
  taken-named : (r : Result (Option Message) StrategyFault) (m : Message) (A : List Reply) → Named names (taken_over r m A)
  taken-named (Ok None) m A = goes m A
  taken-named (Ok (Some new)) m A = goes _ A
  taken-named (Err f) m A = faults _ false A

  join-named : (s : Strategy) (es : List Ended) (m : Message) (A : List Reply) → Named names (join_mean s es m A)
  join-named s es m A = unless-named (first_fault es) _ (λ A'. taken-named (made_one s m (messages_of es)) m A') A

  at_once-named : (c : Context) (s : Strategy) (xs : List Seed) (m : Message) (A : List Reply) → Named names (at_once set c s xs m A)
  at_once-named c s xs m A = spawned-named set c 0 xs _ (λ ends A'. join-named s ends m A') A

  in_turn-named : (c : Context) (s : Strategy) (stop : Bool) (ended : List Ended) (k : ℕ) (xs : List Seed) (m : Message) (A : List Reply) → Named names (in_turn set c s stop ended k xs m A)
  in_turn-named c s stop ended k [] m A = join-named s ended m A
  in_turn-named c s stop ended k (x ∷ xs) m A =
      spawned-named set c k (x ∷ []) _
      (λ ends A'. either-named (stop && is_some (first_fault ends)) (join-named s (ended ++ ends) m A') (in_turn-named c s stop (ended ++ ends) (next_number k) xs m A'))
      A

  fan-named : (c : Context) (fan : Fan) (s : Strategy) (xs : List Seed) (m : Message) (A : List Reply) → Named names (fan_mean set c fan s xs m A)
  fan-named c fan s [] m A = goes m A
  fan-named c fan s (x ∷ xs) m A = either-named fan.parallel (at_once-named c s (x ∷ xs) m A) (in_turn-named c s fan.stop [] 0 (x ∷ xs) m A)

  -- ---- their seeds

  parts-named : (r : Result (List Message) SplitFault) (K : List Message → List Reply → Outcome) → ((ms : List Message) (A : List Reply) → Named names (K ms A)) → (A : List Reply) → Named names (with_parts r K A)
  parts-named (Ok ms) K g A = g ms A
  parts-named (Err f) K g A = faults _ false A

  recipients-named : (r : Result (List Uri) RecipientFault) (K : List Uri → List Reply → Outcome) → ((us : List Uri) (A : List Reply) → Named names (K us A)) → (A : List Reply) → Named names (with_recipients r K A)
  recipients-named (Ok us) K g A = g us A
  recipients-named (Err f) K g A = faults _ false A

  pub split-named : (c : Context) (how : How) (fan : Fan) (b : ℕ) (m : Message) (A : List Reply) → Named names (split_mean set c how fan b m A)
  split-named c how fan b m A = parts-named (cut how m) _ (λ ms A'. fan-named c fan _ _ m A') A

  pub multicast-named : (c : Context) (fan : Fan) (bs : List ℕ) (m : Message) (A : List Reply) → Named names (multicast_mean set c fan bs m A)
  multicast-named c fan bs m A = either-named (nat_le (length bs) 10000) (fan-named c fan _ _ m A) (faults _ false A)

  pub recipient_list-named : (c : Context) (list : Expr) (delimiter : List ℕ) (fan : Fan) (m : Message) (A : List Reply) → Named names (recipients_mean set c list delimiter fan m A)
  recipient_list-named c list delimiter fan m A =
      short-named (short (value_of set c list m)) _
      (λ value A'. recipients-named (listed delimiter value) _ (λ us A''. fan-named c fan _ _ m A'') A')
      A
