-- Checks, and the steps that choose by them what runs.
use Rattle.std.specs.Prelude.{ℕ, Bool, false, cond, List, [], ◌∷◌, Option, Some, None}
use Rattle.eip_exchange.specs.declared.message.Message.{Message}
use Rattle.eip_simple.specs.Holding.{predicate_holds}
use Rattle.eip_route.specs.declared.step.Check.{Check}
use Rattle.eip_route.specs.declared.step.Check.TheVariants as check
use Rattle.eip_route.specs.declared.route.RouteSet.{RouteSet}
use Rattle.eip_frames.specs.declared.request.Request.TheVariants as request
use Rattle.eip_frames.specs.declared.answer.Answer.{Answer as Reply}
use Rattle.eip_frames.specs.declared.answer.Answer.TheVariants as reply
use Rattle.eip_meaning.specs.declared.context.Context.{Context}
use Rattle.eip_meaning.specs.Contexts.{place_in}
use Rattle.eip_meaning.specs.Outcomes.{Outcome, Goes, Runner, ask}
use Rattle.eip_meaning.specs.Values.{seen_in}

abbrev pub held : Reply → Bool
held (reply.Holds holds) = holds
held _ = false

-- a check on a message, and what follows; one that is handed in is asked for
abbrev pub tested : RouteSet → Context → Check → Message → (Bool → List Reply → Outcome) → List Reply → Outcome
tested set c (check.Simple p) m k A = k (predicate_holds p (seen_in set c m)) A
tested set c (check.Fixed holds) m k A = k holds A
tested set c (check.Stored name) m k A = ask set (request.Test name m) (place_in c 0) (λ a A'. k (held a) A') A

-- a block, where there is one
abbrev pub block_or_goes : (ℕ → Runner) → Option ℕ → Runner
block_or_goes nested None m A = Goes m A
block_or_goes nested (Some b) m A = nested b m A

-- the block of the first case that holds, else the last one; what comes behind the first isn't tested
abbrev pub choice_mean : RouteSet → (nested : ℕ → Runner) → Context → List (Check × ℕ) → Option ℕ → Runner
choice_mean set nested c [] otherwise m A = block_or_goes nested otherwise m A
choice_mean set nested c (k ∷ ks) otherwise m A =
    tested set c k.0 m (λ holds A'. cond holds (nested k.1 m A') (choice_mean set nested c ks otherwise m A')) A

-- the block, where the check holds
abbrev pub filter_mean : RouteSet → (nested : ℕ → Runner) → Context → Check → ℕ → Runner
filter_mean set nested c k b m A = tested set c k m (λ holds A'. cond holds (nested b m A') (Goes m A')) A
