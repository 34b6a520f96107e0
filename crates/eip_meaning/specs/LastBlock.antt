-- How often a doTry asks that its last block runs.
use Rattle.std.specs.Prelude.{ℕ, ◌≡◌, ◌==◌, ◌+◌, ◌&&◌, Bool, true, false, List, [], ◌∷◌, Some}
use Rattle.eip_exchange.specs.declared.birth.Work.{Work}
use Rattle.eip_exchange.specs.declared.birth.Work.TheVariants as work
use Rattle.eip_exchange.specs.declared.message.Message.{Message}
use Rattle.eip_route.specs.declared.route.RouteSet.{RouteSet}
use Rattle.eip_route.specs.declared.step.Catch.{Catch}
use Rattle.eip_frames.specs.declared.request.Seed.{Seed}
use Rattle.eip_frames.specs.declared.request.Request.TheVariants as request
use Rattle.eip_frames.specs.declared.answer.Answer.{Answer as Reply}
use Rattle.eip_meaning.specs.declared.context.Context.{Context}
use Rattle.eip_meaning.specs.Outcomes.{Outcome, Asks, Goes, Faults}
use Rattle.eip_meaning.specs.Tries.{try_mean}

abbrev pub is_block : ℕ → Work → Bool
is_block b (work.Block j) = j == b
is_block b (work.To text) = false

-- one part, which runs this block
abbrev pub is_run_of : ℕ → List Seed → Bool
is_run_of b (d ∷ []) = is_block b d.work
is_run_of b _ = false

-- it asks that this block runs as a part at index 2, as a last block does
abbrev pub asks_last : ℕ → Outcome → Bool
asks_last b (Asks (request.Spawn seeds) p) = (p.index == 2) && is_run_of b seeds
asks_last b _ = false

abbrev pub counted : Bool → ℕ → ℕ
counted true n = n + 1
counted false n = n

-- how often it asks so: before the first of these answers, and behind each of them
abbrev pub times_asked : ℕ → (List Reply → Outcome) → List Reply → ℕ
times_asked b R [] = counted (asks_last b (R [])) 0
times_asked b R (a ∷ A) = counted (asks_last b (R [])) (times_asked b (λ A'. R (a ∷ A')) A)

-- it goes on, or it faults
abbrev pub is_through : Outcome → Bool
is_through (Goes m A) = true
is_through (Faults f again A) = true
is_through _ = false

-- whatever the answers are, a doTry with a last block that goes on or faults has asked for it exactly once
abbrev pub LastRunsOnce : Type 0
LastRunsOnce = (set : RouteSet) (c : Context) (block last : ℕ) (catches : List Catch) (m : Message) (given : List Reply)
    → is_through (try_mean set c block catches (Some last) m given) ≡ true
    → times_asked last (λ A. try_mean set c block catches (Some last) m A) given ≡ 1
