-- Worked rows: doTry.
use Rattle.std.specs.Prelude.{◌≡◌, ℕ, false, List, [], ◌∷◌, codes, Option, Some, None, refl}
use Rattle.eip_exchange.specs.declared.message.Message.{Message}
use Rattle.eip_exchange.specs.declared.end.End.TheVariants.{Completed}
use Rattle.eip_exchange.specs.declared.birth.Care.TheVariants as care
use Rattle.eip_exchange.specs.declared.birth.Work.TheVariants as work
use Rattle.eip_simple_read.specs.declared.tree.Function.TheVariants as function
use Rattle.eip_simple_read.specs.declared.tree.Part.TheVariants.{Plain, Call}
use Rattle.eip_simple.specs.Values.{template_value}
use Rattle.eip_uri.specs.declared.uri.Uri.TheVariants as uri
use Rattle.eip_route.specs.Goals.{goal_of}
use Rattle.eip_route.specs.declared.route.RouteSet.{RouteSet}
use Rattle.eip_route.specs.declared.step.Check.{Check}
use Rattle.eip_route.specs.declared.step.Check.TheVariants as check
use Rattle.eip_route.specs.declared.step.Step.TheVariants as step
use Rattle.eip_frames.specs.Fate.{AsksNext}
use Rattle.eip_frames.specs.declared.request.Request.{Request}
use Rattle.eip_frames.specs.declared.request.Request.TheVariants as request
use Rattle.eip_frames.specs.declared.answer.Answer.{Answer as Reply}
use Rattle.eip_frames.specs.declared.answer.Answer.TheVariants as reply
use Rattle.eip_error_handler.specs.Clauses.{chosen}
use Rattle.eip_meaning.specs.RowForms.{plain, caught_with, failed, text_only, before_body, block, one_route, line, part_of_line, here, part_here}
use Rattle.eip_meaning.specs.Attempts.{tries}
use Rattle.eip_meaning.specs.Meaning.{mean, blocks_mean, level_mean, block_mean}

-- a block that throws `Bad` with `no ${body}`, a catch that logs what it caught, a last block that logs `end`, and a log line behind the step
abbrev pub trying : List ℕ → Option Check → RouteSet
trying name when = one_route (
    block (step.Try 1 ((record { names = name ∷ []; when = when; block = 2 }) ∷ []) (Some 3) ∷ step.To (uri.Log (codes "after")) ∷ [])
    ∷ block (step.Throw (codes "Bad") (before_body (codes "no ")) ∷ [])
    ∷ block (step.Log None (record { parts = Plain (codes "caught ") ∷ Call function.ExceptionMessage ∷ [] }) ∷ [])
    ∷ block (step.Log None (text_only (codes "end")) ∷ [])
    ∷ [])

abbrev pub catching : RouteSet
catching = trying (codes "acme.Bad") None

-- one part, which runs a block on a message
abbrev pub runs : ℕ → Message → Request
runs b m = request.Spawn ((record { work = work.Block b; care = care.Bare; message = m }) ∷ [])

-- the message of a part that failed
abbrev pub thrown_a : Message
thrown_a = caught_with (codes "a") (codes "no a")

abbrev pub well : Message → Reply
well m = reply.Joined ((record { end = Completed; message = m }) ∷ [])

abbrev pub badly : List ℕ → List ℕ → Message → Reply
badly kind text m = reply.Joined ((record { end = failed kind text; message = m }) ∷ [])

abbrev pub thrown : List Reply
thrown = reply.Born 2 1 ∷ badly (codes "Bad") (codes "no a") thrown_a ∷ []

-- ---- it catches

pub row-tries : mean catching (line 0 (codes "a")) [] ≡ AsksNext (runs 1 (plain (codes "a"))) (part_here 0)
unfolding mean tries blocks_mean level_mean block_mean
row-tries = refl

-- the block fails as a part of its own, without a handler
pub row-throws : mean catching (part_of_line (work.Block 1) care.Bare (plain (codes "a"))) [] ≡ AsksNext (request.Finish (failed (codes "Bad") (codes "no a")) thrown_a false) here
unfolding mean tries blocks_mean level_mean block_mean template_value chosen
row-throws = refl

pub row-catches : mean catching (line 0 (codes "a")) (reply.Born 2 1 ∷ badly (codes "Bad") (codes "no a") thrown_a ∷ []) ≡ AsksNext (runs 2 thrown_a) (part_here 1)
unfolding mean tries blocks_mean level_mean block_mean
row-catches = refl

pub row-caught : mean catching (part_of_line (work.Block 2) care.Bare thrown_a) [] ≡ AsksNext (request.Log (codes "route1") (codes "caught no a")) here
unfolding mean tries blocks_mean level_mean block_mean template_value
row-caught = refl

pub row-finally : mean catching (line 0 (codes "a")) (reply.Born 2 1 ∷ badly (codes "Bad") (codes "no a") thrown_a ∷ reply.Born 3 1 ∷ well thrown_a ∷ [])
    ≡ AsksNext (runs 3 thrown_a) (part_here 2)
unfolding mean tries blocks_mean level_mean block_mean
row-finally = refl

pub row-after : mean catching (line 0 (codes "a")) (reply.Born 2 1 ∷ badly (codes "Bad") (codes "no a") thrown_a ∷ reply.Born 3 1 ∷ well thrown_a ∷ reply.Born 4 1 ∷ well thrown_a ∷ [])
    ≡ AsksNext (request.Log (codes "after") (codes "a")) here
unfolding mean tries blocks_mean level_mean block_mean goal_of
row-after = refl

-- ---- it doesn't: the last block runs, and then the fault is the step's

abbrev pub other : RouteSet
other = trying (codes "Other") None

pub row-other : mean other (line 0 (codes "a")) thrown ≡ AsksNext (runs 3 thrown_a) (part_here 2)
unfolding mean tries blocks_mean level_mean block_mean
row-other = refl

pub row-uncaught : mean other (line 0 (codes "a")) (reply.Born 2 1 ∷ badly (codes "Bad") (codes "no a") thrown_a ∷ reply.Born 3 1 ∷ well thrown_a ∷ [])
    ≡ AsksNext (request.Finish (failed (codes "Bad") (codes "no a")) thrown_a false) here
unfolding mean tries blocks_mean level_mean block_mean chosen
row-uncaught = refl

-- a catch for every kind, with a check that is handed in: it is asked about the message of the part that failed
abbrev pub guarded : RouteSet
guarded = trying (codes "Exception") (Some (check.Stored (codes "empty")))

pub row-guarded : mean guarded (line 0 (codes "a")) thrown ≡ AsksNext (request.Test (codes "empty") thrown_a) here
unfolding mean tries blocks_mean level_mean block_mean
row-guarded = refl

pub row-not_taken : mean guarded (line 0 (codes "a")) (reply.Born 2 1 ∷ badly (codes "Bad") (codes "no a") thrown_a ∷ reply.Holds false ∷ [])
    ≡ AsksNext (runs 3 thrown_a) (part_here 2)
unfolding mean tries blocks_mean level_mean block_mean
row-not_taken = refl

-- ---- faults of the catch and of the last block

-- behind a catch that fails the last block runs all the same
pub row-catch_fails : mean catching (line 0 (codes "a")) (reply.Born 2 1 ∷ badly (codes "Bad") (codes "no a") thrown_a ∷ reply.Born 3 1 ∷ badly (codes "Worse") (codes "w") (plain (codes "b")) ∷ [])
    ≡ AsksNext (runs 3 (plain (codes "b"))) (part_here 2)
unfolding mean tries blocks_mean level_mean block_mean
row-catch_fails = refl

-- and its fault is the step's
pub row-worse : mean catching (line 0 (codes "a"))
    (reply.Born 2 1 ∷ badly (codes "Bad") (codes "no a") thrown_a ∷ reply.Born 3 1 ∷ badly (codes "Worse") (codes "w") (plain (codes "b")) ∷ reply.Born 4 1 ∷ well (plain (codes "b")) ∷ [])
    ≡ AsksNext (request.Finish (failed (codes "Worse") (codes "w")) (caught_with (codes "a") (codes "w")) false) here
unfolding mean tries blocks_mean level_mean block_mean chosen
row-worse = refl

-- a last block that fails takes the place of all faults before
pub row-finally_fails : mean catching (line 0 (codes "a"))
    (reply.Born 2 1 ∷ badly (codes "Bad") (codes "no a") thrown_a ∷ reply.Born 3 1 ∷ well thrown_a ∷ reply.Born 4 1 ∷ badly (codes "Last") (codes "l") thrown_a ∷ [])
    ≡ AsksNext (request.Finish (failed (codes "Last") (codes "l")) (caught_with (codes "a") (codes "l")) false) here
unfolding mean tries blocks_mean level_mean block_mean chosen
row-finally_fails = refl
