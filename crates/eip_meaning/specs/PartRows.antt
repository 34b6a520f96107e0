-- Worked rows: fan-outs and their parts.
use Rattle.std.specs.Prelude.{◌≡◌, ℕ, Bool, true, false, List, [], ◌∷◌, codes, Option, Some, None, refl}
use Rattle.std.specs.Fmt.{digits}
use Rattle.eip_exchange.specs.declared.message.Message.{Message}
use Rattle.eip_exchange.specs.declared.end.End.TheVariants.{Completed, Handled}
use Rattle.eip_exchange.specs.declared.end.Ended.{Ended}
use Rattle.eip_exchange.specs.declared.birth.Care.{Care}
use Rattle.eip_exchange.specs.declared.birth.Care.TheVariants as care
use Rattle.eip_exchange.specs.declared.birth.Work.{Work}
use Rattle.eip_exchange.specs.declared.birth.Work.TheVariants as work
use Rattle.eip_exchange.specs.declared.setting.How.TheVariants as how
use Rattle.eip_exchange.specs.declared.setting.Strategy.{Strategy}
use Rattle.eip_exchange.specs.declared.setting.Strategy.TheVariants as strategy
use Rattle.eip_strategy.specs.Adding.{added}
use Rattle.eip_strategy.specs.Folding.{folded}
use Rattle.eip_splitter.specs.Parts.{marked}
use Rattle.eip_splitter.specs.Splitting.{parts}
use Rattle.eip_uri.specs.Printed.{printed}
use Rattle.eip_text.specs.Names as names
use Rattle.eip_uri.specs.Reading as reading
use Rattle.eip_uri.specs.Reading.{read}
use Rattle.eip_router.specs.Recipients.{recipients, recipient}
use Rattle.eip_uri.specs.declared.uri.Uri.TheVariants as uri
use Rattle.eip_route.specs.Goals.{goal_of}
use Rattle.eip_route.specs.declared.route.RouteSet.{RouteSet}
use Rattle.eip_route.specs.declared.step.Expr.TheVariants as expr
use Rattle.eip_route.specs.declared.step.Fan.{Fan}
use Rattle.eip_route.specs.declared.step.Step.{Step}
use Rattle.eip_route.specs.declared.step.Step.TheVariants as step
use Rattle.eip_frames.specs.Fate.{AsksNext}
use Rattle.eip_frames.specs.declared.request.Seed.{Seed}
use Rattle.eip_frames.specs.declared.request.Request.TheVariants as request
use Rattle.eip_frames.specs.declared.answer.Answer.{Answer as Reply}
use Rattle.eip_frames.specs.declared.answer.Answer.TheVariants as reply
use Rattle.eip_error_handler.specs.Clauses.{chosen}
use Rattle.eip_error_handler.specs.Redelivery.{delay_of}
use Rattle.eip_meaning.specs.RowForms.{plain, caught_with, failed, block, one_route, dead_letters_to, line, part_of_line, here, part_here}
use Rattle.eip_meaning.specs.Attempts.{tries}
use Rattle.eip_meaning.specs.Meaning.{mean, blocks_mean, level_mean, block_mean}

-- a dead letter endpoint behind two redeliveries; a step, whose block sends to a lane; and a log line
abbrev pub set_of : Step → RouteSet
set_of s = record (one_route (block (s ∷ step.To (uri.Log (codes "out")) ∷ []) ∷ block (step.To (uri.Lane (codes "x")) ∷ []) ∷ [])) {
  handler = dead_letters_to (uri.Log (codes "dead")) 2;
}

abbrev pub fan : Option Strategy → (parallel stop share : Bool) → Fan
fan s parallel stop share = record { strategy = s; parallel = parallel; stop = stop; share = share }

abbrev pub seed : Work → Care → Message → Seed
seed w c m = record { work = w; care = c; message = m }

-- part k of n, all given in decimal
abbrev pub part : List ℕ → List ℕ → List ℕ → List ℕ → Message
part body k n last = record {
  body = body;
  headers = [];
  properties = (codes "CamelSplitIndex", k) ∷ (codes "CamelSplitSize", n) ∷ (codes "CamelSplitComplete", last) ∷ [];
}

abbrev pub ended_well : Message → Ended
ended_well m = record { end = Completed; message = m }

abbrev pub ended_badly : List ℕ → List ℕ → Message → Ended
ended_badly kind text m = record { end = failed kind text; message = m }

-- ---- in parallel: `a,b` is split, and the bodies are joined by `+`

abbrev pub joining : RouteSet
joining = set_of (step.Split (how.Token (codes ",")) (fan (Some (strategy.Joined (codes "+"))) true false false) 1)

abbrev pub part_a : Message
part_a = part (codes "a") (codes "0") (codes "2") (codes "false")

abbrev pub part_b : Message
part_b = part (codes "b") (codes "1") (codes "2") (codes "true")

pub row-spawn : mean joining (line 0 (codes "a,b")) []
    ≡ AsksNext (request.Spawn (seed (work.Block 1) care.Full part_a ∷ seed (work.Block 1) care.Full part_b ∷ [])) here
unfolding mean tries blocks_mean level_mean block_mean parts marked digits
row-spawn = refl

pub row-join : mean joining (line 0 (codes "a,b")) (reply.Born 2 2 ∷ []) ≡ AsksNext (request.Join 2 2) here
unfolding mean tries blocks_mean level_mean block_mean parts marked digits
row-join = refl

-- the first part's lane fails once, so it ends behind the second one; its message comes first none the less
abbrev pub joined_late : Reply
joined_late = reply.Joined (
    ended_well (record part_a { headers = (codes "CamelRedelivered", codes "true") ∷ (codes "CamelRedeliveryCounter", codes "1") ∷ [] })
    ∷ ended_well part_b
    ∷ [])

pub row-by_index : mean joining (line 0 (codes "a,b")) (reply.Born 2 2 ∷ joined_late ∷ []) ≡ AsksNext (request.Log (codes "out") (codes "a+b")) here
unfolding mean tries blocks_mean level_mean block_mean parts marked digits folded added goal_of
row-by_index = refl

-- the parent has the headers of the outcome, and its own properties
pub row-content : mean joining (line 0 (codes "a,b")) (reply.Born 2 2 ∷ joined_late ∷ reply.Noted ∷ [])
    ≡ AsksNext (request.Finish Completed (record {
      body = codes "a+b";
      headers = (codes "CamelRedelivered", codes "true") ∷ (codes "CamelRedeliveryCounter", codes "1") ∷ [];
      properties = [];
    }) false) here
unfolding mean tries blocks_mean level_mean block_mean parts marked digits folded added goal_of
row-content = refl

-- the first part itself waits
pub row-part_waits : mean joining (part_of_line (work.Block 1) care.Full part_a) (reply.SendFailed ∷ []) ≡ AsksNext (request.Wait 1000) here
unfolding mean tries blocks_mean level_mean block_mean goal_of chosen delay_of
row-part_waits = refl

-- a body of no pieces asks nothing
pub row-no_parts : mean joining (line 0 []) [] ≡ AsksNext (request.Log (codes "out") []) here
unfolding mean tries blocks_mean level_mean block_mean parts marked digits goal_of
row-no_parts = refl

-- ---- one behind the other: `a,b,c`

abbrev pub in_order : (stop : Bool) → RouteSet
in_order stop = set_of (step.Split (how.Token (codes ",")) (fan None false stop false) 1)

pub row-first : mean (in_order true) (line 0 (codes "a,b,c")) []
    ≡ AsksNext (request.Spawn (seed (work.Block 1) care.Full (part (codes "a") (codes "0") (codes "3") (codes "false")) ∷ [])) (part_here 0)
unfolding mean tries blocks_mean level_mean block_mean parts marked digits
row-first = refl

pub row-second : mean (in_order true) (line 0 (codes "a,b,c")) (reply.Born 2 1 ∷ reply.Joined (ended_well (plain (codes "a")) ∷ []) ∷ [])
    ≡ AsksNext (request.Spawn (seed (work.Block 1) care.Full (part (codes "b") (codes "1") (codes "3") (codes "false")) ∷ [])) (part_here 1)
unfolding mean tries blocks_mean level_mean block_mean parts marked digits
row-second = refl

-- the second part fails
abbrev pub second_fails : List Reply
second_fails =
    reply.Born 2 1
    ∷ reply.Joined (ended_well (plain (codes "a")) ∷ [])
    ∷ reply.Born 3 1
    ∷ reply.Joined (ended_badly (codes "Bad") (codes "no b") (plain (codes "b")) ∷ [])
    ∷ []

-- with `stop` no further part is born, and the fault is the split's, which isn't tried again
pub row-stops : mean (in_order true) (line 0 (codes "a,b,c")) second_fails ≡ AsksNext (request.Log (codes "dead") (codes "a,b,c")) here
unfolding mean tries blocks_mean level_mean block_mean parts marked digits goal_of chosen
row-stops = refl

-- without it the third one is
pub row-goes_on : mean (in_order false) (line 0 (codes "a,b,c")) second_fails
    ≡ AsksNext (request.Spawn (seed (work.Block 1) care.Full (part (codes "c") (codes "2") (codes "3") (codes "true")) ∷ [])) (part_here 2)
unfolding mean tries blocks_mean level_mean block_mean parts marked digits
row-goes_on = refl

-- ---- care

abbrev pub sharing : RouteSet
sharing = set_of (step.Split (how.Token (codes ",")) (fan None false false true) 1)

-- with `shareUnitOfWork` the parent's handlers take a part's fault
pub row-shares : mean sharing (line 0 (codes "a")) []
    ≡ AsksNext (request.Spawn (seed (work.Block 1) care.Shared (part (codes "a") (codes "0") (codes "1") (codes "true")) ∷ [])) here
unfolding mean tries blocks_mean level_mean block_mean parts marked digits
row-shares = refl

pub row-parent_handles : mean sharing (line 0 (codes "a")) (reply.Born 2 1 ∷ reply.Joined (ended_badly (codes "SendFailed") (codes "lane:x") (plain (codes "a")) ∷ []) ∷ [])
    ≡ AsksNext (request.Log (codes "dead") (codes "a")) here
unfolding mean tries blocks_mean level_mean block_mean parts marked digits goal_of chosen
row-parent_handles = refl

-- parts of a bare exchange are bare
pub row-bare : mean sharing (part_of_line (work.Block 0) care.Bare (plain (codes "a"))) []
    ≡ AsksNext (request.Spawn (seed (work.Block 1) care.Bare (part (codes "a") (codes "0") (codes "1") (codes "true")) ∷ [])) here
unfolding mean tries blocks_mean level_mean block_mean parts marked digits
row-bare = refl

-- ---- branches and recipients

-- each branch has the message as it stood, and the last one's stays
pub row-multicast : mean (set_of (step.Multicast (fan None true false false) (1 ∷ []))) (line 0 (codes "a")) []
    ≡ AsksNext (request.Spawn (seed (work.Block 1) care.Full (plain (codes "a")) ∷ [])) here
unfolding mean tries blocks_mean level_mean block_mean
row-multicast = refl

pub row-last_stays : mean (set_of (step.Multicast (fan None true false false) (1 ∷ 1 ∷ []))) (line 0 (codes "a"))
    (reply.Born 2 2 ∷ reply.Joined (ended_well (plain (codes "b")) ∷ ended_well (plain (codes "c")) ∷ []) ∷ [])
    ≡ AsksNext (request.Log (codes "out") (codes "c")) here
unfolding mean tries blocks_mean level_mean block_mean folded added goal_of
row-last_stays = refl

abbrev pub listing : List ℕ → RouteSet
listing list = set_of (step.Recipients (expr.Constant list) (codes ",") (fan None true false false))

-- the third item is the second that isn't empty: it is no endpoint, and no branch is born
pub row-bad_recipient : mean (listing (codes "log:a, ,LOG:b")) (line 0 (codes "x")) [] ≡ AsksNext (request.Log (codes "dead") (codes "x")) here
unfolding mean tries blocks_mean level_mean block_mean recipients recipient read reading.scheme_of reading.plain reading.with_options names.is_name goal_of chosen digits
row-bad_recipient = refl

-- behind the dead letter its text is the item's index
pub row-bad_index : mean (listing (codes "log:a, ,LOG:b")) (line 0 (codes "x")) (reply.Noted ∷ [])
    ≡ AsksNext (request.Finish Handled (caught_with (codes "x") (codes "1")) false) here
unfolding mean tries blocks_mean level_mean block_mean recipients recipient read reading.scheme_of reading.plain reading.with_options names.is_name goal_of chosen digits
row-bad_index = refl

pub row-recipients : mean (listing (codes "log:a, ,log:b")) (line 0 (codes "x")) []
    ≡ AsksNext (request.Spawn (seed (work.To (codes "log:a")) care.Full (plain (codes "x")) ∷ seed (work.To (codes "log:b")) care.Full (plain (codes "x")) ∷ [])) here
unfolding mean tries blocks_mean level_mean block_mean recipients recipient read reading.scheme_of reading.plain reading.with_options names.is_name printed
row-recipients = refl

-- such a branch is one send
pub row-recipient : mean (listing []) (part_of_line (work.To (codes "log:a")) care.Full (plain (codes "x"))) [] ≡ AsksNext (request.Log (codes "a") (codes "x")) here
unfolding mean tries blocks_mean level_mean block_mean read reading.scheme_of reading.plain reading.with_options names.is_name goal_of
row-recipient = refl
