-- doTry: a block, the catch that takes its fault, and the block that runs in any case, each as a part of its own.
use Rattle.std.specs.Prelude.{ℕ, Bool, true, cond, ◌||◌, List, [], ◌∷◌, codes, bytes_eq, Option, Some, None}
use Rattle.std.specs.List.{list_any}
use Rattle.eip_exchange.specs.declared.message.Message.{Message}
use Rattle.eip_exchange.specs.declared.end.Fault.{Fault}
use Rattle.eip_exchange.specs.declared.end.Ended.{Ended}
use Rattle.eip_exchange.specs.declared.birth.Care.TheVariants as care
use Rattle.eip_error_handler.specs.Clauses.{last_segment}
use Rattle.eip_route.specs.declared.step.Check.{Check}
use Rattle.eip_route.specs.declared.step.Catch.{Catch}
use Rattle.eip_route.specs.declared.route.RouteSet.{RouteSet}
use Rattle.eip_frames.specs.declared.answer.Answer.{Answer as Reply}
use Rattle.eip_meaning.specs.declared.context.Context.{Context}
use Rattle.eip_meaning.specs.Values.{with_content}
use Rattle.eip_meaning.specs.Checks.{tested}
use Rattle.eip_meaning.specs.Parts.{block_seed, spawned, fault_of_end, or_fault}
use Rattle.eip_meaning.specs.Outcomes.{Outcome, Goes, Runner, unless_fault}

-- what follows a block of the step: the fault that is pending, and the latest message
abbrev pub Behind : Type 0
Behind = Option Fault → Message → List Reply → Outcome

-- what follows the end of the one part; without one the step's message goes on
abbrev pub behind_part : Message → List Ended → (Ended → List Reply → Outcome) → List Reply → Outcome
behind_part m [] k A = Goes m A
behind_part m (e ∷ es) k A = k e A

-- a block runs on a message as a bare part, which has this index; m is the step's own message
abbrev pub runs_part : RouteSet → Context → Message → (index block : ℕ) → (Ended → List Reply → Outcome) → Runner
runs_part set c m k b next x A = spawned set c k (block_seed care.Bare b x ∷ []) (λ ends A'. behind_part m ends next A') A

-- a pending fault is the step's; else the message goes on with the latest body and headers
abbrev pub try_ends : Message → Behind
try_ends m pending latest A = unless_fault pending (λ A'. Goes (with_content m latest) A') A

-- the last block runs on the latest message, whatever came before; its fault takes the place of a pending one
abbrev pub finally_mean : RouteSet → Context → Option ℕ → Message → Behind
finally_mean set c None m pending latest A = try_ends m pending latest A
finally_mean set c (Some b) m pending latest A =
    runs_part set c m 2 b (λ e A'. try_ends m (or_fault (fault_of_end e.end) pending) e.message A') latest A

-- a name's last segment is this kind, or stands for every kind
abbrev pub names_kind : List ℕ → List ℕ → Bool
names_kind kind name = bytes_eq (last_segment name) kind || bytes_eq (last_segment name) (codes "Exception")

abbrev pub tested_when : RouteSet → Context → Option Check → Message → (Bool → List Reply → Outcome) → List Reply → Outcome
tested_when set c None m k A = k true A
tested_when set c (Some check) m k A = tested set c check m k A

-- the block of a catch
abbrev pub catch_mean : RouteSet → Context → Message → ℕ → Behind → Runner
catch_mean set c m b behind x A = runs_part set c m 1 b (λ e A'. behind (fault_of_end e.end) e.message A') x A

-- the first catch that names the fault's kind, and whose check holds of the failed part's message, runs on that message; without one the fault is pending
abbrev pub catches_mean : RouteSet → Context → Message → List Catch → Behind → Fault → Runner
catches_mean set c m [] behind f x A = behind (Some f) x A
catches_mean set c m (k ∷ ks) behind f x A =
    cond (list_any (names_kind f.kind) k.names)
    (tested_when set c k.when x (λ holds A'. cond holds (catch_mean set c m k.block behind x A') (catches_mean set c m ks behind f x A')) A)
    (catches_mean set c m ks behind f x A)

abbrev pub behind_block : RouteSet → Context → Message → List Catch → Behind → Option Fault → Runner
behind_block set c m catches behind None x A = behind None x A
behind_block set c m catches behind (Some f) x A = catches_mean set c m catches behind f x A

-- the whole step
abbrev pub try_mean : RouteSet → Context → ℕ → List Catch → Option ℕ → Runner
try_mean set c b catches finish m A =
    runs_part set c m 0 b (λ e A'. behind_block set c m catches (finally_mean set c finish m) (fault_of_end e.end) e.message A') m A
