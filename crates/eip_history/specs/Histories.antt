-- More small histories, computed: two sources with one key, a starved exchange, a log, and the texts of each.
use Rattle.std.specs.Prelude.{◌≡◌, ℕ, zero, suc, ◌++◌, Bool, true, false, nat_lt, List, [], ◌∷◌, map, reverse, codes, length, Some, None, refl}
use Rattle.std.specs.Fmt.{digits}
use Rattle.eip_text.specs.Escapes.{escaped, quoted}
use Rattle.eip_exchange.specs.declared.birth.Birth.{Birth}
use Rattle.eip_exchange.specs.Ends.{fault, out_of_memory}
use Rattle.eip_exchange.specs.declared.birth.Origin.TheVariants as from
use Rattle.eip_exchange.specs.declared.end.End.TheVariants as end
use Rattle.eip_frames.specs.declared.request.Request.{Request}
use Rattle.eip_frames.specs.declared.request.Request.TheVariants as request
use Rattle.eip_frames.specs.declared.request.Target.TheVariants as target
use Rattle.eip_frames.specs.declared.answer.Answer.TheVariants as reply
use Rattle.eip_ledger.specs.declared.entry.Entry.{Entry}
use Rattle.eip_ledger.specs.declared.entry.Kind.{Kind}
use Rattle.eip_ledger.specs.declared.entry.Kind.TheVariants as kind
use Rattle.eip_ledger.specs.declared.place.Place.{Place}
use Rattle.eip_ledger.specs.declared.place.Place.TheVariants as place_is
use Rattle.eip_ledger.specs.declared.entry.Refused.TheVariants as refused
use Rattle.eip_ledger.specs.declared.place.Stop.TheVariants as stop_is
use Rattle.eip_history.specs.Plan.{Plan, Gives}
use Rattle.eip_history.specs.Own.{Past, own, source_state, clock, turns}
use Rattle.eip_history.specs.Births.{story, fate, births}
use Rattle.eip_history.specs.Place.{place_of, ended, numbers_at, count_at, busy, pulls_out, takes_out}
use Rattle.eip_history.specs.Rules.{served, holders, holder_of, unfinished, startable, dues}
use Rattle.eip_history.specs.Stop.{first_fault, is_over, stop_of}
use Rattle.eip_history.specs.Counts.{accepted_count, refused_count}
use Rattle.eip_history.specs.BookText.{RouteNames, exchange_line, stop_line, log_text_of, exchanges_text, refusals_text, groups_text, summary_text_of, book_text_of}
use Rattle.eip_history.specs.Owner.{owner, Outlets}
use Rattle.eip_history.specs.Example.{plain, asks_at, small, early, middle, late, past_of}

-- ---- two sources whose exchanges offer one key and then send

-- each exchange offers one key and then sends
abbrev pub key_then_send : List Request
key_then_send = request.Idem (codes "r") (codes "k") true true ∷ request.Send (target.Lane (codes "x")) (plain (codes "sent")) ∷ []

-- two sources of one script
abbrev pub pair : Plan
pair = record {
  mean = λ b given. asks_at key_then_send (length given) b.message;
  routes = 2;
  is_source = λ t. nat_lt t 2;
  is_queue = λ q. false;
  block_of = λ r. r;
  queue = λ q. record { size = 1; consumers = 1 };
  group = λ a. record { size = Some 1; timeout = None; force = false; closes = λ n r m. false; add = λ old m. Gives m; route = 0 };
}

-- an entry of worker w
abbrev pub entry : ℕ → Kind → Entry
entry w k = record { worker = w; kind = k }

-- two items, one from each source, by two workers
abbrev pub taken_in : List Entry
taken_in =
    entry 1 (kind.Pull 0)
    ∷ entry 2 (kind.Pull 1)
    ∷ entry 2 (kind.Accept 1 (codes "b1") (plain (codes "b")))
    ∷ entry 1 (kind.Accept 0 (codes "a1") (plain (codes "a")))
    ∷ []

-- the second to offer the key finds it held; the first worker sends for both
abbrev pub sent : List Entry
sent =
    entry 2 (kind.Answer 1 reply.Fresh)
    ∷ entry 1 (kind.Answer 2 (reply.Duplicate 1))
    ∷ entry 1 (kind.Take 1)
    ∷ entry 1 (kind.Answer 1 reply.Done)
    ∷ entry 1 (kind.Take 2)
    ∷ entry 1 (kind.Answer 2 reply.SendFailed)
    ∷ entry 2 (kind.Answer 1 reply.Finished)
    ∷ entry 2 (kind.Answer 2 reply.Finished)
    ∷ []

-- the first source ends, the second refuses an item and then fails
abbrev pub read_out : List Entry
read_out =
    entry 1 (kind.Pull 0)
    ∷ entry 1 (kind.SourceEnd 0)
    ∷ entry 2 (kind.Pull 1)
    ∷ entry 2 (kind.Refuse 1 (codes "b2") refused.TooLong)
    ∷ entry 2 (kind.Pull 1)
    ∷ entry 2 (kind.SourceFault 1)
    ∷ []

-- the whole of it, as a past
abbrev pub pair_past : Past
pair_past = reverse (taken_in ++ (sent ++ read_out))

-- the sources' ids are a and b
abbrev pub pair_names : RouteNames
pair_names = record { route_id = two_ids; queue_name = λ q. [] }
  where
    two_ids : ℕ → List ℕ
    two_ids zero = codes "a"
    two_ids (suc n) = codes "b"

-- the inlet of each source is its own; all is sent on the first lane
abbrev pub pair_outlets : Outlets
pair_outlets = record { inlet = λ t. t; lane = λ t. 0 }

-- where all exchanges stand
abbrev pub places_in : Plan → Past → List Place
places_in s past = map (λ (b : Birth). place_of s past b) (births s past)

-- where both exchanges stand while the first is in hand
pub in_hand_of_one : places_in pair (entry 1 (kind.Take 1) ∷ entry 1 (kind.Answer 2 (reply.Duplicate 1)) ∷ entry 2 (kind.Answer 1 reply.Fresh) ∷ reverse taken_in)
    ≡ place_is.InHand 1 ∷ place_is.Ready ∷ []
unfolding own story fate ended place_of clock
in_hand_of_one = refl

pub first_holds : holder_of pair pair_past (codes "r") (codes "k") ≡ Some 1
unfolding own story fate ended place_of clock served holder_of
first_holds = refl

pub turns_spent : turns pair_past ≡ 9
unfolding turns
turns_spent = refl

pub faulted : stop_of pair 100 pair_past ≡ Some (stop_is.SourceFault 1)
unfolding own story fate ended place_of clock dues unfinished startable source_state numbers_at busy count_at stop_of is_over turns pulls_out takes_out first_fault
faulted = refl

pub pair_book : book_text_of pair pair_names pair_past (stop_is.SourceFault 1)
    ≡ codes "exchange 1 source b completed\nexchange 2 source a completed\nrefused b \"b2\" TooLong\n"
    ++ codes "accepted 2 refused 1\ntotal 2 completed 2 handled 0 failed 0 waiting 0\nsource fault b\n"
unfolding own story fate ended place_of clock turns count_at accepted_count refused_count exchanges_text refusals_text groups_text summary_text_of book_text_of escaped quoted digits
pair_book = refl

-- the first lane and inlet belong to worker 1, the second to worker 2, the third to worker 1 again
pub owners : owner 2 0 ∷ owner 2 1 ∷ owner 2 2 ∷ [] ≡ 1 ∷ 2 ∷ 1 ∷ []
owners = refl

-- ---- an exchange that finds no memory

-- the only exchange takes the key and is starved
abbrev pub starving : List Kind
starving = kind.Pull 0 ∷ kind.Accept 0 (codes "a1") (plain (codes "a")) ∷ kind.Answer 1 reply.Fresh ∷ kind.Starve 1 ∷ []

pub starves : places_in pair (past_of starving) ≡ place_is.Ended out_of_memory ∷ []
unfolding own story fate ended place_of clock
starves = refl

-- the key that it held is given up
pub gives_up : holder_of pair (past_of starving) (codes "r") (codes "k") ≡ None
unfolding own story fate ended place_of clock served holder_of
gives_up = refl

pub starved_line : exchanges_text pair pair_names (past_of starving) 1 ≡ codes "exchange 1 source a failed OutOfMemory \"\"\n"
unfolding own story fate ended place_of clock exchanges_text escaped quoted digits
starved_line = refl

-- ---- an exchange that writes to the log

-- each exchange writes its body to the log o
abbrev pub teller : Plan
teller = record pair { mean = λ b given. asks_at (request.Log (codes "o") b.message.body ∷ []) (length given) b.message }

pub log_line_shown : log_text_of teller (past_of (kind.Pull 0 ∷ kind.Accept 0 (codes "a1") (plain (codes "a\nb\\c")) ∷ kind.Answer 1 reply.Noted ∷ []))
    ≡ codes "log 1 o: a\\nb\\\\c\n"
unfolding own story fate ended served log_text_of escaped digits
log_line_shown = refl

-- ---- the texts of the history of `Example`

-- the source's id is in, the queue's name is q
abbrev pub small_names : RouteNames
small_names = record { route_id = λ r. codes "in"; queue_name = λ q. codes "q" }

-- all that waits behind the first entries
pub early_lines : exchanges_text small small_names (past_of early) 4
    ≡ codes "exchange 1 source in waiting joining\nexchange 2 queue q waiting queue q\nexchange 3 part 1.0 completed\nexchange 4 part 1.1 waiting ready\n"
unfolding own story fate ended place_of clock exchanges_text digits
early_lines = refl

pub sleeper_line : exchanges_text small small_names (past_of (early ++ middle)) 1 ≡ codes "exchange 1 source in waiting retry 7\n"
unfolding own story fate ended place_of clock exchanges_text digits
sleeper_line = refl

pub group_line_shown : groups_text small (past_of (early ++ middle)) 1 ≡ codes "group 1 1 \"k\"\n"
unfolding own story fate ended place_of clock groups_text escaped quoted digits
group_line_shown = refl

pub small_book : book_text_of small small_names (past_of (early ++ middle ++ late ++ kind.Answer 6 reply.Finished ∷ [])) stop_is.Drained
    ≡ codes "exchange 1 source in completed\nexchange 2 queue q completed\nexchange 3 part 1.0 completed\nexchange 4 part 1.1 completed\n"
    ++ codes "exchange 5 group 1 completed\nexchange 6 group 2 completed\n"
    ++ codes "accepted 1 refused 0\ntotal 6 completed 6 handled 0 failed 0 waiting 0\ndrained\n"
unfolding own story fate ended place_of clock turns count_at accepted_count refused_count exchanges_text refusals_text groups_text summary_text_of book_text_of escaped quoted digits
small_book = refl

-- the other ends of a book
pub stop_lines : map (stop_line small_names 50) (stop_is.Held 2 ∷ stop_is.Spent ∷ stop_is.SourceFault 0 ∷ []) ≡ codes "held 2\n" ∷ codes "spent 50\n" ∷ codes "source fault in\n" ∷ []
unfolding digits
stop_lines = refl

-- a fault's kind stands as it is, its text quoted
pub failed_line : exchange_line small_names 1 (from.Source 0 (codes "1")) (place_is.Ended (end.Failed (fault (codes "QueueFull") (codes "seda:q 2")))) ≡ codes "exchange 1 source in failed QueueFull \"seda:q 2\"\n"
unfolding digits quoted escaped
failed_line = refl

-- ---- keys that aren't eager, and keys that failure doesn't give up

-- each exchange offers one key, by these two flags, and then sends
abbrev pub key_by : Bool → Bool → List Request
key_by eager remove = request.Idem (codes "r") (codes "k") eager remove ∷ request.Send (target.Lane (codes "x")) (plain (codes "sent")) ∷ []

abbrev pub keyed : Bool → Bool → Plan
keyed eager remove = record pair { mean = λ b given. asks_at (key_by eager remove) (length given) b.message }

-- both exchanges find a key free that isn't eager; the second ends first, then a third offers it
abbrev pub both_fresh : List Entry
both_fresh = entry 1 (kind.Answer 1 reply.Fresh) ∷ entry 1 (kind.Answer 2 reply.Fresh) ∷ []

abbrev pub ends_done : ℕ → List Entry
ends_done x = entry 1 (kind.Take x) ∷ entry 1 (kind.Answer x reply.Done) ∷ entry 1 (kind.Answer x reply.Finished) ∷ []

pub lazy_is_free : holders (keyed false true) (reverse (taken_in ++ both_fresh)) (codes "r") (codes "k") ≡ []
unfolding own story fate ended served
lazy_is_free = refl

pub later_holds : holder_of (keyed false true) (reverse (taken_in ++ (both_fresh ++ ends_done 2))) (codes "r") (codes "k") ≡ Some 2
unfolding own story fate ended served holder_of
later_holds = refl

-- where both have completed, both hold the key, and the least is named
abbrev pub both_done : Past
both_done = reverse (taken_in ++ (both_fresh ++ (ends_done 2 ++ ends_done 1)))

pub both_hold : holders (keyed false true) both_done (codes "r") (codes "k") ≡ 1 ∷ 2 ∷ []
unfolding own story fate ended served
both_hold = refl

pub least_is_named : holder_of (keyed false true) both_done (codes "r") (codes "k") ≡ Some 1
unfolding own story fate ended served holder_of
least_is_named = refl

-- a starved exchange gives its key up, save where it isn't to be removed
pub starved_keeps : holder_of (keyed true false) (past_of starving) (codes "r") (codes "k") ≡ Some 1
unfolding own story fate ended served holder_of
starved_keeps = refl

pub starved_takes : holder_of (keyed false false) (past_of starving) (codes "r") (codes "k") ≡ Some 1
unfolding own story fate ended served holder_of
starved_takes = refl

pub starved_takes_none : holder_of (keyed false true) (past_of starving) (codes "r") (codes "k") ≡ None
unfolding own story fate ended served holder_of
starved_takes_none = refl
