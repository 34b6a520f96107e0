-- Of each kind, an entry that breaks its rule is not allowed.
use Rattle.std.proofs.Common.{◌++◌, false, true, [], ◌∷◌, codes, reverse, refl, arith, inl, inr}
use Rattle.eip_frames.specs.declared.answer.Answer.TheVariants as reply
use Rattle.eip_frames.specs.declared.answer.Completion.TheVariants as by
use Rattle.eip_ledger.specs.declared.entry.Kind.TheVariants as kind
use Rattle.eip_ledger.specs.declared.entry.Refused.TheVariants as refused
use Rattle.eip_history.specs.Own.{own, source_state, clock, turns}
use Rattle.eip_history.specs.Births.{story, fate}
use Rattle.eip_history.specs.Place.{takes_out, pulls_out, place, place_of, ended, numbers_at, busy}
use Rattle.eip_history.specs.Rules.{May, dues, served, holder_of}
use Rattle.eip_history.specs.Example.{small, early, middle, past_of, plain, done}
use Rattle.eip_history.specs.Histories.{pair, taken_in, entry, keyed, both_done}
use Rattle.eip_history.proofs.AnswerFacts.{answers-to}

-- a source is pulled that is out already
pub no_second_pull : May small 100 (past_of (kind.Pull 0 ∷ [])) 0 (kind.Pull 0) → ⊥
unfolding source_state
no_second_pull may = cc may.1

-- a source is pulled where the limit is reached: one turn is spent and the limit is 1
pub no_pull_at_the_limit : May pair 1 (past_of (kind.Pull 0 ∷ kind.Accept 0 (codes "a") (plain (codes "a")) ∷ [])) 0 (kind.Pull 1) → ⊥
unfolding turns pulls_out takes_out source_state own story fate
no_pull_at_the_limit may = absurd (omega (arith, may.2))

-- an item is accepted that nobody pulled
pub no_accept_without_pull : May small 100 [] 0 (kind.Accept 0 (codes "1") (plain (codes "in"))) → ⊥
unfolding source_state
no_accept_without_pull may = cc may.1

-- an item is refused by a worker that did not pull it
pub no_refuse_by_another : May pair 100 (entry 1 (kind.Pull 0) ∷ []) 2 (kind.Refuse 0 (codes "1") refused.NotText) → ⊥
unfolding source_state
no_refuse_by_another may = cc may.1

-- a route that is no source ends
pub no_end_of_a_queue : May small 100 [] 0 (kind.SourceEnd 1) → ⊥
no_end_of_a_queue may = cc may.0.1

-- a source fails that has ended
pub no_fault_behind_the_end : May small 100 (past_of (kind.Pull 0 ∷ kind.SourceEnd 0 ∷ [])) 0 (kind.SourceFault 0) → ⊥
unfolding source_state
no_fault_behind_the_end may = cc may.1

-- an exchange starts that is not the first of the queue
pub no_start_of_another : May small 100 (past_of early) 0 (kind.Start 1 4) → ⊥
unfolding own story fate ended place_of clock numbers_at
no_start_of_another may = cc may.0

-- an exchange starts where the queue's only consumer is busy
pub no_start_beside_a_busy_one : May small 100 (past_of (early ++ kind.Answer 4 reply.Finished ∷ kind.Start 1 2 ∷ [])) 0 (kind.Start 1 2) → ⊥
unfolding own story fate ended place_of clock numbers_at busy
no_start_beside_a_busy_one may = absurd (omega (arith, may.1))

-- an exchange is taken that asks nothing of the outside
pub no_take_without_send : May small 100 (past_of early) 0 (kind.Take 4) → ⊥
unfolding own story fate
no_take_without_send may = cc may.1

-- an answer that fits another request
pub no_unfit_answer : May small 100 (past_of early) 0 (kind.Answer 4 reply.Fresh) → ⊥
unfolding own story fate
no_unfit_answer may = cc (answers-to small 100 (past_of early) 0 4 reply.Fresh _ may refl).fitting

-- a copy is queued under a number that is not the next
pub no_wrong_number : May small 100 (past_of (kind.Pull 0 ∷ kind.Accept 0 (codes "1") (plain (codes "in")) ∷ [])) 0 (kind.Answer 1 (reply.Queued 3)) → ⊥
unfolding own story fate ended place_of clock numbers_at
no_wrong_number may =
    absurd (omega (arith, (answers-to small 100 (past_of (kind.Pull 0 ∷ kind.Accept 0 (codes "1") (plain (codes "in")) ∷ [])) 0 1 (reply.Queued 3) _ may refl).content.0))

-- a join is answered before all parts have ended
pub no_early_join : May small 100 (past_of early) 0 (kind.Answer 1 (reply.Joined (done (codes "a") ∷ done (codes "b") ∷ []))) → ⊥
unfolding own story fate ended
no_early_join may = cc (answers-to small 100 (past_of early) 0 1 (reply.Joined (done (codes "a") ∷ done (codes "b") ∷ [])) _ may refl).content

-- a key is given that another exchange holds
pub no_second_holder : May pair 100 (entry 2 (kind.Answer 1 reply.Fresh) ∷ reverse taken_in) 1 (kind.Answer 2 reply.Fresh) → ⊥
unfolding own story fate ended served holder_of
no_second_holder may = cc (answers-to pair 100 (entry 2 (kind.Answer 1 reply.Fresh) ∷ reverse taken_in) 1 2 reply.Fresh _ may refl).content

-- a duplicate's answer names a later holder than the least: both exchanges of a key that isn't eager have completed
pub no_name_of_a_later_holder : May (keyed false true) 100 (entry 1 (kind.Accept 0 (codes "a2") (plain (codes "a"))) ∷ entry 1 (kind.Pull 0) ∷ both_done) 1 (kind.Answer 3 (reply.Duplicate 2)) → ⊥
unfolding own story fate ended served holder_of
no_name_of_a_later_holder may =
    cc (answers-to (keyed false true) 100 (entry 1 (kind.Accept 0 (codes "a2") (plain (codes "a"))) ∷ entry 1 (kind.Pull 0) ∷ both_done) 1 3 (reply.Duplicate 2) _ may refl).content

-- a send is answered by a worker that does not have the exchange in hand
pub no_answer_by_another : May pair 100 (entry 1 (kind.Take 1) ∷ entry 2 (kind.Answer 1 reply.Fresh) ∷ reverse taken_in) 2 (kind.Answer 1 reply.Done) → ⊥
unfolding own story fate ended place place_of clock
no_answer_by_another may = cc (answers-to pair 100 (entry 1 (kind.Take 1) ∷ entry 2 (kind.Answer 1 reply.Fresh) ∷ reverse taken_in) 2 1 reply.Done _ may refl).act

-- a group is closed by a cause that does not apply: one part is fewer than its size
pub no_early_closing : May small 100 (past_of (early ++ kind.Answer 4 reply.Finished ∷ kind.Start 1 2 ∷ [])) 0 (kind.Answer 2 (reply.Closed 1 by.Size 5)) → ⊥
unfolding own story fate clock
no_early_closing may =
    cc (answers-to small 100 (past_of (early ++ kind.Answer 4 reply.Finished ∷ kind.Start 1 2 ∷ [])) 0 2 (reply.Closed 1 by.Size 5) _ may refl).content.2

-- the clock moves while somebody is ready
pub no_tick_beside_the_ready : May small 100 (past_of early) 0 (kind.Tick 7) → ⊥
unfolding own story fate ended place_of clock numbers_at
no_tick_beside_the_ready may = cc may.0.none_ready

-- the clock moves past the least due moment
pub no_tick_too_far : May small 100 (past_of (early ++ middle)) 0 (kind.Tick 8) → ⊥
unfolding own story fate ended place_of clock dues
no_tick_too_far may = cc may.2

-- groups are forced while somebody is due
pub no_force_before_the_due : May small 100 (past_of (early ++ middle)) 0 kind.Force → ⊥
unfolding own story fate ended place_of clock dues
no_force_before_the_due may = cc may.2

-- an exchange is starved that has ended
pub no_starve_of_the_ended : May small 100 (past_of early) 0 (kind.Starve 3) → ⊥
unfolding own story fate ended place place_of clock
no_starve_of_the_ended (inl ready) = cc ready
no_starve_of_the_ended (inr held) = cc held

-- nobody hands an exchange back, not even who has it in hand
pub no_return_of_the_held : May pair 100 (entry 1 (kind.Take 1) ∷ entry 2 (kind.Answer 1 reply.Fresh) ∷ reverse taken_in) 1 (kind.Return 1) → ⊥
no_return_of_the_held may = may
