-- What an entry does to the groups.
use Rattle.std.proofs.Common.{◌≡◌, ℕ, false, List, ◌∷◌, Option, Some, None, refl, ap, ◌∙◌}
use Rattle.eip_exchange.specs.declared.message.Message.{Message}
use Rattle.eip_frames.specs.declared.answer.Answer.{Answer as Reply}
use Rattle.eip_frames.specs.declared.answer.Answer.TheVariants as reply
use Rattle.eip_frames.specs.declared.answer.Completion.{Completion}
use Rattle.eip_frames.specs.declared.answer.Completion.TheVariants as by
use Rattle.eip_frames.specs.declared.request.Request.{Request}
use Rattle.eip_frames.specs.declared.request.Request.TheVariants.{Arrive}
use Rattle.eip_ledger.specs.declared.entry.Kind.{Kind}
use Rattle.eip_ledger.specs.declared.entry.Kind.TheVariants.{Answer, Tick, Force}
use Rattle.eip_history.specs.Plan.{Plan}
use Rattle.eip_history.specs.Own.{Past}
use Rattle.eip_history.specs.Groups.{put_group, closed_by, is_due, is_forced}
use Rattle.eip_history.specs.Births.{Asked, Story, story, groups, asked, grouped_by, grouped_for}
use Rattle.eip_history.specs.Rules.{group_at}
use Rattle.eip_history.specs.TableWords.{is_arrival, moves_groups}

no-arrival-for : (t : Story) (past : Past) (k : Asked) (q : Request) (a : Reply) → is_arrival a ≡ false → grouped_for t past k q a ≡ t.groups
no-arrival-for t past k (Arrive b key m) (reply.Arrived n) h = absurd (cc h)
no-arrival-for t past k (Arrive b key m) (reply.Closed g c n) h = absurd (cc h)
no-arrival-for t past k _ _ h = refl

no-arrival : (t : Story) (past : Past) (o : Option Asked) (a : Reply) → is_arrival a ≡ false → grouped_by t past o a ≡ t.groups
no-arrival t past None a h = refl
no-arrival t past (Some k) a h = no-arrival-for t past k k.request a h

-- an entry that is no arrival, no Tick and no Force leaves the groups as they were
pub groups-same : (s : Plan) (v : ℕ) (k : Kind) (past : Past) → moves_groups k ≡ false → groups s ((record { worker = v; kind = k }) ∷ past) ≡ groups s past
unfolding story
groups-same s v (Answer x a) past h = no-arrival (story s past) past (asked s past x) a h
groups-same s v (Tick t) past h = absurd (cc h)
groups-same s v Force past h = absurd (cc h)
groups-same s v _ past h = refl

answered : (s : Plan) (v x : ℕ) (a : Reply) (past : Past) (q : Asked) (r : Request) → asked s past x ≡ Some q → q.request ≡ r
    → groups s ((record { worker = v; kind = Answer x a }) ∷ past) ≡ grouped_for (story s past) past q r a
unfolding story
answered s v x a past q r at same = ap (λ o. grouped_by (story s past) past o a) at ∙ ap (λ u. grouped_for (story s past) past q u a) same

-- an arrival that leaves its group open: the group has it, every other group is as it was
pub groups-own : (s : Plan) (v x n : ℕ) (past : Past) (q : Asked) (a : ℕ) (key : List ℕ) (m : Message) → asked s past x ≡ Some q → q.request ≡ Arrive a key m
    → groups s ((record { worker = v; kind = Answer x (reply.Arrived n) }) ∷ past) ≡ put_group (group_at s past q a key m) (groups s past)
groups-own s v x n past q a key m at same = answered s v x (reply.Arrived n) past q (Arrive a key m) at same

-- an arrival that closes its group
pub groups-closed : (s : Plan) (v x g n : ℕ) (c : Completion) (past : Past) (q : Asked) (a : ℕ) (key : List ℕ) (m : Message) → asked s past x ≡ Some q
    → q.request ≡ Arrive a key m
    → groups s ((record { worker = v; kind = Answer x (reply.Closed g c n) }) ∷ past) ≡ put_group (record (group_at s past q a key m) { closed = Some c }) (groups s past)
groups-closed s v x g n c past q a key m at same = answered s v x (reply.Closed g c n) past q (Arrive a key m) at same

-- a Tick closes the groups that are due by it, and no other
pub groups-tick : (s : Plan) (v t : ℕ) (past : Past) → groups s ((record { worker = v; kind = Tick t }) ∷ past) ≡ closed_by by.Timeout (is_due s t) (groups s past)
unfolding story
groups-tick s v t past = refl

-- a Force closes the open groups that may be forced, and no other
pub groups-force : (s : Plan) (v : ℕ) (past : Past) → groups s ((record { worker = v; kind = Force }) ∷ past) ≡ closed_by by.Force (is_forced s) (groups s past)
unfolding story
groups-force s v past = refl
