-- What one more entry does to each of the words that go over a whole past.
use Rattle.std.proofs.Common.{◌≡◌, ℕ, [], ◌∷◌, None, IsTrue, refl}
use Rattle.eip_ledger.specs.declared.entry.Entry.{Entry}
use Rattle.eip_history.specs.Plan.{Plan}
use Rattle.eip_history.specs.Own.{Past, Idle, source_state, clock, ticked, turns}
use Rattle.eip_history.specs.Births.{story, groups, grouped}
use Rattle.eip_history.specs.Rules.{KeepsRules}
use Rattle.eip_history.specs.Stop.{first_fault, fault_in, or_else, IsPlain, actor, is_of}

pub source-none : (t : ℕ) → source_state t [] ≡ Idle
unfolding source_state
source-none t = refl

pub clock-none : clock [] ≡ 0
unfolding clock
clock-none = refl

pub clock-more : (e : Entry) (past : Past) → clock (e ∷ past) ≡ ticked e.kind (clock past)
unfolding clock
clock-more e past = refl

pub turns-none : turns [] ≡ 0
unfolding turns
turns-none = refl

pub groups-begin : (s : Plan) → groups s [] ≡ []
unfolding story
groups-begin s = refl

-- the groups behind one more entry
pub groups-behind : (s : Plan) (e : Entry) (past : Past) → groups s (e ∷ past) ≡ grouped s (story s past) past e.kind
unfolding story
groups-behind s e past = refl

pub fault-none : first_fault [] ≡ None
unfolding first_fault
fault-none = refl

pub fault-more : (e : Entry) (past : Past) → first_fault (e ∷ past) ≡ or_else (first_fault past) (fault_in e.kind)
unfolding first_fault
fault-more e past = refl

pub legal-none : (s : Plan) (w limit : ℕ) → KeepsRules s w limit []
unfolding KeepsRules
legal-none s w limit = tt

pub plain-none : (s : Plan) → IsPlain s []
unfolding IsPlain
plain-none s = tt

pub plain-add : (s : Plan) (e : Entry) (past : Past) → IsPlain s past → e.worker ≡ 0 → IsTrue (is_of (actor s past) e.kind) → IsPlain s (e ∷ past)
unfolding IsPlain
plain-add s e past h w a = (h, w, a)

pub plain-tail : (s : Plan) (e : Entry) (past : Past) → IsPlain s (e ∷ past) → IsPlain s past
unfolding IsPlain
plain-tail s e past h = h.0
