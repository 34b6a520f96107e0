-- What a worker has in hand it has later, behind entries of others, and what comes of it is an entry of it.
use Rattle.std.proofs.Common.{◌≡◌, ℕ, [], ◌++◌, Option, Some, refl, sym, ap, subst, ◌∙◌}
use Rattle.eip_exchange.specs.declared.birth.Origin.{Origin}
use Rattle.eip_frames.specs.declared.request.Request.{Request}
use Rattle.eip_history.specs.Births.{Asked}
use Rattle.eip_history.specs.Own.{Past}
use Rattle.eip_history.specs.Owner.{Outlets, outlet_by, outlet_in, IsOwner}
use Rattle.eip_history.specs.Plan.{Plan}
use Rattle.eip_history.specs.Rules.{KeepsRules}
use Rattle.eip_tables.specs.Outside.{IsAsked}
use Rattle.eip_owners.specs.Owners.{entries_of}
use Rattle.eip_owners.proofs.Hands.{hand-stays, pull-stays}
use Rattle.eip_shared.specs.Deeds.{deed, given_to}
use Rattle.eip_shared.specs.Shared.{IsHeld, IsPulled, MayEnterAt, kind_of, deed_of}
use Rattle.eip_shared.specs.declared.outcome.Outcome.{Outcome}
use Rattle.eip_shared.specs.declared.outcome.Outcome.TheVariants.{Settled, GivenUp, Accepted, Refused, Ended, Faulted}

-- ---- outcomes

pub outcome-own : (s : Plan) (o : Outlets) (workers w : ℕ) (past : Past) (from : Origin) (out : Outcome) → MayEnterAt s o workers past w from out
    → IsOwner workers w (outlet_in s o past (kind_of out))
outcome-own s o workers w past from (Settled t a) may = subst (λ (k : Option Asked). IsOwner workers w (outlet_by o k)) (sym may.0.asks) may.0.own
outcome-own s o workers w past from (GivenUp t) may = tt
outcome-own s o workers w past from (Accepted t item m) may = tt
outcome-own s o workers w past from (Refused t item cause) may = tt
outcome-own s o workers w past from (Ended t) may = tt
outcome-own s o workers w past from (Faulted t) may = tt

-- what an outcome becomes tells what it answers
pub outcome-deed : (s : Plan) (o : Outlets) (workers w : ℕ) (past : Past) (from : Origin) (out : Outcome) → MayEnterAt s o workers past w from out
    → deed s past (kind_of out) ≡ deed_of from out
outcome-deed s o workers w past from (Settled t a) may =
    ap (λ (k : Option Asked). record { kind = kind_of (Settled t a); given = given_to k a }) may.0.asks
    ∙ (ap (λ (z : Origin). record { kind = kind_of (Settled t a); given = Some (record { origin = z; request = may.0.asker.request; answer = a }) }) may.0.origin
    ∙ ap (λ (q : Request). record { kind = kind_of (Settled t a); given = Some (record { origin = from; request = q; answer = a }) }) may.0.request)
outcome-deed s o workers w past from (GivenUp t) may = refl
outcome-deed s o workers w past from (Accepted t item m) may = refl
outcome-deed s o workers w past from (Refused t item cause) may = refl
outcome-deed s o workers w past from (Ended t) may = refl
outcome-deed s o workers w past from (Faulted t) may = refl

pub held-asked : (s : Plan) (o : Outlets) (workers : ℕ) (past : Past) (w x : ℕ) (from : Origin) (q : Request) → IsHeld s o workers past w x from q → IsAsked s past x q
held-asked s o workers past w x from q held = (held.asker, (held.asks, held.request))

-- ---- behind entries of others

module _ (s : Plan) (o : Outlets) (workers limit w : ℕ) (past behind : Past) (legal : KeepsRules s workers limit (behind ++ past)) (none : entries_of w behind ≡ []) where
  pulled-on : (t : ℕ) → IsPulled s o workers past w t → IsPulled s o workers (behind ++ past) w t
  pulled-on t pulled = record {
    source = pulled.source;
    out = pull-stays s workers limit w t past behind legal none pulled.out;
    own = pulled.own;
  }

  held-on : (x : ℕ) (from : Origin) (q : Request) → IsHeld s o workers past w x from q → IsHeld s o workers (behind ++ past) w x from q
  held-on x from q held =
      let stays = hand-stays s workers limit w x past behind legal none held.there in
      record {
        there = stays.0;
        asker = held.asker;
        asks = stays.1 ∙ held.asks;
        origin = held.origin;
        request = held.request;
        own = held.own;
      }

  -- what a worker may enter it may enter behind entries of others
  pub may-on : (from : Origin) (out : Outcome) → MayEnterAt s o workers past w from out → MayEnterAt s o workers (behind ++ past) w from out
  may-on from (Settled t a) may = (held-on t.number from t.request may.0, may.1, may.2)
  may-on from (GivenUp t) may = ((hand-stays s workers limit w t.number past behind legal none may.0).0, may.1)
  may-on from (Accepted t item m) may = (pulled-on t may.0, may.1)
  may-on from (Refused t item cause) may = pulled-on t may
  may-on from (Ended t) may = pulled-on t may
  may-on from (Faulted t) may = pulled-on t may
