-- Whatever an exchange has processed or tested by name has one of the set's names, where the steps of its blocks do.
use Rattle.std.proofs.Common.{◌≡◌, ℕ, Bool, true, List, [], ◌∷◌, subst}
use Rattle.std.specs.Prelude.{All, Option, Some, None}
use Rattle.eip_exchange.specs.declared.message.Message.{Message}
use Rattle.eip_exchange.specs.declared.end.End.{End}
use Rattle.eip_exchange.specs.declared.end.End.TheVariants.{Completed}
use Rattle.eip_exchange.specs.declared.birth.Birth.{Birth}
use Rattle.eip_route.specs.Valid.{are_steps}
use Rattle.eip_route.specs.declared.route.Names.{Names}
use Rattle.eip_route.specs.declared.route.RouteSet.{RouteSet}
use Rattle.eip_frames.specs.Fate.{Fate, AsksNext}
use Rattle.eip_frames.specs.declared.request.At.{At}
use Rattle.eip_frames.specs.declared.request.Request.{Request}
use Rattle.eip_frames.specs.declared.answer.Answer.{Answer as Reply}
use Rattle.eip_meaning.specs.Contexts.{place_of, context_of}
use Rattle.eip_meaning.specs.Outcomes.{Outcome}
use Rattle.eip_meaning.specs.Meaning.{mean, finished, finish_by, end_by, ends_or_strays, is_committed, item_of}
use Rattle.eip_asked_laws.proofs.Outcomes.{IsNamed, Named, asks, goes, stops, faults, stray}
use Rattle.eip_asked_laws.proofs.Blocks.{work-named}

-- what an exchange asks next has one of these names
abbrev pub IsNamedNext : Names → Fate → Type 0
IsNamedNext names (AsksNext q p) = IsNamed names q
IsNamedNext names _ = Unit {0}

module _ (names : Names) (commit : Bool) (item : List ℕ) (p : At) where
  ended-named : (o : Option End) (m : Message) → IsNamedNext names (ends_or_strays o m)
  ended-named None m = tt
  ended-named (Some e) m = tt

  -- the request for the end is for no name
  finish-named : (e : End) (m : Message) (A : List Reply) → IsNamedNext names (finish_by commit item p e m A)
  finish-named e m [] = tt
  finish-named e m (a ∷ []) = ended-named (end_by commit item e a) m
  finish-named e m (a ∷ a' ∷ A) = tt

  finished-named : {o : Outcome} → Named names o → IsNamedNext names (finished commit item p o)
  finished-named (asks q at i) = i
  finished-named (goes m A) = finish-named Completed m A
  finished-named (stops e m A) = finish-named e m A
  finished-named (faults f again A) = tt
  finished-named stray = tt

module _ (set : RouteSet) (valid : All (λ b. are_steps set.names b.steps ≡ true) set.blocks) (b : Birth) (A : List Reply) where
  mean-named : IsNamedNext set.names (mean set b A)
  unfolding mean
  mean-named = finished-named set.names (is_committed set b) (item_of b.origin) (place_of b) (work-named set valid (context_of b) b.work b.message A)

-- a processor or a predicate that an exchange is waiting for is one of the set's
pub asked-named : (set : RouteSet) → All (λ b. are_steps set.names b.steps ≡ true) set.blocks → (b : Birth) (A : List Reply) (q : Request) (at : At)
    → mean set b A ≡ AsksNext q at → IsNamed set.names q
asked-named set valid b A q at h = subst (IsNamedNext set.names) h (mean-named set valid b A)
