-- A doTry asks for its last block exactly once before it goes on or faults.
use Rattle.std.proofs.Common.{◌≡◌, ℕ, ◌+◌, Bool, true, false, cond, List, [], ◌∷◌, length, refl, sym, ap, subst, ◌∙◌, arith, eq-eqb}
use Rattle.std.specs.Prelude.{Option, Some, None}
use Rattle.std.specs.List.{list_any}
use Rattle.std.proofs.lemmas.Bool.{eqb-true}
use Rattle.eip_exchange.specs.declared.birth.Care.TheVariants as care
use Rattle.eip_exchange.specs.declared.end.Ended.{Ended}
use Rattle.eip_exchange.specs.declared.end.Fault.{Fault}
use Rattle.eip_exchange.specs.declared.message.Message.{Message}
use Rattle.eip_route.specs.declared.route.RouteSet.{RouteSet}
use Rattle.eip_route.specs.declared.step.Catch.{Catch}
use Rattle.eip_route.specs.declared.step.Check.{Check}
use Rattle.eip_route.specs.declared.step.Check.TheVariants as check
use Rattle.eip_frames.specs.Fits.{fits}
use Rattle.eip_frames.specs.declared.request.At.{At}
use Rattle.eip_frames.specs.declared.request.Seed.{Seed}
use Rattle.eip_frames.specs.declared.request.Request.{Request}
use Rattle.eip_frames.specs.declared.request.Request.TheVariants as request
use Rattle.eip_frames.specs.declared.answer.Answer.{Answer as Reply}
use Rattle.eip_frames.specs.declared.answer.Answer.TheVariants as reply
use Rattle.eip_meaning.specs.declared.context.Context.{Context}
use Rattle.eip_meaning.specs.Contexts.{place_in}
use Rattle.eip_meaning.specs.Outcomes.{Outcome, Asks, fault_in, unless_fault, ask}
use Rattle.eip_meaning.specs.Values.{with_content}
use Rattle.eip_meaning.specs.Checks.{tested}
use Rattle.eip_meaning.specs.Parts.{block_seed, first_born, count_born, parts_in, spawned, fault_of_end, or_fault}
use Rattle.eip_meaning.specs.Tries.{Behind, behind_part, runs_part, try_ends, finally_mean, names_kind, tested_when, catch_mean, catches_mean, behind_block, try_mean}
use Rattle.eip_meaning.specs.LastBlock.{asks_last, counted, times_asked, is_through, LastRunsOnce}

module _ (set : RouteSet) (last : ℕ) where
  -- a part of a route that goes on or faults asks so often for the last block
  abbrev Times : ℕ → (List Reply → Outcome) → Type 0
  Times n R = (given : List Reply) → is_through (R given) ≡ true → times_asked last R given ≡ n

  times-same : (R S : List Reply → Outcome) → ((A : List Reply) → R A ≡ S A) → (given : List Reply) → times_asked last R given ≡ times_asked last S given
  times-same R S h [] = ap (λ o. counted (asks_last last o) 0) (h [])
  times-same R S h (a ∷ A) =
      rw (h []) (ap (counted (asks_last last (S []))) (times-same (λ A'. R (a ∷ A')) (λ A'. S (a ∷ A')) (λ A'. h (a ∷ A')) A))

  times-none : (R : List Reply → Outcome) → ((A : List Reply) → asks_last last (R A) ≡ false) → (given : List Reply) → times_asked last R given ≡ 0
  times-none R h [] = rw (h []) refl
  times-none R h (a ∷ A) = rw (h []) (times-none (λ A'. R (a ∷ A')) (λ A'. h (a ∷ A')) A)

  -- what asks nothing
  quiet : (R : List Reply → Outcome) → ((A : List Reply) → asks_last last (R A) ≡ false) → Times 0 R
  quiet R h given through = times-none R h given

  either-times : (n : ℕ) (R S : List Reply → Outcome) (b : Bool) → Times n R → Times n S → Times n (λ A. cond b (R A) (S A))
  either-times n R S true r s = r
  either-times n R S false r s = s

  -- a request that no answer makes a fault, and what follows its answers
  ask-times : (q : Request) (p : At) (K : Reply → List Reply → Outcome) (n : ℕ) → ((a : Reply) → fault_in set q a ≡ None) → ((a : Reply) → fits q a ≡ true → Times n (K a))
      → Times (counted (asks_last last (Asks q p)) n) (λ A. ask set q p K A)
  ask-times q p K n none g [] through = absurd (cc through)
  ask-times q p K n none g (a ∷ A) through = by_fit (fits q a) refl
    where
      by_fit : (b : Bool) → fits q a ≡ b → counted (asks_last last (Asks q p)) (times_asked last (λ A'. ask set q p K (a ∷ A')) A) ≡ counted (asks_last last (Asks q p)) n
      by_fit true e =
          let same : (A' : List Reply) → ask set q p K (a ∷ A') ≡ K a A' = λ A'. rw (e, none a) refl in
          ap (counted (asks_last last (Asks q p)))
          (times-same (λ A'. ask set q p K (a ∷ A')) (K a) same A ∙ g a e A (subst (λ o. is_through o ≡ true) (same A) through))
      by_fit false e = absurd (let stray : is_through (ask set q p K (a ∷ A)) ≡ false = rw e refl in cc)

  -- as many ends as parts were asked for
  as-many : (seeds : List Seed) (a b : Reply) → fits (request.Spawn seeds) a ≡ true → fits (request.Join (first_born a) (count_born a)) b ≡ true → length (parts_in b) ≡ length seeds
  as-many seeds (reply.Born first count) (reply.Joined parts) e g = eqb-true (length parts) count g ∙ eqb-true count (length seeds) e
  as-many seeds (reply.Born first count) _ e g = absurd (cc g)
  as-many seeds _ b e g = absurd (cc e)

  spawned-times : (c : Context) (k : ℕ) (seeds : List Seed) (K : List Ended → List Reply → Outcome) (n : ℕ) → ((es : List Ended) → length es ≡ length seeds → Times n (K es))
      → Times (counted (asks_last last (Asks (request.Spawn seeds) (place_in c k))) n) (λ A. spawned set c k seeds K A)
  spawned-times c k seeds K n g =
      ask-times (request.Spawn seeds) (place_in c k) _ n (λ a. refl)
      (λ a e. ask-times (request.Join (first_born a) (count_born a)) (place_in c k) (λ b A. K (parts_in b) A) n (λ b. refl) (λ b f. g (parts_in b) (as-many seeds a b e f)))

  module _ (c : Context) (m : Message) where
    behind-times : (n : ℕ) (es : List Ended) (K : Ended → List Reply → Outcome) → length es ≡ 1 → ((e : Ended) → Times n (K e)) → Times n (λ A. behind_part m es K A)
    behind-times n [] K one g = absurd (omega (arith, one))
    behind-times n (e ∷ es) K one g = g e

    part-times : (k b : ℕ) (K : Ended → List Reply → Outcome) (x : Message) (n : ℕ) → ((e : Ended) → Times n (K e))
        → Times (counted (asks_last last (Asks (request.Spawn (block_seed care.Bare b x ∷ [])) (place_in c k))) n) (runs_part set c m k b K x)
    part-times k b K x n g = spawned-times c k (block_seed care.Bare b x ∷ []) _ n (λ es one. behind-times n es K one g)

    ends-times : (pending : Option Fault) (latest : Message) → Times 0 (try_ends m pending latest)
    ends-times None latest = quiet _ (λ A. refl)
    ends-times (Some f) latest = quiet _ (λ A. refl)

    finally-times : (pending : Option Fault) (latest : Message) → Times 1 (finally_mean set c (Some last) m pending latest)
    finally-times pending latest =
        let here : asks_last last (Asks (request.Spawn (block_seed care.Bare last latest ∷ [])) (place_in c 2)) ≡ true = eq-eqb last last refl in
        subst (λ b. Times (counted b 0) (finally_mean set c (Some last) m pending latest)) here
        (part-times 2 last _ latest 0 (λ e. ends-times (or_fault (fault_of_end e.end) pending) e.message))

    tested-times : (o : Check) (x : Message) (K : Bool → List Reply → Outcome) (n : ℕ) → ((holds : Bool) → Times n (K holds)) → Times n (λ A. tested set c o x K A)
    tested-times (check.Simple p) x K n g = g _
    tested-times (check.Fixed holds) x K n g = g holds
    tested-times (check.Stored name) x K n g = ask-times (request.Test name x) (place_in c 0) _ n (λ a. refl) (λ a e. g _)

    when-times : (o : Option Check) (x : Message) (K : Bool → List Reply → Outcome) (n : ℕ) → ((holds : Bool) → Times n (K holds)) → Times n (λ A. tested_when set c o x K A)
    when-times None x K n g = g true
    when-times (Some k) x K n g = tested-times k x K n g

    module _ (behind : Behind) (B : (pending : Option Fault) (x : Message) → Times 1 (behind pending x)) where
      catches-times : (ks : List Catch) (f : Fault) (x : Message) → Times 1 (catches_mean set c m ks behind f x)
      catches-times [] f x = B (Some f) x
      catches-times (k ∷ ks) f x =
          either-times 1 _ _ (list_any (names_kind f.kind) k.names)
          (when-times k.when x _ 1 (λ holds. either-times 1 _ _ holds (part-times 1 k.block _ x 1 (λ e. B (fault_of_end e.end) e.message)) (catches-times ks f x)))
          (catches-times ks f x)

      block-times : (ks : List Catch) (o : Option Fault) (x : Message) → Times 1 (behind_block set c m ks behind o x)
      block-times ks None x = B None x
      block-times ks (Some f) x = catches-times ks f x

    try-times : (block : ℕ) (ks : List Catch) → Times 1 (try_mean set c block ks (Some last) m)
    try-times block ks =
        part-times 0 block _ m 1
        (λ e. block-times (finally_mean set c (Some last) m) (λ pending latest. finally-times pending latest) ks (fault_of_end e.end) e.message)

pub last_runs_once : LastRunsOnce
last_runs_once set c block last catches m given through = try-times set last c m block catches given through
