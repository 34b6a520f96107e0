-- What a sequential fan-out asks for.
use Rattle.std.proofs.Common.{◌≡◌, ℕ, zero, suc, ◌≤◌, Bool, true, false, cond, List, [], ◌∷◌, ◌++◌, length, take, is_some, refl, sym, ap, ◌∙◌, arith}
use Rattle.eip_exchange.specs.declared.end.Ended.{Ended}
use Rattle.eip_exchange.specs.declared.message.Message.{Message}
use Rattle.eip_exchange.specs.declared.setting.Strategy.{Strategy}
use Rattle.eip_route.specs.declared.route.RouteSet.{RouteSet}
use Rattle.eip_frames.specs.Fate.{Fate, AsksNext, Strays}
use Rattle.eip_frames.specs.Fits.{fits}
use Rattle.eip_frames.specs.declared.request.At.{At}
use Rattle.eip_frames.specs.declared.request.Request.{Request}
use Rattle.eip_frames.specs.declared.request.Request.TheVariants.{Spawn, Join}
use Rattle.eip_frames.specs.declared.request.Seed.{Seed}
use Rattle.eip_frames.specs.declared.answer.Answer.{Answer as Reply}
use Rattle.eip_route.specs.Faults.{next_number}
use Rattle.eip_history.specs.Place.{end_of}
use Rattle.eip_meaning.specs.declared.context.Context.{Context}
use Rattle.eip_meaning.specs.Contexts.{place_in}
use Rattle.eip_meaning.specs.FanOuts.{in_turn}
use Rattle.eip_meaning.specs.Outcomes.{Outcome, Asks, Stray}
use Rattle.eip_meaning.specs.Parts.{first_born, count_born, parts_in}
use Rattle.eip_plan_laws.specs.Parts.{seeds_in}

-- the parts that are asked for here
abbrev pub seeds_next : Fate → List Seed
seeds_next (AsksNext q p) = seeds_in q
seeds_next _ = []

-- the parts that were asked for before each of these answers
abbrev pub seeds_before : (List Reply → Fate) → List Reply → List Seed
seeds_before F [] = []
seeds_before F (a ∷ A) = seeds_next (F []) ++ seeds_before (λ A'. F (a ∷ A')) A

pub seeds-same : (F G : List Reply → Fate) → ((A : List Reply) → F A ≡ G A) → (A : List Reply) → seeds_before F A ≡ seeds_before G A
seeds-same F G h [] = refl
seeds-same F G h (a ∷ A) = rw (h []) (ap (λ xs. seeds_next (G []) ++ xs) (seeds-same (λ A'. F (a ∷ A')) (λ A'. G (a ∷ A')) (λ A'. h (a ∷ A')) A))

seeds-none : (F : List Reply → Fate) → ((A : List Reply) → F A ≡ Strays) → (A : List Reply) → seeds_before F A ≡ []
seeds-none F h [] = refl
seeds-none F h (a ∷ A) = rw (h []) (seeds-none (λ A'. F (a ∷ A')) (λ A'. h (a ∷ A')) A)

-- the first parts that were asked for are the first of these, and all of them where it has ended
pub record AsksInTurn (xs : List Seed) (F : List Reply → Fate) (A : List Reply) : Type 0 where
  pub first : take (length xs) (seeds_before F A) ≡ take (length (seeds_before F A)) xs
  pub all : is_some (end_of (F A)) ≡ true → length xs ≤ length (seeds_before F A)

take-none : (n : ℕ) → ◌≡◌ {A = List Seed} (take n []) []
take-none zero = refl
take-none (suc n) = refl

pub turn-same : (xs : List Seed) (F G : List Reply → Fate) (A : List Reply) → ((B : List Reply) → F B ≡ G B) → AsksInTurn xs G A → AsksInTurn xs F A
turn-same xs F G A h t =
    let same = seeds-same F G h A in
    record {
      first = rw same t.first;
      all = λ e. rw same (t.all (ap (λ f. is_some (end_of f)) (sym (h A)) ∙ e));
    }

-- without parts nothing is asked for here
pub turn-none : (F : List Reply → Fate) (A : List Reply) → AsksInTurn [] F A
turn-none F A = record { first = sym (take-none (length (seeds_before F A))); all = λ e. omega arith }

module _ (set : RouteSet) (c : Context) (s : Strategy) (m : Message) (W : Outcome → Fate) (asks : (q : Request) (p : At) → W (Asks q p) ≡ AsksNext q p) (strays : W Stray ≡ Strays) where
  abbrev Run : List Ended → ℕ → List Seed → List Reply → Fate
  Run ended k xs A = W (in_turn set c s false ended k xs m A)

  module _ (ended : List Ended) (k : ℕ) (x : Seed) (xs : List Seed) where
    abbrev F : List Reply → Fate
    F A = Run ended k (x ∷ xs) A

    begins : F [] ≡ AsksNext (Spawn (x ∷ [])) (place_in c k)
    begins = asks (Spawn (x ∷ [])) (place_in c k)

    abbrev join_of : Reply → Request
    join_of a = Join (first_born a) (count_born a)

    born : (a : Reply) → fits (Spawn (x ∷ [])) a ≡ true → F (a ∷ []) ≡ AsksNext (join_of a) (place_in c k)
    born a e = ap (λ v. W (cond v (Asks (join_of a) (place_in c k)) Stray)) e ∙ asks (join_of a) (place_in c k)

    unborn : (a : Reply) (A : List Reply) → fits (Spawn (x ∷ [])) a ≡ false → F (a ∷ A) ≡ Strays
    unborn a A e = rw e strays

    unjoined : (a b : Reply) (A : List Reply) → fits (Spawn (x ∷ [])) a ≡ true → fits (join_of a) b ≡ false → F (a ∷ b ∷ A) ≡ Strays
    unjoined a b A e f = rw (e, f) strays

    joined : (a b : Reply) (A : List Reply) → fits (Spawn (x ∷ [])) a ≡ true → fits (join_of a) b ≡ true
        → F (a ∷ b ∷ A) ≡ Run (ended ++ parts_in b) (next_number k) xs A
    joined a b A e f = rw (e, f) refl

    -- one part was asked for
    one-asked : (a : Reply) → AsksInTurn (x ∷ xs) F (a ∷ [])
    one-asked a = record { first = rw begins (rw (take-none (length xs)) refl); all = λ e. absurd (not_ended (fits (Spawn (x ∷ [])) a) refl e) }
      where
        not_ended : (v : Bool) → fits (Spawn (x ∷ [])) a ≡ v → is_some (end_of (F (a ∷ []))) ≡ true → ⊥
        not_ended true e h = let g = rw (born a e) at h in cc g
        not_ended false e h = let g = rw (unborn a [] e) at h in cc g

    -- one part was asked for, has ended, and the others follow
    more-asked : (a b : Reply) (A : List Reply) (L : List Seed) → seeds_before F (a ∷ b ∷ A) ≡ x ∷ L → take (length xs) L ≡ take (length L) xs
        → (is_some (end_of (F (a ∷ b ∷ A))) ≡ true → length xs ≤ length L) → AsksInTurn (x ∷ xs) F (a ∷ b ∷ A)
    more-asked a b A L are first all = record { first = rw are (ap (λ ys. x ∷ ys) first); all = λ e. rw are (let l = all e in omega (arith, l)) }

    seeds-strayed : (a b : Reply) (A : List Reply) → seeds_next (F (a ∷ [])) ≡ [] → ((B : List Reply) → F (a ∷ b ∷ B) ≡ Strays) → seeds_before F (a ∷ b ∷ A) ≡ x ∷ []
    seeds-strayed a b A none h = rw (begins, none, seeds-none (λ B. F (a ∷ b ∷ B)) h A) refl

    strayed-asked : (a b : Reply) (A : List Reply) → seeds_next (F (a ∷ [])) ≡ [] → ((B : List Reply) → F (a ∷ b ∷ B) ≡ Strays) → AsksInTurn (x ∷ xs) F (a ∷ b ∷ A)
    strayed-asked a b A none h =
        more-asked a b A [] (seeds-strayed a b A none h) (take-none (length xs)) (λ e. absurd (let g = rw (h A) at e in cc g))

    two-asked : (a b : Reply) (A : List Reply) → AsksInTurn xs (Run (ended ++ parts_in b) (next_number k) xs) A → AsksInTurn (x ∷ xs) F (a ∷ b ∷ A)
    two-asked a b A later = by_birth (fits (Spawn (x ∷ [])) a) refl
      where
        by_join : (v : Bool) → fits (join_of a) b ≡ v → fits (Spawn (x ∷ [])) a ≡ true → AsksInTurn (x ∷ xs) F (a ∷ b ∷ A)
        by_join true f e =
            let next = Run (ended ++ parts_in b) (next_number k) xs in
            let same = seeds-same (λ B. F (a ∷ b ∷ B)) next (λ B. joined a b B e f) A in
            more-asked a b A (seeds_before next A) (rw (begins, born a e, same) refl) later.first (λ g. later.all (ap (λ o. is_some (end_of o)) (sym (joined a b A e f)) ∙ g))
        by_join false f e = strayed-asked a b A (rw (born a e) refl) (λ B. unjoined a b B e f)

        by_birth : (v : Bool) → fits (Spawn (x ∷ [])) a ≡ v → AsksInTurn (x ∷ xs) F (a ∷ b ∷ A)
        by_birth true e = by_join (fits (join_of a) b) refl e
        by_birth false e = strayed-asked a b A (rw (unborn a [] e) refl) (λ B. unborn a (b ∷ B) e)

  pub in-turn-asks : (ended : List Ended) (k : ℕ) (xs : List Seed) (A : List Reply) → AsksInTurn xs (Run ended k xs) A
  in-turn-asks ended k [] A = turn-none (Run ended k []) A
  in-turn-asks ended k (x ∷ xs) [] = record { first = refl; all = λ e. absurd (let g = rw (begins ended k x xs) at e in cc g) }
  in-turn-asks ended k (x ∷ xs) (a ∷ []) = one-asked ended k x xs a
  in-turn-asks ended k (x ∷ xs) (a ∷ b ∷ A) = two-asked ended k x xs a b A (in-turn-asks (ended ++ parts_in b) (next_number k) xs A)
