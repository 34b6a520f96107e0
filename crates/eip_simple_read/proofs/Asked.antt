-- What is asked of a builder of patterns, text by text.
use Rattle.std.proofs.Common.{◌≡◌, inl, inr, ℕ, List, [], ◌∷◌, ◌++◌, Some, None, Result, Err, refl, sym, ap, ◌∙◌, subst, append_assoc}
use Rattle.std.proofs.lemmas.List.{append-nil}
use Rattle.eip_simple_read.specs.declared.pattern.Build.{Build}
use Rattle.eip_simple_read.specs.declared.fault.Stop.{Stop}
use Rattle.eip_simple_read.specs.declared.fault.Stop.TheVariants as stop
use Rattle.eip_simple_read.specs.Reading.{Fault, Fails}
use Rattle.eip_simple_read.specs.Builds.{Told, added, built_one, refused_one, built, EndsRefused, Begins, AsksStopped}

-- ---- one behind the other

pub added_nothing : (b : Told) → added b [] ≡ b
added_nothing None = refl
added_nothing (Some all) = ap (λ (x : List Build). Some x) (append-nil all)

pub added_more : (b : Told) (xs ys : List Build) → added (added b xs) ys ≡ added b (xs ++ ys)
added_more None xs ys = refl
added_more (Some all) xs ys = ap (λ (x : List Build). Some x) (append_assoc all xs ys)

pub built_append : (xs ys : List (List ℕ)) → built (xs ++ ys) ≡ built xs ++ built ys
built_append [] ys = refl
built_append (t ∷ xs) ys = ap (λ (us : List Build). built_one t ∷ us) (built_append xs ys)

pub built_behind : (xs ys : List (List ℕ)) (b m n : Told) → m ≡ added b (built xs) → n ≡ added m (built ys) → n ≡ added b (built (xs ++ ys))
built_behind xs ys b m n h g =
    g ∙ ap (λ (x : Told). added x (built ys)) h ∙ added_more b (built xs) (built ys) ∙ ap (added b) (sym (built_append xs ys))

pub refused_behind : (xs ys : List (List ℕ)) (b m n : Told) → m ≡ added b (built xs) → EndsRefused ys m n → EndsRefused (xs ++ ys) b n
refused_behind xs ys b m n h (front, last, is, e) = (
  xs ++ front,
  last,
  ap (λ (x : List (List ℕ)). xs ++ x) is ∙ sym (append_assoc xs front (last ∷ [])),
  e ∙ ap (λ (x : Told). added x (built front ++ refused_one last ∷ [])) h ∙ added_more b (built xs) (built front ++ refused_one last ∷ [])
      ∙ ap (added b) (sym (append_assoc (built xs) (built front) (refused_one last ∷ [])) ∙ ap (λ (x : List Build). x ++ refused_one last ∷ []) (sym (built_append xs front))),
)

pub begins_behind : (xs ys : List (List ℕ)) (b m n : Told) → m ≡ added b (built xs) → Begins ys m n → Begins (xs ++ ys) b n
begins_behind xs ys b m n h (front, behind, is, inl e) =
    (xs ++ front, behind, ap (λ (x : List (List ℕ)). xs ++ x) is ∙ sym (append_assoc xs front behind), inl (built_behind xs front b m n h e))
begins_behind xs ys b m n h (front, behind, is, inr e) =
    (xs ++ front, behind, ap (λ (x : List (List ℕ)). xs ++ x) is ∙ sym (append_assoc xs front behind), inr (refused_behind xs front b m n h e))

pub begins_before : (xs ys : List (List ℕ)) (b n : Told) → Begins xs b n → Begins (xs ++ ys) b n
begins_before xs ys b n (front, behind, is, e) = (front, behind ++ ys, ap (λ (x : List (List ℕ)). x ++ ys) is ∙ append_assoc front behind ys, e)

pub begins_built : (xs : List (List ℕ)) (b n : Told) → n ≡ added b (built xs) → Begins xs b n
begins_built xs b n h = (xs, [], sym (append-nil xs), inl h)

pub begins_refused : (xs : List (List ℕ)) (b n : Told) → EndsRefused xs b n → Begins xs b n
begins_refused xs b n h = (xs, [], sym (append-nil xs), inr h)

pub begins_nothing : (xs : List (List ℕ)) (b n : Told) → n ≡ b → Begins xs b n
begins_nothing xs b n h = ([], xs, refl, inl (h ∙ sym (added_nothing b)))

-- ---- one reader

pub built_nothing : (xs : List (List ℕ)) (b n : Told) → xs ≡ [] → n ≡ b → n ≡ added b (built xs)
built_nothing xs b n e h = h ∙ sym (added_nothing b) ∙ ap (λ (x : List (List ℕ)). added b (built x)) (sym e)

-- a reader that asks for nothing stopped
pub asks_nothing : {Y : Type 0} (stopped : Stop) (read : Result Y Fault) (xs : List (List ℕ)) (b n : Told) → n ≡ b → ((e : Fault) → read ≡ Err e → xs ≡ []) → Fails stopped read → AsksStopped stopped (λ _. xs) b n
asks_nothing stop.Memory read xs b n h none f = begins_nothing xs b n h
asks_nothing (stop.Bad left) read xs b n h none f = built_nothing xs b n (none _ f) h
asks_nothing (stop.Unknown left) read xs b n h none f = built_nothing xs b n (none _ f) h
asks_nothing (stop.Pattern left fault) read xs b n h none f = absurd f

-- a reader stopped behind what was asked for
pub asks_built : {Y : Type 0} (stopped : Stop) (read : Result Y Fault) (xs : List (List ℕ)) (b n : Told) → n ≡ added b (built xs) → Fails stopped read → AsksStopped stopped (λ _. xs) b n
asks_built stop.Memory read xs b n h f = begins_built xs b n h
asks_built (stop.Bad left) read xs b n h f = h
asks_built (stop.Unknown left) read xs b n h f = h
asks_built (stop.Pattern left fault) read xs b n h f = absurd f

-- a reader stopped as the one that it called, which asks for the same
pub asks_same : (stopped : Stop) (xs ys : List (List ℕ)) (b n : Told) → xs ≡ ys → AsksStopped stopped (λ _. ys) b n → AsksStopped stopped (λ _. xs) b n
asks_same stop.Memory xs ys b n e h = subst (λ (x : List (List ℕ)). Begins x b n) (sym e) h
asks_same (stop.Bad left) xs ys b n e h = h ∙ ap (λ (x : List (List ℕ)). added b (built x)) (sym e)
asks_same (stop.Unknown left) xs ys b n e h = h ∙ ap (λ (x : List (List ℕ)). added b (built x)) (sym e)
asks_same (stop.Pattern left fault) xs ys b n e h = subst (λ (x : List (List ℕ)). EndsRefused x b n) (sym e) h

-- the one pattern was refused
pub asks_refused : (xs : List (List ℕ)) (t : List ℕ) (b n : Told) → xs ≡ t ∷ [] → n ≡ added b (refused_one t ∷ []) → EndsRefused xs b n
asks_refused xs t b n e h = ([], t, e, h)
