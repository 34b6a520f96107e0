-- Laws of which names of a folder are those of files.
use Rattle.std.proofs.Common.{ℕ, ◌≡◌, ◌⊎◌, ⊎_elim, inl, inr, ◌||◌, bytes_eq, Bool, true, false, List, [], ◌∷◌, ◌++◌, Result, Ok, Err, IfOk, refl, sym, subst, ◌∙◌}
use Rattle.std.proofs.lemmas.List.Folds.{list_any-append}
use Rattle.std.proofs.lemmas.Slice.Eq.{bytes_eq-Decides}
use Rattle.std.specs.declared.io.Error.{Error}
use Rattle.eip_endpoint.specs.Files.{is_among}
use Rattle.eip_host.specs.Paths.{path_of}
use Rattle.eip_host.specs.Listings.{AreFiles}

-- no name is found and none kept
pub none-found : (tells : List ℕ → Result Bool Error → Type 0) (folder : List ℕ) → AreFiles tells folder [] []
none-found tells folder = record {
  files = λ name never. absurd (cc never);
  others = λ name never _. absurd (cc never);
}

or-right : (a r : Bool) → r ≡ true → (a || r) ≡ true
or-right true r h = refl
or-right false r h = h

or-left : (a r : Bool) → a ≡ true → (a || r) ≡ true
or-left true r h = refl
or-left false r h = absurd (cc h)

neither-left : (a r : Bool) → (a || r) ≡ false → a ≡ false
neither-left true r h = absurd (cc h)
neither-left false r h = refl

one-of : (a b : Bool) → (a || (b || false)) ≡ true → (a ≡ true) ⊎ (b ≡ true)
one-of true b h = inl refl
one-of false true h = inr refl
one-of false false h = absurd (cc h)

-- a name behind others is the last one or among these
among-cases : (name n : List ℕ) (xs : List (List ℕ)) → is_among name (xs ++ n ∷ []) ≡ true → (is_among name xs ≡ true) ⊎ (n ≡ name)
among-cases name n xs h =
    let split : (is_among name xs || (bytes_eq n name || false)) ≡ true = sym (list_any-append (λ k. bytes_eq k name) xs (n ∷ [])) ∙ h in
    ⊎_elim
    (λ (before : is_among name xs ≡ true). inl before)
    (λ (last : bytes_eq n name ≡ true). inr ((bytes_eq-Decides n name).0 last))
    (one-of (is_among name xs) (bytes_eq n name) split)

among-front : (name n : List ℕ) (xs : List (List ℕ)) → is_among name xs ≡ true → is_among name (xs ++ n ∷ []) ≡ true
among-front name n xs h = list_any-append (λ k. bytes_eq k name) xs (n ∷ []) ∙ or-left (is_among name xs) (bytes_eq n name || false) h

among-last : (n : List ℕ) (xs : List (List ℕ)) → is_among n (xs ++ n ∷ []) ≡ true
among-last n xs =
    let same : bytes_eq n n ≡ true = (bytes_eq-Decides n n).1 refl in
    list_any-append (λ k. bytes_eq k n) xs (n ∷ []) ∙ or-right (is_among n xs) (bytes_eq n n || false) (or-left (bytes_eq n n) false same)

absent-front : (name n : List ℕ) (xs : List (List ℕ)) → is_among name (xs ++ n ∷ []) ≡ false → is_among name xs ≡ false
absent-front name n xs h =
    neither-left (is_among name xs) (bytes_eq n name || false) (sym (list_any-append (λ k. bytes_eq k name) xs (n ∷ [])) ∙ h)

-- one more name is found, and is kept as that of a file
pub file-kept :
    (tells : List ℕ → Result Bool Error → Type 0) (folder n : List ℕ) (found kept : List (List ℕ)) → AreFiles tells folder found kept
    → tells (path_of folder n) (Ok true) → AreFiles tells folder (found ++ n ∷ []) (kept ++ n ∷ [])
file-kept tells folder n found kept all told = record {
  files = λ name h.
      ⊎_elim
      (λ (before : is_among name kept ≡ true). let was = all.files name before in (among-front name n found was.0, was.1))
      (λ (last : n ≡ name).
      subst (λ (m : List ℕ). (is_among m (found ++ n ∷ []) ≡ true) × tells (path_of folder m) (Ok true)) last (among-last n found, told))
      (among-cases name n kept h);
  others = λ name h absent.
      ⊎_elim
      (λ (before : is_among name found ≡ true). all.others name before (absent-front name n kept absent))
      (λ (last : n ≡ name).
      let there : is_among name (kept ++ n ∷ []) ≡ true = subst (λ (m : List ℕ). is_among m (kept ++ n ∷ []) ≡ true) last (among-last n kept) in
      absurd (cc (there, absent)))
      (among-cases name n found h);
}

-- or is left out
pub other-left-out :
    (tells : List ℕ → Result Bool Error → Type 0) (folder n : List ℕ) (found kept : List (List ℕ)) → AreFiles tells folder found kept
    → tells (path_of folder n) (Ok false) → AreFiles tells folder (found ++ n ∷ []) kept
other-left-out tells folder n found kept all told = record {
  files = λ name h. let was = all.files name h in (among-front name n found was.0, was.1);
  others = λ name h absent.
      ⊎_elim
      (λ (before : is_among name found ≡ true). all.others name before absent)
      (λ (last : n ≡ name). subst (λ (m : List ℕ). tells (path_of folder m) (Ok false)) last told)
      (among-cases name n found h);
}

-- names among which the same ones are, are those of the same files
pub same-files :
    (tells : List ℕ → Result Bool Error → Type 0) (folder : List ℕ) (found kept names : List (List ℕ)) → AreFiles tells folder found kept
    → ((name : List ℕ) → is_among name names ≡ is_among name kept) → AreFiles tells folder found names
same-files tells folder found kept names all same = record {
  files = λ name h. all.files name (sym (same name) ∙ h);
  others = λ name h absent. all.others name h (sym (same name) ∙ absent);
}

-- a fact on what is answered, by another one
pub ok-then : {T E : Type 0} {P Q : T → Type 0} (r : Result T E) → IfOk r P → ((x : T) → P x → Q x) → IfOk r Q
ok-then (Ok x) h f = f x h
ok-then (Err e) h f = tt
