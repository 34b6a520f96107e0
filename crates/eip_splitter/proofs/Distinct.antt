-- Distinct names are new one by one.
use Rattle.std.proofs.Common.{◌≡◌, ℕ, ◌≤◌, Bool, true, false, cond, List, [], ◌∷◌, ◌++◌, Option, Some, refl, ◌∙◌}
use Rattle.std.specs.Option.{is_none}
use Rattle.std.specs.Prelude.{bytes_eq}
use Rattle.std.specs.List.{IsDistinct, AllByRecursion}
use Rattle.std.specs.Cmp.{on_equiv}
use Rattle.std.specs.Cmp.Lexicographic.{nat_list_eq_equiv}
use Rattle.std.proofs.lemmas.Bool.{le-leb}
use Rattle.eip_exchange.specs.Headers.{same_name, folded, counted}
use Rattle.eip_exchange.specs.Pairs.{Pairs, names, value_of}
use Rattle.eip_splitter.specs.Batches.{are_new, are_headers, are_properties}

module _ (same : List ℕ → List ℕ → Bool) (turned : (a b : List ℕ) → same a b ≡ same b a) where
  -- a name that isn't among these
  abbrev Lacks : Pairs → List ℕ → Type 0
  Lacks before name = is_none (value_of same name before) ≡ true

  lacks_by : (t : Bool) (q : List ℕ × List ℕ) (o n : Option (List ℕ)) → (is_none o ≡ true → is_none n ≡ true) → is_none (cond t (Some q.1) o) ≡ true → is_none (cond t (Some q.1) n) ≡ true
  lacks_by true q o n ih h = absurd (cc)
  lacks_by false q o n ih h = ih h

  lacks_more : (name : List ℕ) (before : Pairs) (p : List ℕ × List ℕ) → same name p.0 ≡ false → Lacks before name → Lacks (before ++ p ∷ []) name
  lacks_more name [] p d h = rw d refl
  lacks_more name (q ∷ qs) p d h = lacks_by (same name q.0) q (value_of same name qs) (value_of same name (qs ++ p ∷ [])) (lacks_more name qs p d) h

  all_more : (before : Pairs) (p : List ℕ × List ℕ) (ys : List (List ℕ)) → AllByRecursion (λ y. same p.0 y ≡ false) ys → AllByRecursion (Lacks before) ys → AllByRecursion (Lacks (before ++ p ∷ [])) ys
  all_more before p [] d h = h
  all_more before p (y ∷ ys) d h = (lacks_more y before p (turned y p.0 ∙ d.0) h.0, all_more before p ys d.1 h.1)

  new_from : (before ps : Pairs) → AllByRecursion (Lacks before) (names ps) → IsDistinct same (names ps) → are_new same before ps ≡ true
  unfolding IsDistinct
  new_from before [] h d = refl
  new_from before (p ∷ ps) h d = rw (h.0, new_from (before ++ p ∷ []) ps (all_more before p (names ps) d.0 h.1) d.1) refl

  none_before : (ys : List (List ℕ)) → AllByRecursion (Lacks []) ys
  none_before [] = tt
  none_before (y ∷ ys) = (refl, none_before ys)

  pub distinct_new : (ps : Pairs) → IsDistinct same (names ps) → are_new same [] ps ≡ true
  distinct_new ps d = new_from [] ps (none_before (names ps)) d

pub headers_held : (hs : Pairs) → IsDistinct same_name (names hs) → counted hs ≤ 64 → are_headers hs ≡ true
headers_held hs d le = rw (distinct_new same_name (on_equiv folded nat_list_eq_equiv).symm hs d, le-leb (counted hs) 64 le) refl

pub properties_held : (ps : Pairs) → IsDistinct bytes_eq (names ps) → are_properties ps ≡ true
properties_held ps d = distinct_new bytes_eq nat_list_eq_equiv.symm ps d
