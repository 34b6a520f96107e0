-- The elements of an array, and how many there are.
use Rattle.std.proofs.Common.{◌≡◌, ℕ, suc, false, List, [], ◌∷◌, length, Some, Ok, Err, refl, sym, ap, ◌∙◌}
use Rattle.eip_text.specs.Json.{items_json}
use Rattle.eip_text.specs.JsonText.{items_have_float}
use Rattle.eip_text.specs.declared.tree.Tree.{Tree}
use Rattle.eip_splitter.specs.declared.fault.SplitFault.{SplitFault}
use Rattle.eip_splitter.specs.Parts.{element_texts, elements_bodies, within_limit, count_within_limit}
use Rattle.eip_splitter.proofs.Faulty.{too_many, few}

texts_long : (ts : List Tree) → length (element_texts (items_json ts)) ≡ length ts
texts_long [] = refl
texts_long (t ∷ ts) = ap suc (texts_long ts)

module _ (ts : List Tree) (h : items_have_float (items_json ts) ≡ false) where
  whole : elements_bodies (items_json ts) ≡ Some (element_texts (items_json ts))
  whole = rw h refl

  pub too_many_elements : (e : SplitFault) → count_within_limit (length ts) ≡ Err e → within_limit (elements_bodies (items_json ts)) ≡ Err e
  too_many_elements e q = ap within_limit whole ∙ too_many (element_texts (items_json ts)) e (ap count_within_limit (texts_long ts) ∙ q)

  pub few_elements : (u : Unit {0}) (xs : List (List ℕ)) → count_within_limit (length ts) ≡ Ok u → xs ≡ element_texts (items_json ts) → within_limit (elements_bodies (items_json ts)) ≡ Ok xs
  few_elements u xs q e = ap within_limit whole ∙ few (element_texts (items_json ts)) u (ap count_within_limit (texts_long ts) ∙ q) ∙ ap Ok (sym e)
