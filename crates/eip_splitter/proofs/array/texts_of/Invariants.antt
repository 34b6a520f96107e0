use Rattle.std.proofs.Common.{◌≡◌, ◌++◌, drop, false}
use Rattle.eip_text.specs.Json.{items_json}
use Rattle.eip_text.specs.JsonText.{items_have_float}
use Rattle.eip_splitter.specs.Parts as spec
use Rattle.eip_splitter.proofs.array.texts_of.Given as goal

abbrev pub invariant-loop-element : goal.invariant-loop-element
invariant-loop-element l = record {
  whole : items_have_float (items_json (drop l.element-index l.elements)) ≡ false;
  so_far : l.texts.items ++ spec.element_texts (items_json (drop l.element-index l.elements)) ≡ spec.element_texts (items_json l.elements);
}
