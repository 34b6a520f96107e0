-- Options that are printed one by one.
use Rattle.std.proofs.Common.{◌≡◌, ◌∙◌, ap, ℕ, Bool, true, false, eqb, not, List, [], ◌∷◌, ◌++◌, Option, Some, None, refl}
use Rattle.std.specs.Prelude.{codes, decimal, bytes_eq}
use Rattle.std.proofs.lemmas.List.{append-nil}
use Rattle.eip_uri.specs.declared.uri.After.{After}
use Rattle.eip_uri.specs.declared.uri.After.TheVariants as after
use Rattle.eip_uri.specs.declared.uri.Exist.{Exist}
use Rattle.eip_uri.specs.Printed.{Given, query, where_not, exist_word, is_override, failed_options, file_options, seda_options}
use Rattle.eip_uri.specs.Showing.{valued, unless, delete_shown, noop_shown, move_shown, exist_shown}

-- an option that isn't printed at its default value
where_valued : (t : Bool) (n v : List ℕ) → valued n (unless t v) ≡ where_not t n v
where_valued true n v = refl
where_valued false n v = refl

-- the text of `seda:` with its options, which are printed of these values
pub seda_text : (out name size_text consumers_text : List ℕ) (shown_consumers shown_discard shown_size : Option (List ℕ)) (size consumers : ℕ) (discard : Bool) → out ≡ codes "seda:" ++ name
    → consumers_text ≡ decimal consumers → size_text ≡ decimal size
    → shown_consumers ≡ unless (eqb consumers 1) consumers_text → shown_discard ≡ unless (not discard) (codes "true") → shown_size ≡ unless (eqb size 1000) size_text
    → out ++ query 63 (valued (codes "concurrentConsumers") shown_consumers ++ (valued (codes "discardWhenFull") shown_discard ++ (valued (codes "size") shown_size ++ [])))
    ≡ codes "seda:" ++ (name ++ query 63 (seda_options size consumers discard))
seda_text out name size_text consumers_text a b d size consumers discard is c s e f g =
    let options : valued (codes "concurrentConsumers") a ++ (valued (codes "discardWhenFull") b ++ (valued (codes "size") d ++ [])) ≡ seda_options size consumers discard =
    rw (e, f, g, c, s, append-nil) (simp (where_valued)) in
    rw (is, options) refl

failed_valued : (f : Option (List ℕ)) → valued (codes "moveFailed") f ≡ failed_options f
failed_valued None = refl
failed_valued (Some folder) = refl

-- the options of `file:`, as they are listed
file_valued : (a : After) (f : Option (List ℕ)) (e : Exist)
    → valued (codes "delete") (delete_shown a) ++ (valued (codes "fileExist") (exist_shown e) ++ (valued (codes "move") (move_shown a) ++ (valued (codes "moveFailed") f ++ (valued (codes "noop") (noop_shown a) ++ [])))) ≡ file_options a f e
file_valued after.Delete f e =
    ap (λ (xs : List Given). (codes "delete", codes "true") ∷ (xs ++ (valued (codes "moveFailed") f ++ []))) (where_valued (is_override e) (codes "fileExist") (exist_word e))
    ∙ ap (λ (xs : List Given). (codes "delete", codes "true") ∷ (where_not (is_override e) (codes "fileExist") (exist_word e) ++ xs)) (append-nil (valued (codes "moveFailed") f) ∙ failed_valued f)
file_valued after.Noop f e =
    ap (λ (xs : List Given). xs ++ (valued (codes "moveFailed") f ++ (codes "noop", codes "true") ∷ [])) (where_valued (is_override e) (codes "fileExist") (exist_word e))
    ∙ ap (λ (xs : List Given). where_not (is_override e) (codes "fileExist") (exist_word e) ++ (xs ++ (codes "noop", codes "true") ∷ [])) (failed_valued f)
file_valued (after.Move folder) f e =
    ap (λ (xs : List Given). xs ++ (valued (codes "move") (move_shown (after.Move folder)) ++ (valued (codes "moveFailed") f ++ []))) (where_valued (is_override e) (codes "fileExist") (exist_word e))
    ∙ ap (λ (xs : List Given). where_not (is_override e) (codes "fileExist") (exist_word e) ++ (xs ++ (valued (codes "moveFailed") f ++ []))) (where_valued (bytes_eq folder (codes ".camel")) (codes "move") folder)
    ∙ ap (λ (xs : List Given). where_not (is_override e) (codes "fileExist") (exist_word e) ++ (where_not (bytes_eq folder (codes ".camel")) (codes "move") folder ++ xs)) (append-nil (valued (codes "moveFailed") f) ∙ failed_valued f)

-- the text of `file:` with its options, which are printed of these values
pub file_text : (out folder : List ℕ) (a : After) (f : Option (List ℕ)) (e : Exist) (shown_delete shown_exist shown_move shown_failed shown_noop : Option (List ℕ)) → out ≡ codes "file:" ++ folder
    → shown_delete ≡ delete_shown a → shown_exist ≡ exist_shown e → shown_move ≡ move_shown a → shown_failed ≡ f → shown_noop ≡ noop_shown a
    → out ++ query 63 (valued (codes "delete") shown_delete ++ (valued (codes "fileExist") shown_exist ++ (valued (codes "move") shown_move ++ (valued (codes "moveFailed") shown_failed ++ (valued (codes "noop") shown_noop ++ [])))))
    ≡ codes "file:" ++ (folder ++ query 63 (file_options a f e))
file_text out folder a f e d x m l n is g h i j k = rw (is, g, h, i, j, k, file_valued a f e) refl
