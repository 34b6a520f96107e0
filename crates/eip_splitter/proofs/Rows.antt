-- Worked rows of the bodies of parts, and of the properties of a part.
use Rattle.std.proofs.Common.{◌≡◌, [], ◌∷◌, Some, None, refl}
use Rattle.std.specs.Prelude.{codes, pos}
use Rattle.eip_text.specs.Json.{null, whole, float, word, list, object, item, no_items, member, no_members}
use Rattle.std.specs.Fmt.{digits}
use Rattle.json.specs.Print.{escape_byte}
use Rattle.eip_splitter.specs.Parts.{token_bodies, array_bodies, marked}

row-commas : token_bodies (codes ",") (codes "a,b,c") ≡ codes "a" ∷ codes "b" ∷ codes "c" ∷ []
row-commas = refl

-- a last piece that is empty is left out, and only that one
row-empty_last : token_bodies (codes ",") (codes "a,,") ≡ codes "a" ∷ [] ∷ []
row-empty_last = refl

row-empty_body : token_bodies (codes ",") [] ≡ []
row-empty_body = refl

-- lines end with LF or with CR and LF
row-lines : token_bodies (10 ∷ []) (codes "a\r\nb\n\r") ≡ codes "a" ∷ codes "b" ∷ [] ∷ []
row-lines = refl

-- another token leaves a CR
row-carriage : token_bodies (codes ",") (codes "a\r,b") ≡ codes "a\r" ∷ codes "b" ∷ []
row-carriage = refl

row-elements : array_bodies (Some (list (item (whole (pos 1)) (item (word (codes "a")) (item (object (member (codes "a") (list no_items) (member (codes "b") (whole (pos 2)) no_members))) no_items)))))
    ≡ Some (codes "1" ∷ codes "a" ∷ codes "{\"a\":[],\"b\":2}" ∷ [])
unfolding digits escape_byte
row-elements = refl

row-float : array_bodies (Some (list (item (list (item float no_items)) no_items))) ≡ None
row-float = refl

row-no_array : array_bodies (Some null) ≡ None
row-no_array = refl

row-marked : marked 2 1 ((codes "p", codes "v") ∷ []) ≡ (codes "p", codes "v") ∷ (codes "CamelSplitIndex", codes "1") ∷ (codes "CamelSplitSize", codes "2") ∷ (codes "CamelSplitComplete", codes "true") ∷ []
unfolding marked digits
row-marked = refl

-- a part of a part keeps the places of the properties and gets new values
row-marked_again : marked 3 0 ((codes "CamelSplitSize", codes "2") ∷ []) ≡ (codes "CamelSplitSize", codes "3") ∷ (codes "CamelSplitIndex", codes "0") ∷ (codes "CamelSplitComplete", codes "false") ∷ []
unfolding marked digits
row-marked_again = refl
