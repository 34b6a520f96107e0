-- A URI that is printed is read again: the parts that all forms share.
use Rattle.std.proofs.Common.{◌≡◌, ℕ, ◌^◌, ◌<◌, true, false, eqb, List, [], ◌∷◌, ◌++◌, map, Option, Some, None, Result, Ok, refl, sym, ap, subst, ◌∙◌, append_assoc, arith}
use Rattle.std.specs.Prelude.{codes, decimal, unwrap_or}
use Rattle.std.specs.Option.{is_none}
use Rattle.std.specs.List.{list_all}
use Rattle.std.specs.Char.{digit_value}
use Rattle.std.specs.Str.Parse.{AllDigits}
use Rattle.std.proofs.lemmas.Bool.{and_parts, ne_eqb, both_ways}
use Rattle.std.proofs.lemmas.List.{append-nil}
use Rattle.std.proofs.lemmas.Fmt.{decimal_is_IsNumeral}
use Rattle.eip_text.specs.Cuts.{behind, holds_byte, pieces}
use Rattle.eip_text.specs.Names.{is_name, is_name_byte}
use Rattle.eip_text.proofs.Cutting.{cut_again, cut_none_again, piece_again, one_piece, lacks_by, names_lack}
use Rattle.eip_uri.specs.declared.uri.Uri.{Uri}
use Rattle.eip_uri.specs.declared.scheme.Scheme.{Scheme}
use Rattle.eip_uri.specs.declared.fault.UriFault.{UriFault}
use Rattle.eip_uri.specs.Options.{Entry, entry, pair_entry, query_entries, first_fault, is_folder, is_folder_byte}
use Rattle.eip_uri.specs.Reading.{plain, unslashed, split_query, query_at, in_scheme, placed, settled, with_options}
use Rattle.eip_uri.specs.Printed.{Given, query}

-- ---- bytes that texts lack

pub lacks_both : (c : ℕ) (xs ys : List ℕ) → holds_byte c xs ≡ false → holds_byte c ys ≡ false → holds_byte c (xs ++ ys) ≡ false
lacks_both c [] ys h k = k
lacks_both c (x ∷ xs) ys h k =
    let p = lacks_by (eqb x c) c xs h in
    rw p.0 (lacks_both c xs ys p.1 k)

digits_lack : (c : ℕ) (ds : List ℕ) → (digit_value c < 10 → ⊥) → AllDigits 10 ds → holds_byte c ds ≡ false
digits_lack c [] n h = refl
digits_lack c (d ∷ ds) n h =
    let other : eqb d c ≡ false = ne_eqb d c (λ e. n (subst (λ (x : ℕ). digit_value x < 10) e h.0)) in
    rw (other, digits_lack c ds n h.1) refl

-- a number's text holds no byte that is no digit
pub decimal_lacks : (c n : ℕ) → (digit_value c < 10 → ⊥) → n < 2 ^ 32 → holds_byte c (decimal n) ≡ false
decimal_lacks c n other lt = digits_lack c (decimal n) other (decimal_is_IsNumeral n (omega arith)).0.1

pub name_lacks : (c : ℕ) (bs : List ℕ) → is_name_byte c ≡ false → is_name bs ≡ true → holds_byte c bs ≡ false
unfolding is_name
name_lacks c bs n h = names_lack c bs n (and_parts _ (list_all is_name_byte bs) h).1

bytes_lack : (bs : List ℕ) → list_all is_folder_byte bs ≡ true → holds_byte 63 bs ≡ false
bytes_lack [] h = refl
bytes_lack (b ∷ bs) h =
    let p = and_parts (is_folder_byte b) (list_all is_folder_byte bs) h in
    let other : eqb b 63 ≡ false = ne_eqb b 63 (λ e. both_ways (is_folder_byte 63) refl (subst (λ (x : ℕ). is_folder_byte x ≡ true) e p.0)) in
    rw (other, bytes_lack bs p.1) refl

-- a folder holds no `?`
pub folder_lacks : (bs : List ℕ) → is_folder bs ≡ true → holds_byte 63 bs ≡ false
unfolding is_folder
folder_lacks bs h = bytes_lack bs (and_parts (list_all is_folder_byte bs) _ (and_parts _ _ h).1).0

-- ---- slashes

-- a text without a slash begins with none
pub slash_free : (bs : List ℕ) → holds_byte 47 bs ≡ false → is_none (behind (codes "//") bs) ≡ true
slash_free [] h = refl
slash_free (b ∷ bs) h =
    let p = lacks_by (eqb b 47) 47 bs h in
    rw p.0 refl

kept : (o : Option (List ℕ)) (bs : List ℕ) → is_none o ≡ true → unwrap_or o bs ≡ bs
kept None bs h = refl
kept (Some x) bs h = absurd cc

-- ---- the query

abbrev pub body : Given → List ℕ
body o = o.0 ++ (61 ∷ o.1)

-- an option that is cut where it was joined
pub record IsClean (o : Given) : Type 0 where
  pub name : holds_byte 61 o.0 ≡ false
  pub whole : holds_byte 38 (body o) ≡ false

abbrev pub AreClean : List Given → Type 0
AreClean [] = Unit {0}
AreClean (o ∷ os) = IsClean o × AreClean os

entry_again : (o : Given) → IsClean o → entry (body o) ≡ pair_entry o
entry_again o c = rw (cut_again 61 o.0 o.1 c.name) refl

-- what stands behind the mark of the first option
abbrev behind_mark : Given → List Given → List ℕ
behind_mark o os = body o ++ query 38 os

query_is : (mark : ℕ) (o : Given) (os : List Given) → query mark (o ∷ os) ≡ mark ∷ behind_mark o os
query_is mark o os = simp append_assoc

pieces_again : (o : Given) (os : List Given) → IsClean o → AreClean os → map entry (pieces 38 (behind_mark o os)) ≡ map pair_entry (o ∷ os)
pieces_again o [] c a =
    ap (λ (t : List ℕ). map entry (pieces 38 t)) (append-nil (body o)) ∙ ap (map entry) (one_piece 38 (body o) c.whole)
    ∙ ap (λ (e : Entry). e ∷ []) (entry_again o c)
pieces_again o (q ∷ os) c a =
    ap (λ (t : List ℕ). map entry (pieces 38 (body o ++ t))) (query_is 38 q os)
    ∙ ap (map entry) (piece_again 38 (body o) (behind_mark q os) c.whole)
    ∙ ap (λ (e : Entry). e ∷ map entry (pieces 38 (behind_mark q os))) (entry_again o c)
    ∙ ap (λ (es : List Entry). pair_entry o ∷ es) (pieces_again q os a.0 a.1)

-- the text before the query, and the query's options
abbrev pub both : List ℕ × Option (List ℕ) → List ℕ × List Entry
both p = (p.0, query_entries p.1)

split_again : (front : List ℕ) (os : List Given) → holds_byte 63 front ≡ false → AreClean os → both (split_query (front ++ query 63 os)) ≡ (front, map pair_entry os)
split_again front [] h a =
    ap (λ (t : List ℕ). both (split_query t)) (append-nil front) ∙ ap (λ (o : Option (List ℕ × List ℕ)). both (query_at front o)) (cut_none_again 63 front h)
split_again front (o ∷ os) h a =
    ap (λ (t : List ℕ). both (split_query (front ++ t))) (query_is 63 o os)
    ∙ ap (λ (p : Option (List ℕ × List ℕ)). both (query_at (front ++ (63 ∷ behind_mark o os)) p)) (cut_again 63 front (behind_mark o os) h)
    ∙ ap (λ (es : List Entry). (front, es)) (pieces_again o os a.0 a.1)

-- a printed URI is read again where its parts are
pub form_again : (at : ℕ) (s : Scheme) (front : List ℕ) (os : List Given) (bare u : Uri) → holds_byte 63 front ≡ false → is_none (behind (codes "//") front) ≡ true → AreClean os
    → plain s front ≡ Some bare → first_fault s [] (map pair_entry os) ≡ None → with_options bare (map pair_entry os) ≡ Ok u
    → in_scheme at (Some s) (split_query (front ++ query 63 os)) [] ≡ Ok u
form_again at s front os bare u h k a p f w =
    let whole : List ℕ × List Entry → Result Uri UriFault = λ x. placed at s (plain s (unslashed x.0)) (x.1 ++ []) in
    ap whole (split_again front os h a)
    ∙ ap (λ (t : List ℕ). placed at s (plain s t) (map pair_entry os ++ [])) (kept (behind (codes "//") front) front k)
    ∙ ap (λ (es : List Entry). placed at s (plain s front) es) (append-nil (map pair_entry os))
    ∙ ap (λ (o : Option Uri). placed at s o (map pair_entry os)) p
    ∙ ap (λ (o : Option UriFault). settled bare o (map pair_entry os)) f ∙ w

-- the same of one without options
pub bare_again : (at : ℕ) (s : Scheme) (front : List ℕ) (u : Uri) → holds_byte 63 front ≡ false → is_none (behind (codes "//") front) ≡ true → plain s front ≡ Some u → with_options u [] ≡ Ok u
    → in_scheme at (Some s) (split_query front) [] ≡ Ok u
bare_again at s front u h k p w = ap (λ (t : List ℕ). in_scheme at (Some s) (split_query t) []) (sym (append-nil front)) ∙ form_again at s front [] u u h k tt p refl w
