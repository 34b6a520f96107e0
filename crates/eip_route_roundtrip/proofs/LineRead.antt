-- A line feed behind the text of a value adds no token: the line is read as the value.
use Rattle.std.proofs.Common.{◌≡◌, ◌≤◌, ℕ, ℤ, pos, negsuc, Bool, true, false, cond, ◌&&◌, List, [], ◌∷◌, ◌++◌, Some, refl, sym, subst, ap, ap₂, ◌∙◌, arith, append_assoc}
use Rattle.std.proofs.lemmas.Bool.{or_parts}
use Rattle.std.proofs.lemmas.Int.{ints}
use Rattle.std.specs.Fmt.{signed_decimal}
use Rattle.std.specs.Str.{IsUtf8}
use Rattle.json.specs.Lex.{Lexeme, token, comma, colon, string_token, lex, between, fresh, punctuate, tokens}
use Rattle.json.specs.Print.{escape, quoted, token_text, begins, ends, separator, print_from, print, IsNumber, IsPrintable, ArePrintable}
use Rattle.json.specs.Token.{Token, begin_object, end_object, begin_array, end_array, key, string, number, boolean, null, bad}
use Rattle.json.specs.Tree.{HasNumbers, ItemsHaveNumbers, MembersHaveNumbers}
use Rattle.json.specs.Word.{ends_word, word}
use Rattle.json.proofs.Printed.Numbers.{lex-number, in_word-ended}
use Rattle.json.proofs.Printed.Strings.{content-escape, lex-escape}
use Rattle.json.proofs.Printed.Tokens.{tokens-print}
use Rattle.json.proofs.Printed.Trees.{ArePrintable-json_tokens}
use Rattle.serde_json.specs.Written.{outline, items_outline, members_outline}
use Rattle.eip_text.specs.Json.{Json, Items, Members, json_read}
use Rattle.eip_text.specs.Json as tree
use Rattle.eip_text.specs.JsonText.{json_text, has_float, items_have_float, members_have_float, nesting, Fits64, IsCanonical, ItemsAreCanonical, MembersAreCanonical, data_of, items_data, members_data, value_tokens}
use Rattle.eip_text.proofs.Again.{print-value_tokens, json_read-written}
use Rattle.eip_text.proofs.Printing.{IsNumber-whole, number_text-whole}

line_feed : List ℕ
line_feed = 10 ∷ []

-- ---- what the lexer gives for a token

fronts : Token → List Lexeme
fronts begin_object = token begin_object ∷ []
fronts end_object = token end_object ∷ []
fronts begin_array = token begin_array ∷ []
fronts end_array = token end_array ∷ []
fronts (key s) = token (string s) ∷ colon ∷ []
fronts (string s) = token (string s) ∷ []
fronts (number s) = token (number s) ∷ []
fronts (boolean b) = token (boolean b) ∷ []
fronts null = token null ∷ []
fronts bad = []

lex_quoted : (s r : List ℕ) → lex between (quoted s ++ r) ≡ token (string s) ∷ lex between r
unfolding lex
lex_quoted s r =
    ap (λ l. lex between (34 ∷ l)) (append_assoc (escape s) (34 ∷ []) r) ∙ ap₂ (λ o l. token (string_token o) ∷ l) (content-escape s r) (lex-escape s r)

lex_front : (t : Token) (r : List ℕ) → IsPrintable t → (ends t ≡ true → ends_word r ≡ true) → lex between (token_text t ++ r) ≡ fronts t ++ lex between r
unfolding lex word fronts
lex_front begin_object r h ended = refl
lex_front end_object r h ended = refl
lex_front begin_array r h ended = refl
lex_front end_array r h ended = refl
lex_front (key s) r h ended = ap (lex between) (append_assoc (quoted s) (58 ∷ []) r) ∙ lex_quoted s (58 ∷ r)
lex_front (string s) r h ended = lex_quoted s r
lex_front (number s) r h ended = lex-number s r h (ended refl)
lex_front (boolean true) r h ended = ap₂ (λ b l. token (cond b (boolean true) bad) ∷ l) (ended refl) (in_word-ended r (ended refl))
lex_front (boolean false) r h ended = ap₂ (λ b l. token (cond b (boolean false) bad) ∷ l) (ended refl) (in_word-ended r (ended refl))
lex_front null r h ended = ap₂ (λ b l. token (cond b null bad) ∷ l) (ended refl) (in_word-ended r (ended refl))
lex_front bad r h ended = absurd h

lex_separator : (b : Bool) (r : List ℕ) → lex between (cond b (44 ∷ []) [] ++ r) ≡ cond b (comma ∷ []) [] ++ lex between r
unfolding lex
lex_separator true r = refl
lex_separator false r = refl

-- ---- the line feed

-- behind a value stands a comma, a closing bracket or nothing
value_ends : (ts : List Token) → ends_word (print_from true ts) ≡ true
unfolding print_from
value_ends [] = refl
value_ends (begin_object ∷ ts) = refl
value_ends (end_object ∷ ts) = refl
value_ends (begin_array ∷ ts) = refl
value_ends (end_array ∷ ts) = refl
value_ends (key s ∷ ts) = refl
value_ends (string s ∷ ts) = refl
value_ends (number s ∷ ts) = refl
value_ends (boolean b ∷ ts) = refl
value_ends (null ∷ ts) = refl
value_ends (bad ∷ ts) = refl

line_ends : (r : List ℕ) → ends_word r ≡ true → ends_word (r ++ line_feed) ≡ true
unfolding line_feed
line_ends [] h = refl
line_ends (x ∷ r) h = h

lex_line : (c : Bool) (ts : List Token) → ArePrintable ts → lex between (print_from c ts ++ line_feed) ≡ lex between (print_from c ts)
unfolding lex print_from ArePrintable line_feed
lex_line c [] h = refl
lex_line c (t ∷ ts) h =
    let rest = print_from (ends t) ts in
    let ended : ends t ≡ true → ends_word rest ≡ true = λ e. ap (λ b. ends_word (print_from b ts)) e ∙ value_ends ts in
    let first = cond (c && begins t) (comma ∷ []) [] in
    ap (lex between) (append_assoc (separator c t) (token_text t ++ rest) line_feed ∙ ap (λ l. separator c t ++ l) (append_assoc (token_text t) rest line_feed))
    ∙ lex_separator (c && begins t) (token_text t ++ (rest ++ line_feed))
    ∙ ap (λ l. first ++ l)
    (lex_front t (rest ++ line_feed) h.0 (λ e. line_ends rest (ended e)) ∙ ap (λ l. fronts t ++ l) (lex_line (ends t) ts h.1) ∙ sym (lex_front t rest h.0 ended))
    ∙ sym (lex_separator (c && begins t) (token_text t ++ rest))

tokens_line : (ts : List Token) → ArePrintable ts → tokens (print ts ++ line_feed) ≡ ts
tokens_line ts h = ap (punctuate fresh) (lex_line false ts h) ∙ tokens-print ts h

-- ---- the numbers of a value

number_text : (z : ℤ) → Fits64 z → IsNumber (signed_decimal z)
number_text (pos n) h = IsNumber-whole (pos n) (omega (arith, ints))
number_text (negsuc n) h = IsNumber-whole (negsuc n) (omega (arith, ints))

mutual
  has_numbers : (j : Json) → IsCanonical j → has_float j ≡ false → HasNumbers (outline (data_of j))
  has_numbers tree.null h wholes = tt
  has_numbers (tree.flag b) h wholes = tt
  has_numbers (tree.whole z) h wholes = subst IsNumber (sym (number_text-whole z)) (number_text z h)
  has_numbers tree.float h wholes = absurd (cc)
  has_numbers (tree.word w) h wholes = tt
  has_numbers (tree.list js) h wholes = items_have_numbers js h wholes
  has_numbers (tree.object ms) h wholes = members_have_numbers ms h wholes

  items_have_numbers : (js : Items) → ItemsAreCanonical js → items_have_float js ≡ false → ItemsHaveNumbers (items_outline (items_data js))
  items_have_numbers tree.no_items h wholes = tt
  items_have_numbers (tree.item j js) h wholes =
      let p = or_parts (has_float j) _ wholes in
      (has_numbers j h.0 p.0, items_have_numbers js h.1 p.1)

  members_have_numbers : (ms : Members) → MembersAreCanonical ms → members_have_float ms ≡ false → MembersHaveNumbers (members_outline (members_data ms))
  members_have_numbers tree.no_members h wholes = tt
  members_have_numbers (tree.member k j ms) h wholes =
      let p = or_parts (has_float j) _ wholes in
      (has_numbers j h.1.0 p.0, members_have_numbers ms h.1.1 p.1)

-- ---- the line

tokens_of_line : (j : Json) → IsCanonical j → has_float j ≡ false → tokens (json_text j ++ line_feed) ≡ value_tokens j
tokens_of_line j canonical wholes =
    ap (λ s. tokens (s ++ line_feed)) (sym (print-value_tokens j)) ∙ tokens_line (value_tokens j) (ArePrintable-json_tokens (outline (data_of j)) (has_numbers j canonical wholes))

pub line_read : (j : Json) (text : List ℕ) → text ≡ json_text j ++ 10 ∷ [] → IsUtf8 text → IsCanonical j → has_float j ≡ false → nesting j ≤ 127 → json_read text ≡ Some j
unfolding line_feed
line_read j text e utf8 canonical wholes shallow =
    json_read-written j text (json_text j ++ 10 ∷ []) e (subst IsUtf8 e utf8) (tokens_of_line j canonical wholes) canonical wholes shallow
