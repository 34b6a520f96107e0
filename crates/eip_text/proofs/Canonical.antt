-- What is read is canonical, and nests no deeper than its data.
use Rattle.std.proofs.Common.{ℕ, zero, suc, ◌^◌, ◌<◌, ◌≤◌, ◌≡◌, Bool, true, false, cond, drop, List, Option, Some, None, option_map, option_and_then, refl, sym, ap, ap₂, ◌∙◌, subst, arith, Ordering, Less, Equal, Greater, nat_cmp}
use Rattle.std.proofs.lemmas.Bool.Decides.{nat_tests}
use Rattle.std.proofs.lemmas.Cmp.{nat_list_cmp_total}
use Rattle.std.specs.Cmp.Lexicographic.{slice_cmp}
use Rattle.std.specs.Ordering.{ordering_reverse, match_ordering}
use Rattle.std.specs.Prelude.{max, ◌==◌, slice_index}
use Rattle.fast_float.specs.Text.{minus, scan, Parts, digits_of, with_sign}
use Rattle.json.specs.Json as parsed
use Rattle.json.specs.Lex.{tokens}
use Rattle.serde_json.specs.Data as given
use Rattle.serde_json.specs.Data.{put}
use Rattle.serde_json.specs.Read.{read, max_depth, of_json, of_items, of_members, number_of, number_from, float_of}
use Rattle.eip_text.specs.Json.{Json, json_of, json_items, json_members, number_json}
use Rattle.eip_text.specs.JsonText.{nesting, items_nesting, members_nesting, Above, Fits64, IsCanonical, ItemsAreCanonical, MembersAreCanonical}

-- ---- numbers

fits_below : (n : ℕ) → 0 < n → n ≤ 2 ^ 63 → Fits64 (with_sign true n)
fits_below zero some fits = absurd (omega arith)
fits_below (suc n) some fits = omega arith

chosen : {A : Type 0} (b : Bool) (x y : Option A) (a : A) (P : A → Type 0) → ((z : A) → b ≡ true → x ≡ Some z → P z) → ((z : A) → y ≡ Some z → P z) → cond b x y ≡ Some a → P a
chosen true x y a P first other e = first a refl e
chosen false x y a P first other e = other a e

abbrev IsKept : given.Num → Type 0
IsKept n = IsCanonical (number_json n)

some_is : {A : Type 0} (P : A → Type 0) (x y : A) → Some x ≡ Some y → P x → P y
some_is P x y e h = let same : x ≡ y = cc in subst P same h

float_kept : (sign : Bool) (p : Parts) (n : given.Num) → float_of sign p ≡ Some n → IsKept n
float_kept sign p n e = chosen _ _ None n IsKept (λ z yes is. some_is IsKept _ z is tt) (λ z is. absurd (cc)) e

number_kept : (sign : Bool) (p : Parts) (n : given.Num) → number_from sign p ≡ Some n → IsKept n
number_kept false p n e =
    chosen _ _ (float_of false p) n IsKept
    (λ z yes is. some_is IsKept _ z is (let small : digits_of p < 2 ^ 64 = grind (arith, nat_tests) in small))
    (float_kept false p) e
number_kept true p n e =
    chosen _ _ (float_of true p) n IsKept
    (λ z yes is. some_is IsKept _ z is (let some : 0 < digits_of p = grind (arith, nat_tests) in let fits : digits_of p ≤ 2 ^ 63 = grind (arith, nat_tests) in fits_below (digits_of p) some fits))
    (float_kept true p) e

number_of_kept : (s : List ℕ) (n : given.Num) → number_of s ≡ Some n → IsKept n
unfolding number_of
number_of_kept s n e =
    chosen (slice_index s 0 == minus) (number_from true (scan (drop 1 s))) (number_from false (scan s)) n IsKept
    (λ z minus_first is. number_kept true (scan (drop 1 s)) z is) (λ z is. number_kept false (scan s) z is) e

-- ---- keys

above_later : (k l : List ℕ) (ms : given.Members) → slice_cmp nat_cmp k l ≡ Less → Above l (json_members ms) → Above k (json_members ms)
above_later k l given.no_members less h = tt
above_later k l (given.member m e ms) less h = (nat_list_cmp_total.trans k l m less h.0, above_later k l ms less h.1)

above_put_at : (o : Ordering) (l k : List ℕ) (d : given.Data) (m : List ℕ) (e : given.Data) (ms : given.Members) → slice_cmp nat_cmp l k ≡ Less → Above l (json_members (given.member m e ms))
    → Above l (json_members (put k d ms)) → Above l (json_members (match_ordering o (given.member k d (given.member m e ms)) (given.member m d ms) (given.member m e (put k d ms))))
above_put_at Less l k d m e ms less h later = (less, h)
above_put_at Equal l k d m e ms less h later = h
above_put_at Greater l k d m e ms less h later = (h.0, later)

above_put : (l k : List ℕ) (d : given.Data) (ms : given.Members) → slice_cmp nat_cmp l k ≡ Less → Above l (json_members ms) → Above l (json_members (put k d ms))
above_put l k d given.no_members less h = (less, tt)
above_put l k d (given.member m e ms) less h = above_put_at (slice_cmp nat_cmp k m) l k d m e ms less h (above_put l k d ms less h.1)

put_canonical_at : (o : Ordering) (k : List ℕ) (d : given.Data) (l : List ℕ) (e : given.Data) (ms : given.Members) → slice_cmp nat_cmp k l ≡ o → IsCanonical (json_of d)
    → MembersAreCanonical (json_members (given.member l e ms)) → MembersAreCanonical (json_members (put k d ms))
    → MembersAreCanonical (json_members (match_ordering o (given.member k d (given.member l e ms)) (given.member l d ms) (given.member l e (put k d ms))))
put_canonical_at Less k d l e ms is here h later = ((is, above_later k l ms is h.0), (here, h))
put_canonical_at Equal k d l e ms is here h later = (h.0, (here, h.1.1))
put_canonical_at Greater k d l e ms is here h later =
    (above_put l k d ms (nat_list_cmp_total.antisymm l k ∙ ap ordering_reverse is) h.0, (h.1.0, later))

put_canonical : (k : List ℕ) (d : given.Data) (ms : given.Members) → IsCanonical (json_of d) → MembersAreCanonical (json_members ms) → MembersAreCanonical (json_members (put k d ms))
put_canonical k d given.no_members here h = (tt, (here, tt))
put_canonical k d (given.member l e ms) here h = put_canonical_at (slice_cmp nat_cmp k l) k d l e ms refl here h (put_canonical k d ms here h.1.1)

-- ---- values

mapped_some : {A B : Type 0} (f : A → B) (o : Option A) (b : B) → option_map f o ≡ Some b → (a : A) × ((o ≡ Some a) × (f a ≡ b))
mapped_some f None b e = absurd (cc)
mapped_some f (Some a) b e = (a, (refl, cc))

then_some : {A B : Type 0} (f : A → Option B) (o : Option A) (b : B) → option_and_then f o ≡ Some b → (a : A) × ((o ≡ Some a) × (f a ≡ Some b))
then_some f None b e = absurd (cc)
then_some f (Some a) b e = (a, (refl, e))

mutual
  canonical-of_json : (j : parsed.Json) (d : given.Data) → of_json j ≡ Some d → IsCanonical (json_of d)
  canonical-of_json parsed.null d e = some_is (λ x. IsCanonical (json_of x)) given.null d e tt
  canonical-of_json (parsed.boolean b) d e = some_is (λ x. IsCanonical (json_of x)) (given.boolean b) d e tt
  canonical-of_json (parsed.number s) d e =
      let m = mapped_some given.number (number_of s) d e in subst (λ x. IsCanonical (json_of x)) m.1.1 (number_of_kept s m.0 m.1.0)
  canonical-of_json (parsed.string s) d e = some_is (λ x. IsCanonical (json_of x)) (given.string s) d e tt
  canonical-of_json (parsed.array js) d e =
      let m = mapped_some given.array (of_items js) d e in subst (λ x. IsCanonical (json_of x)) m.1.1 (canonical-of_items js m.0 m.1.0)
  canonical-of_json (parsed.object ms) d e =
      let m = mapped_some given.object (of_members ms given.no_members) d e in subst (λ x. IsCanonical (json_of x)) m.1.1 (canonical-of_members ms given.no_members m.0 tt m.1.0)

  canonical-of_items : (js : parsed.Items) (ds : given.Items) → of_items js ≡ Some ds → ItemsAreCanonical (json_items ds)
  canonical-of_items parsed.no_items ds e = some_is (λ x. ItemsAreCanonical (json_items x)) given.no_items ds e tt
  canonical-of_items (parsed.item j js) ds e =
      let m = then_some (λ d. option_map (given.item d) (of_items js)) (of_json j) ds e in
      let n = mapped_some (given.item m.0) (of_items js) ds m.1.1 in
      subst (λ x. ItemsAreCanonical (json_items x)) n.1.1 (canonical-of_json j m.0 m.1.0, canonical-of_items js n.0 n.1.0)

  canonical-of_members : (ms : parsed.Members) (found ds : given.Members) → MembersAreCanonical (json_members found) → of_members ms found ≡ Some ds → MembersAreCanonical (json_members ds)
  canonical-of_members parsed.no_members found ds h e = some_is (λ x. MembersAreCanonical (json_members x)) found ds e h
  canonical-of_members (parsed.member k j ms) found ds h e =
      let m = then_some (λ d. of_members ms (put k d found)) (of_json j) ds e in
      canonical-of_members ms (put k m.0 found) ds (put_canonical k m.0 found (canonical-of_json j m.0 m.1.0) h) m.1.1

pub canonical-read : (bs : List ℕ) (d : given.Data) (j : Json) → read bs ≡ Some d → j ≡ json_of d → IsCanonical j
canonical-read bs d j e same =
    let m = then_some of_json (option_and_then (λ p. parsed.if_last p.0 p.1) (parsed.value max_depth (tokens bs))) d e in
    subst IsCanonical (sym same) (canonical-of_json m.0 d m.1.1)

number_nesting : (n : given.Num) → nesting (number_json n) ≡ 0
number_nesting (given.unsigned n) = refl
number_nesting (given.negative z) = refl
number_nesting (given.float x) = refl

mutual
  pub nesting-data : (d : given.Data) → nesting (json_of d) ≡ given.depth d
  nesting-data given.null = refl
  nesting-data (given.boolean b) = refl
  nesting-data (given.number n) = number_nesting n
  nesting-data (given.string s) = refl
  nesting-data (given.array ds) = ap suc (items_nesting-data ds)
  nesting-data (given.object ms) = ap suc (members_nesting-data ms)

  items_nesting-data : (ds : given.Items) → items_nesting (json_items ds) ≡ given.items_depth ds
  items_nesting-data given.no_items = refl
  items_nesting-data (given.item d ds) = ap₂ max (nesting-data d) (items_nesting-data ds)

  members_nesting-data : (ms : given.Members) → members_nesting (json_members ms) ≡ given.members_depth ms
  members_nesting-data given.no_members = refl
  members_nesting-data (given.member k d ms) = ap₂ max (nesting-data d) (members_nesting-data ms)
