-- A printed message is read again.
use Rattle.std.proofs.Common.{◌≡◌, ℕ, zero, suc, ◌+◌, ◌≤◌, Bool, true, false, not, cond, nat_le, ◌&&◌, List, [], ◌∷◌, ◌++◌, length, Some, refl, sym, ap, subst, ◌∙◌, append_assoc, arith}
use Rattle.std.specs.Prelude.{bytes_eq, is_none}
use Rattle.std.specs.List.{IsDistinct, AllByRecursion, flat_map}
use Rattle.std.specs.Str.{IsUtf8}
use Rattle.std.specs.Cmp.{IsEquivalence, on_equiv}
use Rattle.std.specs.Cmp.Lexicographic.{nat_list_eq_equiv}
use Rattle.std.proofs.lemmas.Bool.{and_right, lt-leb}
use Rattle.std.proofs.lemmas.List.{append-nil}
use Rattle.eip_exchange.specs.Pairs.{Pairs, names, put}
use Rattle.eip_exchange.specs.Headers.{same_name, folded, get_header, is_redelivery, counted, is_one_too_many}
use Rattle.eip_exchange.specs.declared.message.Message.{Message}
use Rattle.eip_exchange.specs.declared.end.End.{End}
use Rattle.eip_exchange.specs.declared.end.End.TheVariants as end
use Rattle.eip_exchange.specs.declared.end.Ended.{Ended}
use Rattle.eip_exchange.specs.declared.end.Fault.{Fault}
use Rattle.eip_dump.specs.Lines.{number, phrase, pair_text, pairs_text, message_text, fault_text, end_text, ended_text}
use Rattle.eip_dump.specs.Kept.{Fits64, AreTexts, IsMessage, IsFault, IsEnd, AreEnded}
use Rattle.eip_dump.specs.Reading.{pair_at, set_header, headers_from, headers_at, properties_from, properties_at, message_at, fault_at, end_at, ended_at, parts_from, parts_at}
use Rattle.eip_dump.proofs.AgainNumbers.{is_done, number_again}
use Rattle.eip_dump.proofs.AgainTexts.{phrase_again}

pair_again : (p : List ℕ × List ℕ) (rest : List ℕ) → IsUtf8 p.0 → IsUtf8 p.1 → pair_at (pair_text p ++ rest) ≡ Some (p, rest)
unfolding pair_at
pair_again p rest n v = rw (append_assoc (phrase p.0) (phrase p.1) rest, phrase_again p.0 (phrase p.1 ++ rest) n, phrase_again p.1 rest v) refl

-- ---- a name that is not there yet is set last

module _ (same : List ℕ → List ℕ → Bool) (laws : IsEquivalence same) where
  apart_at : (a : List ℕ) (p : List ℕ × List ℕ) (acc rest : Pairs) → AllByRecursion (λ k. same a k ≡ false) (names (acc ++ (p ∷ rest))) → same a p.0 ≡ false
  apart_at a p [] rest h = h.0
  apart_at a p (q ∷ acc) rest h = apart_at a p acc rest h.1

  put_last : (p : List ℕ × List ℕ) (acc rest : Pairs) → IsDistinct same (names (acc ++ (p ∷ rest))) → put same p.0 p.1 acc ≡ acc ++ p ∷ []
  unfolding IsDistinct
  put_last p [] rest d = refl
  put_last p (q ∷ acc) rest d =
      let apart : same p.0 q.0 ≡ false = laws.symm p.0 q.0 ∙ apart_at q.0 p acc rest d.0 in
      rw apart (ap (λ (ps : Pairs). q ∷ ps) (put_last p acc rest d.1))

-- what the limit counts of a front part and one header more
counted_front : (p : List ℕ × List ℕ) (acc rest : Pairs) → counted acc + cond (is_redelivery p.0) 0 1 ≤ counted (acc ++ (p ∷ rest))
counted_front p [] rest = elim (is_redelivery p.0) as (λ t. 0 + cond t 0 1 ≤ cond t (counted rest) (1 + counted rest)) [ true ↦ omega arith | false ↦ omega arith ]
counted_front p (q ∷ acc) rest =
    let h = counted_front p acc rest in
    elim (is_redelivery q.0) as (λ t. cond t (counted acc) (1 + counted acc) + cond (is_redelivery p.0) 0 1 ≤ cond t (counted (acc ++ (p ∷ rest))) (1 + counted (acc ++ (p ∷ rest)))) [
      | true ↦ h
      | false ↦ omega (arith, h)
    ]

allowed_by : (t : Bool) (p : List ℕ × List ℕ) (acc rest : Pairs) → is_redelivery p.0 ≡ t → counted (acc ++ (p ∷ rest)) ≤ 64 → is_one_too_many p.0 acc ≡ false
allowed_by true p acc rest h l = and_right (is_none (get_header p.0 acc)) (not (is_redelivery p.0) && nat_le 64 (counted acc)) (rw h refl)
allowed_by false p acc rest h l =
    let more : counted acc + 1 ≤ counted (acc ++ (p ∷ rest)) = subst (λ (t : Bool). counted acc + cond t 0 1 ≤ counted (acc ++ (p ∷ rest))) h (counted_front p acc rest) in
    let full : nat_le 64 (counted acc) ≡ false = lt-leb 64 (counted acc) (omega (arith, more, l)) in
    and_right (is_none (get_header p.0 acc)) (not (is_redelivery p.0) && nat_le 64 (counted acc)) (rw (h, full) refl)

set_again : (p : List ℕ × List ℕ) (acc rest : Pairs) → IsDistinct same_name (names (acc ++ (p ∷ rest))) → counted (acc ++ (p ∷ rest)) ≤ 64 → set_header p acc ≡ Some (acc ++ p ∷ [])
set_again p acc rest d l =
    rw (allowed_by (is_redelivery p.0) p acc rest refl l) (ap Some (put_last same_name (on_equiv folded nat_list_eq_equiv) p acc rest d))

headers_again : (n : ℕ) (acc hs : Pairs) (rest : List ℕ) → n ≡ length hs → AreTexts hs → IsDistinct same_name (names (acc ++ hs)) → counted (acc ++ hs) ≤ 64
    → headers_from n acc (flat_map pair_text hs ++ rest) ≡ Some (acc ++ hs, rest)
unfolding headers_from
headers_again zero acc [] rest n t d l = rw append-nil refl
headers_again (suc n) acc [] rest e t d l = absurd (omega (arith, e))
headers_again zero acc (p ∷ hs) rest e t d l = absurd (omega (arith, e))
headers_again (suc n) acc (p ∷ hs) rest e t d l =
    let more : Pairs = acc ++ p ∷ [] in
    let assoc : more ++ hs ≡ acc ++ (p ∷ hs) = append_assoc acc (p ∷ []) hs in
    let later = headers_again n more hs rest (omega (arith, e)) t.1 (subst (λ (ps : Pairs). IsDistinct same_name (names ps)) (sym assoc) d) (subst (λ (ps : Pairs). counted ps ≤ 64) (sym assoc) l) in
    rw (append_assoc (pair_text p) (flat_map pair_text hs) rest, pair_again p (flat_map pair_text hs ++ rest) t.0.0 t.0.1, set_again p acc hs d l) (later ∙ ap (λ (ps : Pairs). Some (ps, rest)) assoc)

properties_again : (n : ℕ) (acc ps : Pairs) (rest : List ℕ) → n ≡ length ps → AreTexts ps → IsDistinct bytes_eq (names (acc ++ ps)) → properties_from n acc (flat_map pair_text ps ++ rest) ≡ Some (acc ++ ps, rest)
unfolding properties_from
properties_again zero acc [] rest n t d = rw append-nil refl
properties_again (suc n) acc [] rest e t d = absurd (omega (arith, e))
properties_again zero acc (p ∷ ps) rest e t d = absurd (omega (arith, e))
properties_again (suc n) acc (p ∷ ps) rest e t d =
    let more : Pairs = acc ++ p ∷ [] in
    let assoc : more ++ ps ≡ acc ++ (p ∷ ps) = append_assoc acc (p ∷ []) ps in
    let later = properties_again n more ps rest (omega (arith, e)) t.1 (subst (λ (qs : Pairs). IsDistinct bytes_eq (names qs)) (sym assoc) d) in
    rw (append_assoc (pair_text p) (flat_map pair_text ps) rest, pair_again p (flat_map pair_text ps ++ rest) t.0.0 t.0.1, put_last bytes_eq nat_list_eq_equiv p acc ps d) (later ∙ ap (λ (qs : Pairs). Some (qs, rest)) assoc)

-- a list of fields, each with a space in front, begins with no digit
done_pairs : (ps : Pairs) (rest : List ℕ) → is_done rest ≡ true → is_done (flat_map pair_text ps ++ rest) ≡ true
done_pairs [] rest h = h
done_pairs (p ∷ ps) rest h = refl

headers_at_again : (hs : Pairs) (rest : List ℕ) → Fits64 (length hs) → AreTexts hs → IsDistinct same_name (names hs) → counted hs ≤ 64 → is_done rest ≡ true → headers_at (pairs_text hs ++ rest) ≡ Some (hs, rest)
unfolding headers_at
headers_at_again hs rest f t d l h =
    rw (append_assoc (number (length hs)) (flat_map pair_text hs) rest, number_again (length hs) (flat_map pair_text hs ++ rest) f (done_pairs hs rest h)) (headers_again (length hs) [] hs rest refl t d l)

properties_at_again : (ps : Pairs) (rest : List ℕ) → Fits64 (length ps) → AreTexts ps → IsDistinct bytes_eq (names ps) → is_done rest ≡ true → properties_at (pairs_text ps ++ rest) ≡ Some (ps, rest)
unfolding properties_at
properties_at_again ps rest f t d h =
    rw (append_assoc (number (length ps)) (flat_map pair_text ps) rest, number_again (length ps) (flat_map pair_text ps ++ rest) f (done_pairs ps rest h)) (properties_again (length ps) [] ps rest refl t d)

pub message_again : (m : Message) (rest : List ℕ) → IsMessage m → is_done rest ≡ true → message_at (message_text m ++ rest) ≡ Some (m, rest)
unfolding message_at
message_again m rest k h =
    rw (
      append_assoc (phrase m.body) (pairs_text m.headers ++ pairs_text m.properties) rest,
      append_assoc (pairs_text m.headers) (pairs_text m.properties) rest,
      phrase_again m.body (pairs_text m.headers ++ (pairs_text m.properties ++ rest)) k.body,
      headers_at_again m.headers (pairs_text m.properties ++ rest) k.header_count k.headers k.header_names k.few refl,
      properties_at_again m.properties rest k.property_count k.properties k.property_names h,
    )
    refl

pub fault_again : (f : Fault) (rest : List ℕ) → IsFault f → fault_at (fault_text f ++ rest) ≡ Some (f, rest)
unfolding fault_at
fault_again f rest k = rw (append_assoc (phrase f.kind) (phrase f.text) rest, phrase_again f.kind (phrase f.text ++ rest) k.kind, phrase_again f.text rest k.text) refl

end_again : (e : End) (rest : List ℕ) → IsEnd e → end_at (end_text e ++ rest) ≡ Some (e, rest)
unfolding end_at
end_again end.Completed rest k = refl
end_again end.Handled rest k = refl
end_again (end.Failed f) rest k = rw (fault_again f rest k) refl

ended_again : (e : Ended) (rest : List ℕ) → IsEnd e.end → IsMessage e.message → is_done rest ≡ true → ended_at (ended_text e ++ rest) ≡ Some (e, rest)
unfolding ended_at
ended_again e rest k m h = rw (append_assoc (end_text e.end) (message_text e.message) rest, end_again e.end (message_text e.message ++ rest) k, message_again e.message rest m h) refl

done_end : (e : End) (rest : List ℕ) → is_done (end_text e ++ rest) ≡ true
done_end end.Completed rest = refl
done_end end.Handled rest = refl
done_end (end.Failed f) rest = refl

done_parts : (es : List Ended) (rest : List ℕ) → is_done rest ≡ true → is_done (flat_map ended_text es ++ rest) ≡ true
done_parts [] rest h = h
done_parts (e ∷ es) rest h =
    rw (append_assoc (ended_text e) (flat_map ended_text es) rest, append_assoc (end_text e.end) (message_text e.message) (flat_map ended_text es ++ rest)) (done_end e.end (message_text e.message ++ (flat_map ended_text es ++ rest)))

parts_again : (n : ℕ) (acc es : List Ended) (rest : List ℕ) → n ≡ length es → AreEnded es → is_done rest ≡ true → parts_from n acc (flat_map ended_text es ++ rest) ≡ Some (acc ++ es, rest)
unfolding parts_from
parts_again zero acc [] rest n k h = rw append-nil refl
parts_again (suc n) acc [] rest e k h = absurd (omega (arith, e))
parts_again zero acc (x ∷ es) rest e k h = absurd (omega (arith, e))
parts_again (suc n) acc (x ∷ es) rest e k h =
    let more : List Ended = acc ++ x ∷ [] in
    let later = parts_again n more es rest (omega (arith, e)) k.1 h in
    rw (append_assoc (ended_text x) (flat_map ended_text es) rest, ended_again x (flat_map ended_text es ++ rest) k.0.0 k.0.1 (done_parts es rest h)) (later ∙ ap (λ (xs : List Ended). Some (xs, rest)) (append_assoc acc (x ∷ []) es))

pub parts_at_again : (es : List Ended) (rest : List ℕ) → Fits64 (length es) → AreEnded es → is_done rest ≡ true → parts_at ((number (length es) ++ flat_map ended_text es) ++ rest) ≡ Some (es, rest)
unfolding parts_at
parts_at_again es rest f k h =
    rw (append_assoc (number (length es)) (flat_map ended_text es) rest, number_again (length es) (flat_map ended_text es ++ rest) f (done_parts es rest h)) (parts_again (length es) [] es rest refl k h)
