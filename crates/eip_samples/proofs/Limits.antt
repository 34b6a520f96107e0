-- What a sample answers stays within the limits, and its faults have names as kinds.
use Rattle.std.proofs.Common.{ℕ, ◌≡◌, ◌≤◌, ◌==◌, Bool, true, false, cond, if◌then◌else◌, IsTrue, List, [], ◌∷◌, length, Option, Some, None, Result, Ok, Err, codes, refl, sym, subst, ◌∙◌, arith}
use Rattle.std.specs.Option.{option_map, option_map_or}
use Rattle.eip_text.specs.Cuts.{cut}
use Rattle.eip_text.specs.Names.{is_name}
use Rattle.eip_exchange.specs.declared.message.Message.{Message}
use Rattle.eip_exchange.specs.declared.end.Fault.{Fault}
use Rattle.eip_exchange.specs.Ends.{fault}
use Rattle.eip_exchange.specs.Pairs.{Pairs, put}
use Rattle.eip_exchange.specs.Headers.{same_name, is_one_too_many}
use Rattle.eip_exchange.specs.Limits.{IsShort, AreShort, IsWithinLimits}
use Rattle.eip_exchange.proofs.Counts.{counted-put_header}
use Rattle.eip_samples.specs.declared.sample.Sample.{Sample}
use Rattle.eip_samples.specs.declared.sample.Sample.TheVariants as sample
use Rattle.eip_samples.specs.Samples.{comma, field, field_of, with_field, answer_of}

-- a short value among short ones
short-put : (same : List ℕ → List ℕ → Bool) (name value : List ℕ) (ps : Pairs) → IsShort value → AreShort ps → AreShort (put same name value ps)
short-put same name value [] v h = (v, tt)
short-put same name value (p ∷ ps) v h =
    elim (same name p.0) as (λ b. AreShort (cond b ((p.0, value) ∷ ps) (p ∷ put same name value ps))) [
      | true ↦ (v, h.1)
      | false ↦ (h.0, short-put same name value ps v h.1)
    ]

-- one byte more in front of both
front-next :
    (b : ℕ) (o : Option (List ℕ × List ℕ)) (bs : List ℕ) → length (option_map_or (λ (p : List ℕ × List ℕ). p.0) o bs) ≤ length bs
    → length (option_map_or (λ (p : List ℕ × List ℕ). p.0) (option_map (λ (p : List ℕ × List ℕ). (b ∷ p.0, p.1)) o) (b ∷ bs)) ≤ length (b ∷ bs)
front-next b None bs h = omega arith
front-next b (Some p) bs h = omega (arith, h)

-- what stands before a mark is no longer than the whole
front-le : (c : ℕ) (bs : List ℕ) → length (option_map_or (λ (p : List ℕ × List ℕ). p.0) (cut c bs) bs) ≤ length bs
front-le c [] = omega arith
front-le c (b ∷ bs) =
    let At : Bool → Type 0 =
    λ t. length (option_map_or (λ (p : List ℕ × List ℕ). p.0) (if t then Some ([], bs) else option_map (λ (p : List ℕ × List ℕ). (b ∷ p.0, p.1)) (cut c bs)) (b ∷ bs)) ≤ length (b ∷ bs) in
    elim (b == c) as At [
      | true ↦ omega arith
      | false ↦ front-next b (cut c bs) bs (front-le c bs)
    ]

field-short : (body : List ℕ) → IsShort body → IsShort (field_of body)
field-short body h = omega (arith, h, front-le comma body)

field-within : (m : Message) → is_one_too_many field m.headers ≡ false → IsWithinLimits m → IsWithinLimits (with_field m)
field-within m room h = record {
  body = h.body;
  headers = short-put same_name field (field_of m.body) m.headers (field-short m.body h.body) h.headers;
  properties = h.properties;
  few = counted-put_header field (field_of m.body) m.headers room h.few;
}

field-answer :
    (m n : Message) (r : Result Message Fault) (many : Bool) → is_one_too_many field m.headers ≡ many → r ≡ Ok n
    → r ≡ cond many (Err (fault (codes "TooManyHeaders") field)) (Ok (with_field m)) → IsWithinLimits m → IsWithinLimits n
field-answer m n r true many is e h = absurd (cc (sym is ∙ e))
field-answer m n r false many is e h =
    let that : n ≡ with_field m = cc in
    subst (λ (x : Message). IsWithinLimits x) (sym that) (field-within m many h)

pub answer-within : (s : Sample) (m n : Message) (r : Result Message Fault) → r ≡ Ok n → r ≡ answer_of s m → IsWithinLimits m → IsWithinLimits n
answer-within sample.Keep m n r is e h =
    let that : n ≡ m = cc in
    subst (λ (x : Message). IsWithinLimits x) (sym that) h
answer-within sample.Field m n r is e h = field-answer m n r (is_one_too_many field m.headers) refl is e h
answer-within sample.Refuse m n r is e h = absurd (cc (sym is ∙ e))

-- a fault of a kind that is a name
named-as : (f g : Fault) (r : Result Message Fault) → r ≡ Err f → r ≡ Err g → IsTrue (is_name g.kind) → IsTrue (is_name f.kind)
named-as f g r is e h =
    let that : f ≡ g = cc in
    subst (λ (x : Fault). IsTrue (is_name x.kind)) (sym that) h

field-named :
    (m : Message) (f : Fault) (r : Result Message Fault) (many : Bool) → r ≡ Err f
    → r ≡ cond many (Err (fault (codes "TooManyHeaders") field)) (Ok (with_field m)) → IsTrue (is_name f.kind)
unfolding is_name
field-named m f r true is e = named-as f (fault (codes "TooManyHeaders") field) r is e refl
field-named m f r false is e = absurd (cc (sym is ∙ e))

pub answer-named : (s : Sample) (m : Message) (f : Fault) (r : Result Message Fault) → r ≡ Err f → r ≡ answer_of s m → IsTrue (is_name f.kind)
unfolding is_name
answer-named sample.Keep m f r is e = absurd (cc (sym is ∙ e))
answer-named sample.Field m f r is e = field-named m f r (is_one_too_many field m.headers) is e
answer-named sample.Refuse m f r is e = named-as f (fault (codes "Refused") m.body) r is e refl
