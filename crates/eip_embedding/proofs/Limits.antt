-- What a seal answers stays within the limits, and its fault has a name as its kind.
use Rattle.std.proofs.Common.{ℕ, zero, suc, ◌≡◌, Bool, true, false, cond, IsTrue, List, [], ◌∷◌, length, Result, Ok, Err, codes, refl, sym, subst, ◌∙◌, arith}
use Rattle.sha2.proofs.Facts256.{length-sha256}
use Rattle.hex.specs.Hex.{lower_digits}
use Rattle.hex.proofs.HexLemmas.{length-encode_with}
use Rattle.eip_text.specs.Names.{is_name}
use Rattle.eip_exchange.specs.declared.message.Message.{Message}
use Rattle.eip_exchange.specs.declared.end.Fault.{Fault}
use Rattle.eip_exchange.specs.Ends.{fault}
use Rattle.eip_exchange.specs.Pairs.{Pairs, put}
use Rattle.eip_exchange.specs.Headers.{same_name, is_one_too_many}
use Rattle.eip_exchange.specs.Limits.{IsShort, AreShort, IsWithinLimits}
use Rattle.eip_exchange.proofs.Counts.{counted-put_header}
use Rattle.eip_embedding.specs.Seals.{digest_behind, seal, seal_of, with_seal, answer_of}

-- a digest has 32 bytes
digest-length : (rounds : ℕ) (body : List ℕ) → length (digest_behind rounds body) ≡ 32
digest-length zero body = length-sha256 body
digest-length (suc rounds) body = length-sha256 (digest_behind rounds body)

seal-short : (rounds : ℕ) (body : List ℕ) → IsShort (seal_of rounds body)
seal-short rounds body =
    let twice = length-encode_with lower_digits (digest_behind rounds body) in
    let bytes = digest-length rounds body in
    omega (arith, twice, bytes)

-- a short value among short ones
short-put : (name value : List ℕ) (ps : Pairs) → IsShort value → AreShort ps → AreShort (put same_name name value ps)
short-put name value [] v h = (v, tt)
short-put name value (p ∷ ps) v h =
    elim (same_name name p.0) as (λ b. AreShort (cond b ((p.0, value) ∷ ps) (p ∷ put same_name name value ps))) [
      | true ↦ (v, h.1)
      | false ↦ (h.0, short-put name value ps v h.1)
    ]

seal-within : (rounds : ℕ) (m : Message) → is_one_too_many seal m.headers ≡ false → IsWithinLimits m → IsWithinLimits (with_seal rounds m)
seal-within rounds m room h = record {
  body = h.body;
  headers = short-put seal (seal_of rounds m.body) m.headers (seal-short rounds m.body) h.headers;
  properties = h.properties;
  few = counted-put_header seal (seal_of rounds m.body) m.headers room h.few;
}

within-by :
    (rounds : ℕ) (m n : Message) (r : Result Message Fault) (many : Bool) → is_one_too_many seal m.headers ≡ many → r ≡ Ok n
    → r ≡ cond many (Err (fault (codes "TooManyHeaders") seal)) (Ok (with_seal rounds m)) → IsWithinLimits m → IsWithinLimits n
within-by rounds m n r true many is e h = absurd (cc (sym is ∙ e))
within-by rounds m n r false many is e h =
    let that : n ≡ with_seal rounds m = cc in
    subst (λ (x : Message). IsWithinLimits x) (sym that) (seal-within rounds m many h)

pub answer-within : (rounds : ℕ) (m n : Message) (r : Result Message Fault) → r ≡ Ok n → r ≡ answer_of rounds m → IsWithinLimits m → IsWithinLimits n
answer-within rounds m n r is e h = within-by rounds m n r (is_one_too_many seal m.headers) refl is e h

named-by :
    (rounds : ℕ) (m : Message) (f : Fault) (r : Result Message Fault) (many : Bool) → r ≡ Err f
    → r ≡ cond many (Err (fault (codes "TooManyHeaders") seal)) (Ok (with_seal rounds m)) → IsTrue (is_name f.kind)
unfolding is_name
named-by rounds m f r true is e =
    let that : f ≡ fault (codes "TooManyHeaders") seal = cc in
    subst (λ (x : Fault). IsTrue (is_name x.kind)) (sym that) refl
named-by rounds m f r false is e = absurd (cc (sym is ∙ e))

pub answer-named : (rounds : ℕ) (m : Message) (f : Fault) (r : Result Message Fault) → r ≡ Err f → r ≡ answer_of rounds m → IsTrue (is_name f.kind)
answer-named rounds m f r is e = named-by rounds m f r (is_one_too_many seal m.headers) is e
