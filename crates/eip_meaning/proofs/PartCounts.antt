-- No message is cut into more than 10,000 parts, and no text lists more endpoints.
use Rattle.std.proofs.Common.{◌≡◌, ℕ, suc, ◌≤◌, Bool, true, false, cond, nat_le, List, [], ◌∷◌, length, Option, Some, None, Result, Ok, Err, refl, ap, arith}
use Rattle.std.specs.Prelude.{ltb, option_and_then}
use Rattle.std.proofs.lemmas.Bool.{leb-true}
use Rattle.eip_exchange.specs.declared.message.Message.{Message}
use Rattle.eip_exchange.specs.declared.setting.How.{How}
use Rattle.eip_exchange.specs.declared.setting.How.TheVariants as how
use Rattle.eip_uri.specs.declared.uri.Uri.{Uri}
use Rattle.eip_text.specs.Json.{json_read}
use Rattle.eip_pieces.specs.Pieces.{pieces}
use Rattle.eip_resequence.specs.Unpacking.{unpacked}
use Rattle.eip_splitter.specs.declared.fault.SplitFault.{SplitFault}
use Rattle.eip_splitter.specs.declared.fault.SplitFault.TheVariants as split_fault
use Rattle.eip_splitter.specs.Parts.{within_limit, parts_of, parts_from, token_bodies, array_bodies}
use Rattle.eip_splitter.specs.Batches.{batch_parts, placed_all, placed_from, messages_of, in_key_order}
use Rattle.eip_splitter.specs.Splitting.{parts}
use Rattle.eip_router.specs.declared.fault.RecipientFault.{RecipientFault}
use Rattle.eip_router.specs.declared.fault.RecipientFault.TheVariants as recipient_fault
use Rattle.eip_router.specs.Recipients.{recipients, recipient, read_within_limit, read_from, before, items_of}
use Rattle.eip_meaning.specs.FanOuts.{cut, can_cut, listed}

-- at most so many
abbrev FewIn : {A E : Type 0} → Result (List A) E → Type 0
FewIn (Ok xs) = length xs ≤ 10000
FewIn (Err e) = Unit {0}

pub few-of : {A E : Type 0} (r : Result (List A) E) (xs : List A) → FewIn r → r ≡ Ok xs → length xs ≤ 10000
few-of (Ok ys) xs h e = let same : ys ≡ xs = cc in rw same at h
few-of (Err f) xs h e = absurd (cc e)

limited : {A : Type 0} (ps : List A) (b : Bool) (f : SplitFault) → nat_le (length ps) 10000 ≡ b → FewIn (cond b (Ok ps) (Err f))
limited ps true f h = leb-true (length ps) 10000 h
limited ps false f h = tt

within-few : {A : Type 0} (o : Option (List A)) → FewIn (within_limit o)
within-few None = tt
within-few (Some ps) = limited ps (nat_le (length ps) 10000) (split_fault.TooManyParts (length ps)) refl

from-many : (m : Message) (n k : ℕ) (bs : List (List ℕ)) → length (parts_from m n k bs) ≡ length bs
from-many m n k [] = refl
from-many m n k (b ∷ bs) = ap suc (from-many m n (suc k) bs)

of-few : (m : Message) (r : Result (List (List ℕ)) SplitFault) → FewIn r → FewIn (parts_of m r)
of-few m (Ok bs) h = rw (from-many m (length bs) 0 bs) h
of-few m (Err e) h = tt

placed-many : (n k : ℕ) (ms : List Message) → length (placed_from n k ms) ≡ length ms
placed-many n k [] = refl
placed-many n k (m ∷ ms) = ap suc (placed-many n (suc k) ms)

placed-few : (r : Result (List Message) SplitFault) → FewIn r → FewIn (placed_all r)
placed-few (Ok ms) h = rw (placed-many (length ms) 0 ms) h
placed-few (Err e) h = tt

parts-few : (h : How) (m : Message) → FewIn (parts h m)
unfolding parts batch_parts
parts-few (how.Token token) m = of-few m (within_limit (Some (token_bodies token m.body))) (within-few (Some (token_bodies token m.body)))
parts-few how.JsonArray m = of-few m (within_limit (array_bodies (json_read m.body))) (within-few (array_bodies (json_read m.body)))
parts-few (how.Batch k) m =
    let arrivals = option_and_then (λ ps. messages_of (in_key_order k ps)) (unpacked m.body) in
    placed-few (within_limit arrivals) (within-few arrivals)

cut-by : {A E : Type 0} (b : Bool) (r : Result (List A) E) → FewIn r → FewIn (cond b r (Ok []))
cut-by true r h = h
cut-by false r h = omega arith

pub cut-few : (h : How) (m : Message) (ms : List Message) → cut h m ≡ Ok ms → length ms ≤ 10000
cut-few h m ms e = few-of (cut h m) ms (cut-by (can_cut h) (parts h m) (parts-few h m)) e

-- ---- recipients

abbrev FewerIn : ℕ → Result (List Uri) RecipientFault → Type 0
FewerIn n (Ok us) = length us ≤ n
FewerIn n (Err e) = Unit {0}

before-few : (o : Option Uri) (place n : ℕ) (r : Result (List Uri) RecipientFault) → FewerIn n r → FewerIn (suc n) (before o place r)
before-few None place n r h = tt
before-few (Some u) place n (Ok us) h = omega (arith, h)
before-few (Some u) place n (Err e) h = tt

read-few : (place : ℕ) (items : List (List ℕ)) → FewerIn (length items) (read_from place items)
read-few place [] = omega arith
read-few place (item ∷ items) = before-few (recipient item) place (length items) (read_from (suc place) items) (read-few (suc place) items)

fewer : (n : ℕ) (r : Result (List Uri) RecipientFault) → n ≤ 10000 → FewerIn n r → FewIn r
fewer n (Ok us) l h = omega (arith, l, h)
fewer n (Err e) l h = tt

read-limited : (items : List (List ℕ)) (b : Bool) (f : RecipientFault) → nat_le (length items) 10000 ≡ b → FewIn (cond b (read_from 0 items) (Err f))
read-limited items true f h = fewer (length items) (read_from 0 items) (leb-true (length items) 10000 h) (read-few 0 items)
read-limited items false f h = tt

read-within : (items : List (List ℕ)) → FewIn (read_within_limit items)
read-within items = read-limited items (nat_le (length items) 10000) (recipient_fault.TooManyParts (length items)) refl

recipients-few : (delimiter value : List ℕ) → FewIn (recipients delimiter value)
unfolding recipients
recipients-few delimiter value = read-within (items_of (pieces delimiter value))

pub listed-few : (delimiter value : List ℕ) (us : List Uri) → listed delimiter value ≡ Ok us → length us ≤ 10000
listed-few delimiter value us e = few-of (listed delimiter value) us (cut-by (ltb 0 (length delimiter)) (recipients delimiter value) (recipients-few delimiter value)) e
