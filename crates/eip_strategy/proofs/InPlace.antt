-- What is added to the messages so far where they stand.
use Rattle.std.proofs.Common.{◌≡◌, List, ℕ, length, Option, Some, Ok, Err, refl, sym, ap, ◌∙◌}
use Rattle.std.specs.Prelude.{nat_le, Result, OnOk}
use Rattle.eip_exchange.specs.declared.message.Message.{Message}
use Rattle.eip_exchange.specs.declared.setting.Strategy.{Strategy}
use Rattle.eip_exchange.specs.declared.setting.Strategy.TheVariants.{Original, Latest, Joined, Grouped, Sum, Batch}
use Rattle.eip_text.specs.Numbers.{whole_of}
use Rattle.eip_strategy.specs.declared.fault.StrategyFault.{StrategyFault}
use Rattle.eip_strategy.specs.Adding.{sum_of, in_decimal, with_body, kept, next_body, taken_in, added, IsReadyBody}
use Rattle.eip_strategy.specs.Answers.{Answer, Says}
use Rattle.eip_strategy.specs.Batches.{packed_behind, added_packed}
use Rattle.eip_strategy.proofs.Checked.{checked_is}
use Rattle.eip_strategy.proofs.Says.{ready_next}

-- the messages so far keep their headers and properties, but for the latest
pub kept_old : (s : Strategy) (old new : Message) → (s ≡ Latest → ⊥) → kept s old new ≡ old
kept_old Original old new h = refl
kept_old Latest old new h = absurd (h refl)
kept_old (Joined d) old new h = refl
kept_old Grouped old new h = refl
kept_old Sum old new h = refl
kept_old Batch old new h = refl

pub taken_old : (s : Strategy) (old new : Message) → (s ≡ Latest → ⊥) → taken_in s (Some old) new ≡ with_body old (next_body s old.body new.body)
taken_old s old new h = ap (λ (m : Message). with_body m (next_body s old.body new.body)) (kept_old s old new h)

-- all but a batch take the body alone in
added_taken : (s : Strategy) (o : Option Message) (new : Message) → (s ≡ Batch → ⊥) → added s o new ≡ taken_in s o new
unfolding added
added_taken Original o new h = refl
added_taken Latest o new h = refl
added_taken (Joined d) o new h = refl
added_taken Grouped o new h = refl
added_taken Sum o new h = refl
added_taken Batch o new h = absurd (h refl)

pub added_old : (s : Strategy) (old new : Message) → (s ≡ Batch → ⊥) → (s ≡ Latest → ⊥) → added s (Some old) new ≡ with_body old (next_body s old.body new.body)
added_old s old new b l = added_taken s (Some old) new b ∙ taken_old s old new l

pub added_batch : (s : Strategy) (o : Option Message) (new : Message) → s ≡ Batch → added s o new ≡ added_packed o new
unfolding added
added_batch s o new e = ap (λ (t : Strategy). added t o new) e

pub added_latest : (s : Strategy) (old new : Message) → s ≡ Latest → added s (Some old) new ≡ with_body new (Ok new.body)
unfolding added
added_latest s old new e = ap (λ (t : Strategy). added t (Some old) new) e

pub added_sum : (s : Strategy) (old new : Message) → s ≡ Sum → added s (Some old) new ≡ with_body old (in_decimal (sum_of (whole_of old.body) (whole_of new.body)))
unfolding added
added_sum s old new e = ap (λ (t : Strategy). added t (Some old) new) e

with_body_properties : (m n : Message) (r : Answer (List ℕ)) → with_body m r ≡ Ok n → n.properties ≡ m.properties
with_body_properties m n (Ok body) h =
    let same : record m { body = body } ≡ n = checked_is (nat_le (length body) 65536) 65536 (record m { body = body }) n refl h in
    ap (λ (k : Message). k.properties) (sym same)
with_body_properties m n (Err f) h = absurd (cc)

packed_properties : (old new m : Message) → added_packed (Some old) new ≡ Ok m → m.properties ≡ old.properties
unfolding added_packed
packed_properties old new m h =
    let grown = packed_behind old new in
    ap (λ (k : Message). k.properties) (sym (checked_is (nat_le (length grown.body) 16777216) 16777216 grown m refl h))

-- the properties are those of the message that is kept
pub added_properties : (s : Strategy) (old new m : Message) → added s (Some old) new ≡ Ok m → m.properties ≡ (kept s old new).properties
unfolding added
added_properties Original old new m h = with_body_properties old m (next_body Original old.body new.body) h
added_properties Latest old new m h = with_body_properties new m (next_body Latest old.body new.body) h
added_properties (Joined d) old new m h = with_body_properties old m (next_body (Joined d) old.body new.body) h
added_properties Grouped old new m h = with_body_properties old m (next_body Grouped old.body new.body) h
added_properties Sum old new m h = with_body_properties old m (next_body Sum old.body new.body) h
added_properties Batch old new m h = packed_properties old new m h

pub says_ready : {X : Type 0} (s : Strategy) (old new m : Message) (res : Result X StrategyFault) → Says (λ (_ : X). m) res (added s (Some old) new) → OnOk res (IsReadyBody s m.body)
says_ready s old new m (Ok x) h = ready_next s old new m h
says_ready s old new m (Err f) h = tt
