-- Messages packed behind each other.
use Rattle.std.proofs.Common.{◌≡◌, ℕ, List, [], ◌∷◌, ◌++◌, length, map, Option, None, Some, Ok, Err, refl, sym, ap, ◌∙◌}
use Rattle.std.specs.Prelude.{nat_le, Result}
use Rattle.std.proofs.lemmas.List.{map-append}
use Rattle.eip_exchange.specs.declared.message.Message.{Message}
use Rattle.eip_resequence.specs.declared.packed.Packed.{Packed}
use Rattle.eip_resequence.specs.Packing.{pack_text, IsPacked}
use Rattle.eip_resequence.specs.Unpacking.{messages_in}
use Rattle.eip_resequence.proofs.Again.{messages_in-packed}
use Rattle.eip_exchange.specs.Pairs.{Pairs}
use Rattle.eip_strategy.specs.declared.fault.StrategyFault.{StrategyFault}
use Rattle.eip_strategy.specs.Answers.{Answer, Says, checked, bounded}
use Rattle.eip_strategy.specs.Batches.{packed_of, before, text_behind, packed_behind, added_packed, IsBatch, IsPackedOf}
use Rattle.eip_strategy.proofs.Bounded.{bodied, bounded_by}
use Rattle.eip_strategy.proofs.Checked.{checked_is}

-- a batch of none
pub empty_batch : (b : List ℕ) (hs ps : Pairs) (old : Option Message) → b ≡ 91 ∷ 93 ∷ [] → hs ≡ [] → ps ≡ [] → old ≡ None
    → ◌≡◌ {A = Message} (record { body = b; headers = hs; properties = ps }) (before old)
unfolding pack_text
empty_batch b hs ps old e f g n = rw (e, f, g, n) refl

-- ---- one message more

-- within the limit of a batch
pub packed_as : (o : Option Message) (old new : Message) (a : Answer (List ℕ)) → old ≡ before o → bounded 16777216 (Ok (text_behind old.body new)) ≡ a → added_packed o new ≡ bodied old a
unfolding added_packed
packed_as o old new a e h =
    ap (λ (m : Message). checked 16777216 (packed_behind m new)) (sym e)
    ∙ bounded_by (nat_le (length (text_behind old.body new)) 16777216) old (text_behind old.body new)
    ∙ ap (bodied old) h

pub says_packed : {X : Type 0} (o : Option Message) (old new : Message) (res : Result X StrategyFault) (body : List ℕ) → old ≡ before o
    → Says (λ (_ : X). body) res (bounded 16777216 (Ok (text_behind old.body new))) → Says (λ (_ : X). record old { body = body }) res (added_packed o new)
says_packed o old new (Ok x) body e h = packed_as o old new (Ok body) e h
says_packed o old new (Err f) body e h = λ apart. packed_as o old new (Err f) e (h apart)

-- a batch is packed of a list, also where it is one of none
pub batch_packed : (o : Option Message) → IsBatch o → IsPacked (before o).body
batch_packed None h = ([], refl)
batch_packed (Some old) h = h

-- ---- what a batch holds

-- what was packed behind another is within the limit
body_is : (old : Option Message) (new m : Message) → added_packed old new ≡ Ok m → m.body ≡ pack_text (messages_in (before old).body ++ packed_of new ∷ [])
unfolding added_packed
body_is old new m h =
    let grown = packed_behind (before old) new in
    let same : grown ≡ m = checked_is (nat_le (length grown.body) 16777216) 16777216 grown m refl h in
    ap (λ (k : Message). k.body) (sym same)

-- it is packed of a list
pub still_packed : (old : Option Message) (new m : Message) → added_packed old new ≡ Ok m → IsPacked m.body
still_packed old new m h = (messages_in (before old).body ++ packed_of new ∷ [], body_is old new m h)

pub batch_begins : (new m : Message) → added_packed None new ≡ Ok m → IsPackedOf m.body (new ∷ [])
batch_begins new m h =
    body_is None new m h ∙ ap (λ (ps : List Packed). pack_text (ps ++ packed_of new ∷ [])) (messages_in-packed (pack_text []) [] refl)

pub batch_grows : (arrivals : List Message) (old new m : Message) → IsPackedOf old.body arrivals → added_packed (Some old) new ≡ Ok m → IsPackedOf m.body (arrivals ++ new ∷ [])
batch_grows arrivals old new m packed h =
    body_is (Some old) new m h
    ∙ ap (λ (ps : List Packed). pack_text (ps ++ packed_of new ∷ [])) (messages_in-packed old.body (map packed_of arrivals) packed)
    ∙ ap pack_text (sym (map-append packed_of arrivals (new ∷ [])))
