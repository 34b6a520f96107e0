-- The messages of a batch as they are gathered one by one.
use Rattle.std.proofs.Common.{◌≡◌, ◌≢◌, ℕ, suc, Bool, true, false, cond, ◌&&◌, List, [], ◌∷◌, ◌++◌, length, Option, Some, None, Result, Ok, Err, refl, sym, ap, ◌∙◌, arith, append_assoc, append-nil, length-append}
use Rattle.std.specs.Option.{option_map, option_and_then}
use Rattle.eip_exchange.specs.declared.message.Message.{Message}
use Rattle.eip_exchange.specs.declared.setting.Key.{Key}
use Rattle.eip_resequence.specs.Packing.{pack_text}
use Rattle.eip_resequence.specs.Unpacking.{unpacked}
use Rattle.eip_resequence.specs.declared.packed.Packed.{Packed}
use Rattle.eip_resequence.proofs.Again.{only_packed}
use Rattle.eip_splitter.specs.declared.fault.SplitFault.{SplitFault}
use Rattle.eip_splitter.specs.declared.fault.SplitFault.TheVariants as fault
use Rattle.eip_splitter.specs.Faults.{IsFault}
use Rattle.eip_splitter.specs.Parts.{within_limit, count_within_limit}
use Rattle.eip_splitter.specs.Batches.{are_headers, are_properties, IsRefused, IsNone, message_of, messages_of, in_key_order, before, placed_one, placed_from, placed_all, batch_parts}
use Rattle.eip_splitter.proofs.Faulty.{too_many, few}

-- where there is nothing, the rule has `NotArray`
pub none_is : {A B : Type 0} (e : SplitFault) (o : Option A) (r : Result B SplitFault) → (o ≡ None → r ≡ Err fault.NotArray) → IsNone e o → IsFault e r
none_is fault.NoMemory o r h i = tt
none_is fault.NotArray o r h i = h i
none_is (fault.TooManyParts n) o r h i = absurd i

pub none_carried : {A B : Type 0} (e : SplitFault) (o : Option A) (p : Option B) → (o ≡ None → p ≡ None) → IsNone e o → IsNone e p
none_carried fault.NoMemory o p h i = tt
none_carried fault.NotArray o p h i = h i
none_carried (fault.TooManyParts n) o p h i = absurd i

pub refused_none : {A : Type 0} (e : SplitFault) (t : Bool) (o : Option A) → (t ≡ false → o ≡ None) → IsRefused e t → IsNone e o
refused_none fault.NoMemory t o h r = tt
refused_none fault.NotArray t o h r = h r
refused_none (fault.TooManyParts n) t o h r = absurd r

-- ---- a text that isn't packed

unpacked_by : (text : List ℕ) (o : Option (List Packed)) → unpacked text ≡ o → ((l : List Packed) → text ≢ pack_text l) → o ≡ None
unpacked_by text None e h = refl
unpacked_by text (Some l) e h = absurd (h l (only_packed text l e))

pub unpacked_none : (text : List ℕ) → ((l : List Packed) → text ≢ pack_text l) → unpacked text ≡ None
unpacked_none text h = unpacked_by text (unpacked text) refl h

-- ---- one message

first_not : (s t : Bool) (m : Message) → s ≡ false → cond (s && t) (Some m) None ≡ None
first_not true t m e = absurd (cc)
first_not false t m e = refl

second_not : (s t : Bool) (m : Message) → t ≡ false → cond (s && t) (Some m) None ≡ None
second_not true true m e = absurd (cc)
second_not true false m e = refl
second_not false t m e = refl

both_are : (s t : Bool) (m n : Message) → s ≡ true → t ≡ true → m ≡ n → cond (s && t) (Some m) None ≡ Some n
both_are true true m n e f h = ap Some h
both_are true false m n e f h = absurd (cc)
both_are false t m n e f h = absurd (cc)

abbrev told : Packed → Message
told p = record { body = p.body; headers = p.headers; properties = p.properties }

pub no_headers : (p : Packed) → are_headers p.headers ≡ false → message_of p ≡ None
no_headers p e = first_not (are_headers p.headers) (are_properties p.properties) (told p) e

pub no_properties : (p : Packed) → are_properties p.properties ≡ false → message_of p ≡ None
no_properties p e = second_not (are_headers p.headers) (are_properties p.properties) (told p) e

pub held_message : (p : Packed) (m : Message) → are_headers p.headers ≡ true → are_properties p.properties ≡ true → told p ≡ m → message_of p ≡ Some m
held_message p m e f h = both_are (are_headers p.headers) (are_properties p.properties) (told p) m e f h

-- ---- all of them

-- the messages so far before those that follow
abbrev pub behind : List Message → Option (List Message) → Option (List Message)
behind ms rest = option_map (λ (xs : List Message). ms ++ xs) rest

behind_one : (ms : List Message) (m : Message) (o : Option (List Message)) → behind ms (before (Some m) o) ≡ behind (ms ++ m ∷ []) o
behind_one ms m None = refl
behind_one ms m (Some xs) = ap Some (sym (append_assoc ms (m ∷ []) xs))

-- one more message
pub more_messages : (ms ns : List Message) (m : Message) (p : Packed) (rest ps : List Packed) (total : Option (List Message)) → rest ≡ p ∷ ps → message_of p ≡ Some m → ns ≡ ms ++ m ∷ []
    → behind ms (messages_of rest) ≡ total → behind ns (messages_of ps) ≡ total
more_messages ms ns m p rest ps total r e n h =
    ap (λ (xs : List Message). behind xs (messages_of ps)) n
    ∙ sym (behind_one ms m (messages_of ps))
    ∙ ap (λ (o : Option Message). behind ms (before o (messages_of ps))) (sym e)
    ∙ ap (λ (xs : List Packed). behind ms (messages_of xs)) (sym r) ∙ h

-- one that can't be held ends it
pub no_message : (ms : List Message) (p : Packed) (rest ps : List Packed) (total : Option (List Message)) → rest ≡ p ∷ ps → behind ms (messages_of rest) ≡ total → message_of p ≡ None → total ≡ None
no_message ms p rest ps total r h e =
    sym h ∙ ap (λ (xs : List Packed). behind ms (messages_of xs)) r ∙ ap (λ (o : Option Message). behind ms (before o (messages_of ps))) e

pub all_messages : (ms : List Message) (rest : List Packed) (total : Option (List Message)) → length rest ≡ 0 → behind ms (messages_of rest) ≡ total → total ≡ Some ms
all_messages ms [] total e h = sym h ∙ ap Some (append-nil ms)
all_messages ms (p ∷ ps) total e h = absurd (omega arith)

-- ---- places

pub more_placed : (n : ℕ) (ps qs total : List Message) (m : Message) (rest ms : List Message) → rest ≡ m ∷ ms → qs ≡ ps ++ placed_one n (length ps) m ∷ []
    → ps ++ placed_from n (length ps) rest ≡ total → qs ++ placed_from n (length qs) ms ≡ total
more_placed n ps qs total m rest ms r q h =
    let long : length qs ≡ suc (length ps) = omega (arith, ap length q, length-append ps (placed_one n (length ps) m ∷ [])) in
    ap (λ (xs : List Message). xs ++ placed_from n (length qs) ms) q
    ∙ ap (λ (k : ℕ). (ps ++ placed_one n (length ps) m ∷ []) ++ placed_from n k ms) long
    ∙ append_assoc ps (placed_one n (length ps) m ∷ []) (placed_from n (suc (length ps)) ms)
    ∙ ap (λ (xs : List Message). ps ++ placed_from n (length ps) xs) (sym r) ∙ h

pub all_placed : (n k : ℕ) (ps total rest : List Message) → length rest ≡ 0 → ps ++ placed_from n k rest ≡ total → ps ≡ total
all_placed n k ps total [] e h = sym (append-nil ps) ∙ h
all_placed n k ps total (m ∷ ms) e h = absurd (omega arith)

-- ---- the parts of a batch

module _ (k : Key) (m : Message) where
  pub not_packed : unpacked m.body ≡ None → batch_parts k m ≡ Err fault.NotArray
  unfolding batch_parts
  not_packed e = ap (λ (o : Option (List Packed)). placed_all (within_limit (option_and_then (λ ps. messages_of (in_key_order k ps)) o))) e

  module _ (l : List Packed) (list : unpacked m.body ≡ Some l) where
    made_of : batch_parts k m ≡ placed_all (within_limit (messages_of (in_key_order k l)))
    unfolding batch_parts
    made_of = ap (λ (o : Option (List Packed)). placed_all (within_limit (option_and_then (λ ps. messages_of (in_key_order k ps)) o))) list

    pub not_held : messages_of (in_key_order k l) ≡ None → batch_parts k m ≡ Err fault.NotArray
    not_held e = made_of ∙ ap (λ (o : Option (List Message)). placed_all (within_limit o)) e

    module _ (ms : List Message) (held : messages_of (in_key_order k l) ≡ Some ms) where
      all_of : batch_parts k m ≡ placed_all (within_limit (Some ms))
      all_of = made_of ∙ ap (λ (o : Option (List Message)). placed_all (within_limit o)) held

      pub beyond_limit : (e : SplitFault) → count_within_limit (length ms) ≡ Err e → batch_parts k m ≡ Err e
      beyond_limit e h = all_of ∙ ap placed_all (too_many ms e h)

      pub made : (u : Unit {0}) (ps : List Message) → count_within_limit (length ms) ≡ Ok u → ps ≡ placed_from (length ms) 0 ms → batch_parts k m ≡ Ok ps
      made u ps h e = all_of ∙ ap placed_all (few ms u h) ∙ ap (λ (xs : List Message). Ok xs) (sym e)
