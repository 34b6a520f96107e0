-- A body that grew is made as it was.
use Rattle.std.proofs.Common.{◌≡◌, ℕ, ◌+◌, ◌-◌, ◌<◌, append-nil, List, [], ◌∷◌, ◌++◌, length, take, get_or, Ok, refl, sym, ap, subst, ◌∙◌, arith, append_assoc, length-append}
use Rattle.std.specs.Prelude.{◌≢◌}
use Rattle.std.specs.Str.{IsUtf8}
use Rattle.std.proofs.Math.Seq.{take-append_seam}
use Rattle.std.proofs.lemmas.Str.{IsUtf8-take, IsCharBoundary-before_ascii}
use Rattle.json.specs.Print.{quoted}
use Rattle.eip_exchange.specs.declared.message.Message.{Message}
use Rattle.eip_exchange.specs.declared.setting.Strategy.{Strategy}
use Rattle.eip_exchange.specs.declared.setting.Strategy.TheVariants.{Original, Latest, Joined, Grouped, Sum, Batch}
use Rattle.eip_resequence.specs.Packing.{packed_json, IsPacked}
use Rattle.eip_resequence.proofs.Growing.{packed_closed, last_is}
use Rattle.eip_text.specs.JsonText.{json_text}
use Rattle.eip_strategy.specs.declared.undo.Undo.TheVariants.{Cut, Reclose}
use Rattle.eip_strategy.specs.Adding.{next_body, IsReadyBody, KeepsMessage}
use Rattle.eip_strategy.specs.Answers.{bounded}
use Rattle.eip_strategy.specs.Batches.{packed_of, text_behind, comma_in}
use Rattle.eip_strategy.specs.Undoing.{IsStart, IsOpenStart, Undoes, undo_of}
use Rattle.eip_strategy.proofs.Bounded.{within}
use Rattle.eip_strategy.proofs.Groups.{group_closed, group_grown}
use Rattle.eip_strategy.proofs.Lengths.{packed_grown}

-- what stands at the start of a body stays there when something follows it
cut_start : (old rest body : List ℕ) → body ≡ old ++ rest → IsUtf8 old → IsStart (length old) body × (take (length old) body ≡ old)
cut_start old rest body e utf8 =
    let same : take (length old) body ≡ old = ap (take (length old)) e ∙ take-append_seam old rest in
    let long : length body ≡ length old + length rest = ap length e ∙ length-append old rest in
    ((omega arith, subst IsUtf8 (sym same) utf8), same)

-- the same of a list without its bracket, in whose place something stands
open_start : (old front rest body : List ℕ) → old ≡ front ++ 93 ∷ [] → body ≡ front ++ rest → 0 < length rest → IsUtf8 old → IsOpenStart (length old - 1) body × (take (length old - 1) body ++ 93 ∷ [] ≡ old)
open_start old front rest body cut e more utf8 =
    let last = last_is old front cut in
    let old_long : length old ≡ length front + 1 = last.0 in
    let at : length old - 1 ≡ length front = omega arith in
    let same : take (length old - 1) body ≡ front = ap (λ (n : ℕ). take n body) at ∙ ap (take (length front)) e ∙ take-append_seam front rest in
    let long : length body ≡ length front + length rest = ap length e ∙ length-append front rest in
    let byte : get_or old (length old - 1) 0 ≡ 93 = last.1 in
    let place = IsCharBoundary-before_ascii old (length old - 1) (omega arith) (omega arith) in
    let text : IsUtf8 front = subst IsUtf8 last.2 (IsUtf8-take old (length old - 1) utf8 place) in
    ((omega arith, subst IsUtf8 (sym same) text), ap (λ (xs : List ℕ). xs ++ 93 ∷ []) same ∙ sym cut)

undoes_cut : (old : Message) (rest body : List ℕ) → body ≡ old.body ++ rest → IsUtf8 old.body → Undoes (Cut (length old.body)) old (record old { body = body })
undoes_cut old rest body e utf8 =
    let both = cut_start old.body rest body e utf8 in
    record { can = both.0; same = ap (λ (xs : List ℕ). record old { body = xs }) both.1 }

undoes_open : (old : Message) (front comma word body : List ℕ) → old.body ≡ front ++ 93 ∷ [] → body ≡ ((front ++ comma) ++ word) ++ 93 ∷ [] → IsUtf8 old.body → Undoes (Reclose (length old.body - 1)) old (record old { body = body })
undoes_open old front comma word body cut e utf8 =
    let rest : List ℕ = comma ++ (word ++ 93 ∷ []) in
    let is : body ≡ front ++ rest = e ∙ append_assoc (front ++ comma) word (93 ∷ []) ∙ append_assoc front comma (word ++ 93 ∷ []) in
    let a : length rest ≡ length comma + length (word ++ 93 ∷ []) = length-append comma (word ++ 93 ∷ []) in
    let b : length (word ++ 93 ∷ []) ≡ length word + 1 = length-append word (93 ∷ []) in
    let both = open_start old.body front rest body cut is (omega arith) utf8 in
    record { can = both.0; same = ap (λ (xs : List ℕ). record old { body = xs }) both.1 }

-- a batch
pub undoes_packed : (old new : Message) (body : List ℕ) → IsPacked old.body → IsUtf8 old.body → bounded 16777216 (Ok (text_behind old.body new)) ≡ Ok body → Undoes (Reclose (length old.body - 1)) old (record old { body = body })
undoes_packed old new body packed utf8 h =
    let closed = packed_closed old.body packed.0 packed.1 in
    undoes_open old closed.0 (comma_in old.body) (json_text (packed_json (packed_of new))) body closed.1
    (sym (within 16777216 (text_behind old.body new) body h) ∙ sym (packed_grown old.body closed.0 (packed_of new) packed closed.1)) utf8

-- any other body that stays or grows
pub undoes_grown : (s : Strategy) (old : Message) (new body : List ℕ) → IsReadyBody s old.body → KeepsMessage s → s ≢ Sum → IsUtf8 old.body → bounded 65536 (next_body s old.body new) ≡ Ok body
    → Undoes (undo_of s old.body) old (record old { body = body })
undoes_grown Original old new body ready keeps grows utf8 h = undoes_cut old [] body (sym (within 65536 old.body body h) ∙ sym (append-nil old.body)) utf8
undoes_grown Latest old new body ready keeps grows utf8 h = absurd (keeps.0 refl)
undoes_grown (Joined d) old new body ready keeps grows utf8 h = undoes_cut old (d ++ new) body (sym (within 65536 (old.body ++ (d ++ new)) body h)) utf8
undoes_grown Grouped old new body ready keeps grows utf8 h =
    let closed = group_closed old.body ready in
    undoes_open old closed.0 (44 ∷ []) (quoted new) body closed.1 (sym (within 65536 _ body h) ∙ sym (group_grown old.body closed.0 new ready closed.1)) utf8
undoes_grown Sum old new body ready keeps grows utf8 h = absurd (grows refl)
undoes_grown Batch old new body ready keeps grows utf8 h = absurd (keeps.1 refl)

closed_some : (text front : List ℕ) → text ≡ front ++ 93 ∷ [] → 0 < length text
closed_some text front e = let long : length text ≡ length front + 1 = (last_is text front e).0 in omega arith

pub group_some : (s : Strategy) (text : List ℕ) → s ≡ Grouped → IsReadyBody s text → 0 < length text
group_some s text e ready = let closed = group_closed text (subst (λ (t : Strategy). IsReadyBody t text) e ready) in closed_some text closed.0 closed.1

pub packed_some : (text : List ℕ) → IsPacked text → 0 < length text
packed_some text packed = let closed = packed_closed text packed.0 packed.1 in closed_some text closed.0 closed.1
