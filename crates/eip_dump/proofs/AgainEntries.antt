-- A printed entry is read again.
use Rattle.std.proofs.Common.{◌≡◌, ℕ, ◌^◌, ◌<◌, Bool, true, false, true≢false, eqb, List, [], ◌∷◌, ◌++◌, length, Option, Some, None, refl, sym, ap, ◌∙◌, append_assoc, arith}
use Rattle.std.specs.Prelude.{decimal}
use Rattle.std.proofs.lemmas.Bool.{eqb-true}
use Rattle.std.proofs.lemmas.List.{append-nil}
use Rattle.std.proofs.lemmas.Option.{some_pair_parts}
use Rattle.eip_text.specs.Cuts.{behind}
use Rattle.eip_text.proofs.Cutting.{behind_again, behind_parts, mapped}
use Rattle.eip_frames.specs.declared.answer.Answer.{Answer as Reply}
use Rattle.eip_frames.specs.declared.answer.Answer.TheVariants as reply
use Rattle.eip_frames.specs.declared.answer.Completion.{Completion}
use Rattle.eip_frames.specs.declared.answer.Completion.TheVariants as completion
use Rattle.eip_ledger.specs.declared.entry.Entry.{Entry}
use Rattle.eip_ledger.specs.declared.entry.Kind.{Kind}
use Rattle.eip_ledger.specs.declared.entry.Kind.TheVariants as kind
use Rattle.eip_ledger.specs.declared.entry.Refused.{Refused}
use Rattle.eip_ledger.specs.declared.entry.Refused.TheVariants as refused
use Rattle.eip_dump.specs.Lines.{number, phrase, message_text, cause_text, refused_text, answer_text, kind_word, kind_fields, entry_text}
use Rattle.eip_dump.specs.Dump.{HasNoEntry}
use Rattle.eip_dump.specs.Kept.{IsReply, IsKind, IsEntry}
use Rattle.eip_dump.specs.Reading.{◌>>=◌, cause_at, lane_answer_at, plain_answer_at, born_at, closed_at, counted_answer_at, answer_at, accepted_at, cause_of_refusal_at, refused_at, started_at, answered_at, exchange_kind_at, kind_at, entry_at, spelled, entry_front}
use Rattle.eip_dump.proofs.AgainNumbers.{is_done, decimal_again, number_again, small_is, small_again}
use Rattle.eip_dump.proofs.AgainTexts.{phrase_again}
use Rattle.eip_dump.proofs.AgainMessages.{message_again, fault_again, parts_at_again}

cause_again : (cause : Completion) (rest : List ℕ) → cause_at (cause_text cause ++ rest) ≡ Some (cause, rest)
unfolding cause_at
cause_again completion.Size rest = refl
cause_again completion.Predicate rest = refl
cause_again completion.Timeout rest = refl
cause_again completion.Force rest = refl

done_cause : (cause : Completion) (rest : List ℕ) → is_done (cause_text cause ++ rest) ≡ true
done_cause completion.Size rest = refl
done_cause completion.Predicate rest = refl
done_cause completion.Timeout rest = refl
done_cause completion.Force rest = refl

closed_again : (g n : ℕ) (cause : Completion) (rest : List ℕ) → g < 2 ^ 64 → n < 2 ^ 64 → is_done rest ≡ true → closed_at ((number g ++ (cause_text cause ++ number n)) ++ rest) ≡ Some (reply.Closed g cause n, rest)
unfolding closed_at
closed_again g n cause rest k l h =
    rw (
      append_assoc (number g) (cause_text cause ++ number n) rest,
      append_assoc (cause_text cause) (number n) rest,
      number_again g (cause_text cause ++ (number n ++ rest)) k (done_cause cause (number n ++ rest)),
      cause_again cause (number n ++ rest),
      number_again n rest l h,
    )
    refl

born_again : (first count : ℕ) (rest : List ℕ) → first < 2 ^ 64 → count < 2 ^ 32 → is_done rest ≡ true → born_at ((number first ++ number count) ++ rest) ≡ Some (reply.Born first count, rest)
unfolding born_at
born_again first count rest k l h = rw (append_assoc (number first) (number count) rest, number_again first (number count ++ rest) k refl, small_again count rest l h) refl

answer_again : (a : Reply) (rest : List ℕ) → IsReply a → is_done rest ≡ true → answer_at (answer_text a ++ rest) ≡ Some (a, rest)
unfolding answer_at counted_answer_at plain_answer_at lane_answer_at
answer_again reply.Done rest k h = refl
answer_again reply.SendFailed rest k h = refl
answer_again reply.Exists rest k h = refl
answer_again (reply.Became m) rest k h = rw (message_again m rest k h) refl
answer_again (reply.Raised f) rest k h = rw (fault_again f rest k) refl
answer_again (reply.Holds true) rest k h = refl
answer_again (reply.Holds false) rest k h = refl
answer_again (reply.Queued n) rest k h = rw (number_again n rest k h) refl
answer_again (reply.Full n) rest k h = rw (small_again n rest k h) refl
answer_again reply.Dropped rest k h = refl
answer_again reply.Entered rest k h = refl
answer_again (reply.Born first count) rest k h = born_again first count rest k.0 k.1 h
answer_again (reply.Joined parts) rest k h = rw (parts_at_again parts rest k.0 k.1 h) refl
answer_again (reply.Arrived g) rest k h = rw (number_again g rest k h) refl
answer_again (reply.Closed g cause n) rest k h = closed_again g n cause rest k.0 k.1 h
answer_again (reply.Unfit f) rest k h = rw (fault_again f rest k) refl
answer_again reply.Fresh rest k h = refl
answer_again (reply.Duplicate n) rest k h = rw (number_again n rest k h) refl
answer_again (reply.Slept d) rest k h = rw (number_again d rest k h) refl
answer_again reply.Noted rest k h = refl
answer_again reply.Finished rest k h = refl
answer_again reply.CommitFailed rest k h = refl

done_answer : (a : Reply) (rest : List ℕ) → is_done (answer_text a ++ rest) ≡ true
done_answer reply.Done rest = refl
done_answer reply.SendFailed rest = refl
done_answer reply.Exists rest = refl
done_answer (reply.Became m) rest = refl
done_answer (reply.Raised f) rest = refl
done_answer (reply.Holds true) rest = refl
done_answer (reply.Holds false) rest = refl
done_answer (reply.Queued n) rest = refl
done_answer (reply.Full n) rest = refl
done_answer reply.Dropped rest = refl
done_answer reply.Entered rest = refl
done_answer (reply.Born first count) rest = refl
done_answer (reply.Joined parts) rest = refl
done_answer (reply.Arrived g) rest = refl
done_answer (reply.Closed g cause n) rest = refl
done_answer (reply.Unfit f) rest = refl
done_answer reply.Fresh rest = refl
done_answer (reply.Duplicate n) rest = refl
done_answer (reply.Slept d) rest = refl
done_answer reply.Noted rest = refl
done_answer reply.Finished rest = refl
done_answer reply.CommitFailed rest = refl

refusal_again : (cause : Refused) (rest : List ℕ) → cause_of_refusal_at (refused_text cause ++ rest) ≡ Some (cause, rest)
unfolding cause_of_refusal_at
refusal_again refused.NotText rest = refl
refusal_again refused.TooLong rest = refl

kind_again : (k : Kind) (rest : List ℕ) → IsKind k → is_done rest ≡ true → kind_at (kind_word k ++ (kind_fields k ++ rest)) ≡ Some (k, rest)
unfolding kind_at exchange_kind_at accepted_at refused_at started_at answered_at
kind_again (kind.Pull s) rest i h = rw (small_again s rest i h) refl
kind_again (kind.Accept s item m) rest i h =
    rw (
      append_assoc (number s) (phrase item ++ message_text m) rest,
      append_assoc (phrase item) (message_text m) rest,
      small_again s (phrase item ++ (message_text m ++ rest)) i.0 refl,
      phrase_again item (message_text m ++ rest) i.1.0,
      message_again m rest i.1.1 h,
    )
    refl
kind_again (kind.Refuse s item cause) rest i h =
    rw (
      append_assoc (number s) (phrase item ++ refused_text cause) rest,
      append_assoc (phrase item) (refused_text cause) rest,
      small_again s (phrase item ++ (refused_text cause ++ rest)) i.0 refl,
      phrase_again item (refused_text cause ++ rest) i.1,
      refusal_again cause rest,
    )
    refl
kind_again (kind.SourceEnd s) rest i h = rw (small_again s rest i h) refl
kind_again (kind.SourceFault s) rest i h = rw (small_again s rest i h) refl
kind_again (kind.Start q x) rest i h = rw (append_assoc (number q) (number x) rest, small_again q (number x ++ rest) i.0 refl, number_again x rest i.1 h) refl
kind_again (kind.Take x) rest i h = rw (number_again x rest i h) refl
kind_again (kind.Answer x a) rest i h =
    rw (append_assoc (number x) (answer_text a) rest, number_again x (answer_text a ++ rest) i.0 (done_answer a rest), answer_again a rest i.1 h) refl
kind_again (kind.Tick t) rest i h = rw (number_again t rest i h) refl
kind_again kind.Force rest i h = refl
kind_again (kind.Starve x) rest i h = rw (number_again x rest i h) refl
kind_again (kind.Return x) rest i h = rw (number_again x rest i h) refl

done_kind : (k : Kind) (rest : List ℕ) → is_done (kind_word k ++ rest) ≡ true
done_kind (kind.Pull s) rest = refl
done_kind (kind.Accept s item m) rest = refl
done_kind (kind.Refuse s item cause) rest = refl
done_kind (kind.SourceEnd s) rest = refl
done_kind (kind.SourceFault s) rest = refl
done_kind (kind.Start q x) rest = refl
done_kind (kind.Take x) rest = refl
done_kind (kind.Answer x a) rest = refl
done_kind (kind.Tick t) rest = refl
done_kind kind.Force rest = refl
done_kind (kind.Starve x) rest = refl
done_kind (kind.Return x) rest = refl

entry_at_again : (e : Entry) (rest : List ℕ) → IsEntry e → entry_at (entry_text e ++ rest) ≡ Some e
unfolding entry_at entry_text
entry_at_again e rest i =
    let behind_fields : List ℕ = kind_fields e.kind ++ (10 ∷ rest) in
    rw (
      append_assoc (decimal e.worker) (kind_word e.kind ++ (kind_fields e.kind ++ 10 ∷ [])) rest,
      append_assoc (kind_word e.kind) (kind_fields e.kind ++ 10 ∷ []) rest,
      append_assoc (kind_fields e.kind) (10 ∷ []) rest,
      decimal_again e.worker (kind_word e.kind ++ behind_fields) (omega (arith, i.worker)) (done_kind e.kind behind_fields),
      small_is e.worker i.worker,
      kind_again e.kind (10 ∷ rest) i.kind refl,
    )
    refl

-- the line of an entry is read as that entry
pub front_again : (e : Entry) (rest : List ℕ) → IsEntry e → entry_front (entry_text e ++ rest) ≡ Some (e, rest)
unfolding entry_front
front_again e rest i = rw (entry_at_again e rest i, behind_again (entry_text e) rest) refl

front_from : (o : Option Entry) (e : Entry) (bs rest : List ℕ) → (o >>= spelled bs) ≡ Some (e, rest) → bs ≡ entry_text e ++ rest
front_from None e bs rest h = absurd cc
front_from (Some read) e bs rest h =
    let m = mapped (λ (r : List ℕ). (read, r)) (behind (entry_text read) bs) (e, rest) h in
    let same : read ≡ e = ap (λ (p : Entry × List ℕ). p.0) m.2 in
    let tail : m.0 ≡ rest = ap (λ (p : Entry × List ℕ). p.1) m.2 in
    behind_parts (entry_text read) bs m.0 m.1 ∙ ap (λ (x : Entry). entry_text x ++ m.0) same ∙ ap (λ (r : List ℕ). entry_text e ++ r) tail

-- what is read as an entry is that entry's line
pub front_is : (bs : List ℕ) (e : Entry) (rest : List ℕ) → entry_front bs ≡ Some (e, rest) → bs ≡ entry_text e ++ rest
unfolding entry_front
front_is bs e rest h = front_from (entry_at bs) e bs rest h

-- ---- what a reader answers

pub is_line : (bs rest : List ℕ) (e : Entry) → entry_front bs ≡ Some (e, rest) → rest ≡ [] → bs ≡ entry_text e
is_line bs rest e h empty = front_is bs e rest h ∙ ap (λ (r : List ℕ). entry_text e ++ r) empty ∙ append-nil (entry_text e)

pub is_longer : (bs rest : List ℕ) (read e : Entry) → entry_front bs ≡ Some (read, rest) → (rest ≡ [] → ⊥) → IsEntry e → bs ≡ entry_text e → ⊥
is_longer bs rest read e h more i line =
    let again : entry_front bs ≡ Some (e, []) = ap entry_front (line ∙ sym (append-nil (entry_text e))) ∙ front_again e [] i in
    let same = some_pair_parts read e rest [] (sym h ∙ again) in
    more same.1

pub is_none : (bs : List ℕ) → entry_front bs ≡ None → HasNoEntry bs
is_none bs h e rest i line =
    let again : entry_front bs ≡ Some (e, rest) = ap entry_front line ∙ front_again e rest i in
    let clash : ◌≡◌ {A = Option (Entry × List ℕ)} None (Some (e, rest)) = sym h ∙ again in
    absurd cc

pub is_no_line : (bs : List ℕ) → entry_front bs ≡ None → (e : Entry) → IsEntry e → bs ≡ entry_text e → ⊥
is_no_line bs h e i line = is_none bs h e [] i (line ∙ sym (append-nil (entry_text e)))

-- ---- whether a list is empty, as code tests it

pub none_left : (r : Bool) (xs : List ℕ) → r ≡ eqb (length xs) 0 → r ≡ true → xs ≡ []
none_left r [] e h = refl
none_left r (x ∷ xs) e h =
    let zero : length (x ∷ xs) ≡ 0 = eqb-true (length (x ∷ xs)) 0 (sym e ∙ h) in
    absurd (omega (arith, zero))

pub some_left : (r : Bool) (xs : List ℕ) → r ≡ eqb (length xs) 0 → r ≡ false → xs ≡ [] → ⊥
some_left r xs e h empty =
    let is : r ≡ true = e ∙ ap (λ (ys : List ℕ). eqb (length ys) 0) empty in
    true≢false (sym is ∙ h)
