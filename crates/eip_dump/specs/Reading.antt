-- How the code reads a line from the left. It may read too much, as a number with a leading zero: what was read is then printed, and compared with the line.
use Rattle.std.specs.Prelude.{ℕ, zero, suc, ◌+◌, ◌-◌, ◌*◌, ◌^◌, ◌≡◌, true, false, ◌&&◌, ◌==◌, nat_le, nat_lt, List, [], ◌∷◌, ◌++◌, length, codes, Option, Some, None, option_map, Result, Ok, Err, if◌then◌else◌}
use Rattle.std.specs.Str.{is_utf8}
use Rattle.eip_text.specs.Cuts.{behind, is_digit}
use Rattle.eip_exchange.specs.Pairs.{Pairs, put_property}
use Rattle.eip_exchange.specs.Headers.{put_header, is_one_too_many}
use Rattle.eip_exchange.specs.declared.message.Message.{Message}
use Rattle.eip_exchange.specs.declared.end.End.{End}
use Rattle.eip_exchange.specs.declared.end.End.TheVariants as end
use Rattle.eip_exchange.specs.declared.end.Ended.{Ended}
use Rattle.eip_exchange.specs.declared.end.Fault.{Fault}
use Rattle.eip_frames.specs.declared.answer.Answer.{Answer as Reply}
use Rattle.eip_frames.specs.declared.answer.Answer.TheVariants as reply
use Rattle.eip_frames.specs.declared.answer.Completion.{Completion}
use Rattle.eip_frames.specs.declared.answer.Completion.TheVariants as completion
use Rattle.eip_ledger.specs.declared.entry.Entry.{Entry}
use Rattle.eip_ledger.specs.declared.entry.Kind.{Kind}
use Rattle.eip_ledger.specs.declared.entry.Kind.TheVariants as kind
use Rattle.eip_ledger.specs.declared.entry.Refused.{Refused}
use Rattle.eip_ledger.specs.declared.entry.Refused.TheVariants as refused
use Rattle.eip_dump.specs.declared.fault.Stop.{Stop}
use Rattle.eip_dump.specs.declared.fault.Stop.TheVariants as stop
use Rattle.eip_dump.specs.Lines.{entry_text}

infixl 10 ◌>>=◌
abbrev pub ◌>>=◌ : {A B : Type 0} → Option A → (A → Option B) → Option B
None >>= f = None
(Some x) >>= f = f x

-- what is read behind a word, where it stands there, or else the other reading
abbrev pub either : {A : Type 0} → Option (List ℕ) → (List ℕ → Option A) → Option A → Option A
either None f other = other
either (Some rest) f other = f rest

-- a value, and what stands behind it
abbrev pub with_rest : {A : Type 0} → A → List ℕ → Option (A × List ℕ)
with_rest x rest = Some (x, rest)

-- what a function returned, seen by view, is what reading gives, unless memory ran out
abbrev pub Fails : {Y : Type 0} → Stop → Option Y → Type 0
Fails stop.Memory read = Unit {0}
Fails stop.Bad read = read ≡ None

abbrev pub Gives : {X Y : Type 0} → (X → Y) → Result X Stop → Option Y → Type 0
Gives view (Ok x) read = read ≡ Some (view x)
Gives view (Err e) read = Fails e read

-- ---- numbers

-- a digit, and what stands behind it
abbrev pub digit_at : List ℕ → Option (ℕ × List ℕ)
digit_at [] = None
digit_at (b ∷ bs) = if is_digit b then Some (b - 48, bs) else None

-- a number with one more digit, where it fits 64 bits
abbrev pub with_digit : ℕ → ℕ → Option ℕ
with_digit v d = if nat_lt (v * 10 + d) (2 ^ 64) then Some (v * 10 + d) else None

-- the digits in front, read behind a number, and what stands behind them
unfoldable pub digits_behind : ℕ → List ℕ → Option (ℕ × List ℕ)
digits_behind v [] = Some (v, [])
digits_behind v (b ∷ bs) = if is_digit b then (with_digit v (b - 48) >>= λ n. digits_behind n bs) else Some (v, b ∷ bs)

-- behind a space
unfoldable pub number_at : List ℕ → Option (ℕ × List ℕ)
number_at bs = behind (codes " ") bs >>= digits_behind 0

-- a number of 32 bits
abbrev pub small : ℕ → Option ℕ
small n = if nat_lt n (2 ^ 32) then Some n else None

unfoldable pub small_at : List ℕ → Option (ℕ × List ℕ)
small_at bs = number_at bs >>= λ p. small p.0 >>= λ n. Some (n, p.1)

-- ---- texts

abbrev pub hex_value : ℕ → Option ℕ
hex_value b = if is_digit b then Some (b - 48) else (if nat_le 97 b && nat_le b 102 then Some (b - 87) else None)

abbrev pub hex_digit_at : List ℕ → Option (ℕ × List ℕ)
hex_digit_at [] = None
hex_digit_at (b ∷ bs) = option_map (λ v. (v, bs)) (hex_value b)

-- two hexadecimal digits
unfoldable pub hex_at : List ℕ → Option (ℕ × List ℕ)
hex_at bs = hex_digit_at bs >>= λ high. hex_digit_at high.1 >>= λ low. Some (high.0 * 16 + low.0, low.1)

-- the byte that is escaped, behind a backslash
unfoldable pub escape_at : List ℕ → Option (ℕ × List ℕ)
escape_at [] = None
escape_at (b ∷ bs) = if b == 92 then Some (92, bs) else (if b == 34 then Some (34, bs) else (if b == 110 then Some (10, bs) else (if b == 114 then Some (13, bs) else (if b == 120 then hex_at bs else None))))

-- the next byte of a quoted text; none at its end
unfoldable pub shown_at : List ℕ → Option (ℕ × List ℕ)
shown_at [] = None
shown_at (b ∷ bs) = if b == 34 then None else (if b == 92 then escape_at bs else Some (b, bs))

abbrev pub one_more : List ℕ → Option (ℕ × List ℕ) → (List ℕ → List ℕ × List ℕ) → List ℕ × List ℕ
one_more bs None later = ([], bs)
one_more bs (Some p) later = (p.0 ∷ (later p.1).0, (later p.1).1)

-- at most so many bytes of a quoted text, and what stands behind them
unfoldable pub unquoted : ℕ → List ℕ → List ℕ × List ℕ
unquoted zero bs = ([], bs)
unquoted (suc n) bs = one_more bs (shown_at bs) (λ rest. unquoted n rest)

abbrev pub text_of : List ℕ → Option (List ℕ)
text_of t = if is_utf8 t then Some t else None

abbrev pub closed : List ℕ × List ℕ → Option (List ℕ × List ℕ)
closed p = behind (codes "\"") p.1 >>= λ rest. text_of p.0 >>= λ t. Some (t, rest)

-- a quoted text, behind a space
unfoldable pub phrase_at : List ℕ → Option (List ℕ × List ℕ)
phrase_at bs = behind (codes " \"") bs >>= λ inner. closed (unquoted (length inner) inner)

-- ---- messages

unfoldable pub pair_at : List ℕ → Option ((List ℕ × List ℕ) × List ℕ)
pair_at bs = phrase_at bs >>= λ name. phrase_at name.1 >>= λ value. Some ((name.0, value.0), value.1)

abbrev pub set_header : List ℕ × List ℕ → Pairs → Option Pairs
set_header p hs = if is_one_too_many p.0 hs then None else Some (put_header p.0 p.1 hs)

-- so many more headers
unfoldable pub headers_from : ℕ → Pairs → List ℕ → Option (Pairs × List ℕ)
headers_from zero hs bs = Some (hs, bs)
headers_from (suc n) hs bs = pair_at bs >>= λ p. set_header p.0 hs >>= λ more. headers_from n more p.1

unfoldable pub headers_at : List ℕ → Option (Pairs × List ℕ)
headers_at bs = number_at bs >>= λ n. headers_from n.0 [] n.1

-- so many more properties
unfoldable pub properties_from : ℕ → Pairs → List ℕ → Option (Pairs × List ℕ)
properties_from zero ps bs = Some (ps, bs)
properties_from (suc n) ps bs = pair_at bs >>= λ p. properties_from n (put_property p.0.0 p.0.1 ps) p.1

unfoldable pub properties_at : List ℕ → Option (Pairs × List ℕ)
properties_at bs = number_at bs >>= λ n. properties_from n.0 [] n.1

unfoldable pub message_at : List ℕ → Option (Message × List ℕ)
message_at bs = phrase_at bs >>= λ b. headers_at b.1 >>= λ h. properties_at h.1 >>= λ p. Some (record { body = b.0; headers = h.0; properties = p.0 }, p.1)

unfoldable pub fault_at : List ℕ → Option (Fault × List ℕ)
fault_at bs = phrase_at bs >>= λ k. phrase_at k.1 >>= λ t. Some (record { kind = k.0; text = t.0 }, t.1)

unfoldable pub end_at : List ℕ → Option (End × List ℕ)
end_at bs = either (behind (codes " completed") bs) (with_rest end.Completed)
    (either (behind (codes " handled") bs) (with_rest end.Handled)
    (either (behind (codes " failed") bs) (λ r. fault_at r >>= λ f. Some (end.Failed f.0, f.1)) None))

unfoldable pub ended_at : List ℕ → Option (Ended × List ℕ)
ended_at bs = end_at bs >>= λ e. message_at e.1 >>= λ m. Some (record { end = e.0; message = m.0 }, m.1)

-- so many more parts
unfoldable pub parts_from : ℕ → List Ended → List ℕ → Option (List Ended × List ℕ)
parts_from zero es bs = Some (es, bs)
parts_from (suc n) es bs = ended_at bs >>= λ e. parts_from n (es ++ e.0 ∷ []) e.1

unfoldable pub parts_at : List ℕ → Option (List Ended × List ℕ)
parts_at bs = number_at bs >>= λ n. parts_from n.0 [] n.1

-- ---- answers

unfoldable pub cause_at : List ℕ → Option (Completion × List ℕ)
cause_at bs = either (behind (codes " size") bs) (with_rest completion.Size)
    (either (behind (codes " predicate") bs) (with_rest completion.Predicate)
    (either (behind (codes " timeout") bs) (with_rest completion.Timeout)
    (either (behind (codes " force") bs) (with_rest completion.Force) None)))

-- of an answer that is one word, about a lane, a predicate or a queue
unfoldable pub lane_answer_at : List ℕ → Option (Reply × List ℕ)
lane_answer_at bs = either (behind (codes " done") bs) (with_rest reply.Done)
    (either (behind (codes " failed") bs) (with_rest reply.SendFailed)
    (either (behind (codes " exists") bs) (with_rest reply.Exists)
    (either (behind (codes " true") bs) (with_rest (reply.Holds true))
    (either (behind (codes " false") bs) (with_rest (reply.Holds false))
    (either (behind (codes " dropped") bs) (with_rest reply.Dropped) None)))))

-- of any answer that is one word
unfoldable pub plain_answer_at : List ℕ → Option (Reply × List ℕ)
plain_answer_at bs = either (behind (codes " entered") bs) (with_rest reply.Entered)
    (either (behind (codes " fresh") bs) (with_rest reply.Fresh)
    (either (behind (codes " noted") bs) (with_rest reply.Noted)
    (either (behind (codes " finished") bs) (with_rest reply.Finished)
    (either (behind (codes " uncommitted") bs) (with_rest reply.CommitFailed)
    (lane_answer_at bs)))))

unfoldable pub born_at : List ℕ → Option (Reply × List ℕ)
born_at bs = number_at bs >>= λ first. small_at first.1 >>= λ count. Some (reply.Born first.0 count.0, count.1)

unfoldable pub closed_at : List ℕ → Option (Reply × List ℕ)
closed_at bs = number_at bs >>= λ g. cause_at g.1 >>= λ cause. number_at cause.1 >>= λ n. Some (reply.Closed g.0 cause.0 n.0, n.1)

-- of an answer with numbers, or of one without fields
unfoldable pub counted_answer_at : List ℕ → Option (Reply × List ℕ)
counted_answer_at bs = either (behind (codes " queued") bs) (λ r. number_at r >>= λ n. Some (reply.Queued n.0, n.1))
    (either (behind (codes " full") bs) (λ r. small_at r >>= λ n. Some (reply.Full n.0, n.1))
    (either (behind (codes " born") bs) born_at
    (either (behind (codes " arrived") bs) (λ r. number_at r >>= λ n. Some (reply.Arrived n.0, n.1))
    (either (behind (codes " closed") bs) closed_at
    (either (behind (codes " duplicate") bs) (λ r. number_at r >>= λ n. Some (reply.Duplicate n.0, n.1))
    (either (behind (codes " slept") bs) (λ r. number_at r >>= λ n. Some (reply.Slept n.0, n.1))
    (plain_answer_at bs)))))))

unfoldable pub answer_at : List ℕ → Option (Reply × List ℕ)
answer_at bs = either (behind (codes " became") bs) (λ r. message_at r >>= λ m. Some (reply.Became m.0, m.1))
    (either (behind (codes " raised") bs) (λ r. fault_at r >>= λ f. Some (reply.Raised f.0, f.1))
    (either (behind (codes " unfit") bs) (λ r. fault_at r >>= λ f. Some (reply.Unfit f.0, f.1))
    (either (behind (codes " joined") bs) (λ r. parts_at r >>= λ es. Some (reply.Joined es.0, es.1))
    (counted_answer_at bs))))

-- ---- entries

unfoldable pub accepted_at : List ℕ → Option (Kind × List ℕ)
accepted_at bs = small_at bs >>= λ s. phrase_at s.1 >>= λ item. message_at item.1 >>= λ m. Some (kind.Accept s.0 item.0 m.0, m.1)

unfoldable pub cause_of_refusal_at : List ℕ → Option (Refused × List ℕ)
cause_of_refusal_at bs = either (behind (codes " NotText") bs) (with_rest refused.NotText)
    (either (behind (codes " TooLong") bs) (with_rest refused.TooLong) None)

unfoldable pub refused_at : List ℕ → Option (Kind × List ℕ)
refused_at bs = small_at bs >>= λ s. phrase_at s.1 >>= λ item. cause_of_refusal_at item.1 >>= λ cause. Some (kind.Refuse s.0 item.0 cause.0, cause.1)

unfoldable pub started_at : List ℕ → Option (Kind × List ℕ)
started_at bs = small_at bs >>= λ q. number_at q.1 >>= λ x. Some (kind.Start q.0 x.0, x.1)

unfoldable pub answered_at : List ℕ → Option (Kind × List ℕ)
answered_at bs = number_at bs >>= λ x. answer_at x.1 >>= λ a. Some (kind.Answer x.0 a.0, a.1)

-- of an entry that is of no source
unfoldable pub exchange_kind_at : List ℕ → Option (Kind × List ℕ)
exchange_kind_at bs = either (behind (codes " start") bs) started_at
    (either (behind (codes " take") bs) (λ r. number_at r >>= λ x. Some (kind.Take x.0, x.1))
    (either (behind (codes " answer") bs) answered_at
    (either (behind (codes " tick") bs) (λ r. number_at r >>= λ t. Some (kind.Tick t.0, t.1))
    (either (behind (codes " force") bs) (with_rest kind.Force)
    (either (behind (codes " starve") bs) (λ r. number_at r >>= λ x. Some (kind.Starve x.0, x.1))
    (either (behind (codes " return") bs) (λ r. number_at r >>= λ x. Some (kind.Return x.0, x.1)) None))))))

unfoldable pub kind_at : List ℕ → Option (Kind × List ℕ)
kind_at bs = either (behind (codes " pull") bs) (λ r. small_at r >>= λ s. Some (kind.Pull s.0, s.1))
    (either (behind (codes " accept") bs) accepted_at
    (either (behind (codes " refuse") bs) refused_at
    (either (behind (codes " end") bs) (λ r. small_at r >>= λ s. Some (kind.SourceEnd s.0, s.1))
    (either (behind (codes " fault") bs) (λ r. small_at r >>= λ s. Some (kind.SourceFault s.0, s.1))
    (exchange_kind_at bs)))))

unfoldable pub entry_at : List ℕ → Option Entry
entry_at bs = digits_behind 0 bs >>= λ w. small w.0 >>= λ n. kind_at w.1 >>= λ k. Some (record { worker = n; kind = k.0 })

-- an entry, and what stands behind its line, where the bytes begin with that line
abbrev pub spelled : List ℕ → Entry → Option (Entry × List ℕ)
spelled bs e = option_map (λ rest. (e, rest)) (behind (entry_text e) bs)

-- the entry whose line stands in front, and what stands behind it
unfoldable pub entry_front : List ℕ → Option (Entry × List ℕ)
entry_front bs = entry_at bs >>= spelled bs
