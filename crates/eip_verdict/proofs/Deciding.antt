-- The tests of answers and of what they hold tell whether these are one.
use Rattle.std.proofs.Common.{◌≡◌, ℕ, Bool, true, false, ◌&&◌, ◌==◌, List, refl, ap, eq-eqb}
use Rattle.std.specs.Prelude.{bytes_eq}
use Rattle.std.proofs.lemmas.Bool.{and_parts, and_from, eqb-true}
use Rattle.std.proofs.lemmas.Slice.Eq.{bytes_eq-Decides}
use Rattle.eip_exchange.specs.declared.end.Ended.{Ended}
use Rattle.eip_exchange.specs.declared.end.End.{End}
use Rattle.eip_exchange.specs.declared.end.End.TheVariants as end
use Rattle.eip_exchange.specs.declared.end.Fault.{Fault}
use Rattle.eip_exchange.specs.declared.message.Message.{Message}
use Rattle.eip_frames.specs.declared.answer.Answer.{Answer as Reply}
use Rattle.eip_frames.specs.declared.answer.Answer.TheVariants as reply
use Rattle.eip_frames.specs.declared.answer.Completion.{Completion}
use Rattle.eip_frames.specs.declared.answer.Completion.TheVariants as by
use Rattle.eip_verdict.specs.Same.{same_list, same_pair, same_message, same_fault, same_end, same_ended, same_cause, same_flag, same_reply}
use Rattle.eip_verdict.proofs.Lists.{Decides, list-decides}

-- texts and numbers
bytes-one : (xs ys : List ℕ) → bytes_eq xs ys ≡ true → xs ≡ ys
bytes-one xs ys h = (bytes_eq-Decides xs ys).0 h

bytes-same : (xs : List ℕ) → bytes_eq xs xs ≡ true
bytes-same xs = (bytes_eq-Decides xs xs).1 refl

abbrev paired : List ℕ → List ℕ → List ℕ × List ℕ
paired x y = (x, y)

pair-of : (x y u v : List ℕ) → x ≡ y → u ≡ v → paired x u ≡ paired y v
pair-of x y u v h k = rw (h, k) refl

pub pair-decides : Decides same_pair
pair-decides a b = (
  λ h. let p = and_parts (bytes_eq a.0 b.0) (bytes_eq a.1 b.1) h in pair-of a.0 b.0 a.1 b.1 (bytes-one a.0 b.0 p.0) (bytes-one a.1 b.1 p.1),
  λ h. rw h (and_from (bytes_eq b.0 b.0) (bytes_eq b.1 b.1) (bytes-same b.0) (bytes-same b.1)),
)

pub pairs-decide : Decides (same_list same_pair)
pairs-decide = list-decides same_pair pair-decides

abbrev message : List ℕ → List (List ℕ × List ℕ) → List (List ℕ × List ℕ) → Message
message body headers properties = record { body = body; headers = headers; properties = properties }

message-of : (a b : List ℕ) (h k p q : List (List ℕ × List ℕ)) → a ≡ b → h ≡ k → p ≡ q → message a h p ≡ message b k q
message-of a b h k p q x y z = rw (x, y, z) refl

pub message-decides : Decides same_message
message-decides a b = (
  λ h.
      let p = and_parts (bytes_eq a.body b.body) (same_list same_pair a.headers b.headers && same_list same_pair a.properties b.properties) h in
      let q = and_parts (same_list same_pair a.headers b.headers) (same_list same_pair a.properties b.properties) p.1 in
      message-of a.body b.body a.headers b.headers a.properties b.properties (bytes-one a.body b.body p.0) ((pairs-decide a.headers b.headers).0 q.0) ((pairs-decide a.properties b.properties).0 q.1),
  λ h.
      rw h
      (and_from (bytes_eq b.body b.body) (same_list same_pair b.headers b.headers && same_list same_pair b.properties b.properties) (bytes-same b.body)
      (and_from (same_list same_pair b.headers b.headers) (same_list same_pair b.properties b.properties) ((pairs-decide b.headers b.headers).1 refl) ((pairs-decide b.properties b.properties).1 refl))),
)

abbrev faulty : List ℕ → List ℕ → Fault
faulty kind text = record { kind = kind; text = text }

fault-of : (a b t u : List ℕ) → a ≡ b → t ≡ u → faulty a t ≡ faulty b u
fault-of a b t u x y = rw (x, y) refl

pub fault-decides : Decides same_fault
fault-decides a b = (
  λ h. let p = and_parts (bytes_eq a.kind b.kind) (bytes_eq a.text b.text) h in fault-of a.kind b.kind a.text b.text (bytes-one a.kind b.kind p.0) (bytes-one a.text b.text p.1),
  λ h. rw h (and_from (bytes_eq b.kind b.kind) (bytes_eq b.text b.text) (bytes-same b.kind) (bytes-same b.text)),
)

end-one : (a b : End) → same_end a b ≡ true → a ≡ b
end-one end.Completed end.Completed h = refl
end-one end.Handled end.Handled h = refl
end-one (end.Failed f) (end.Failed g) h = ap end.Failed ((fault-decides f g).0 h)
end-one _ _ h = absurd (cc h)

end-same : (a : End) → same_end a a ≡ true
end-same end.Completed = refl
end-same end.Handled = refl
end-same (end.Failed f) = (fault-decides f f).1 refl

abbrev over : End → Message → Ended
over end message = record { end = end; message = message }

over-of : (a b : End) (m n : Message) → a ≡ b → m ≡ n → over a m ≡ over b n
over-of a b m n x y = rw (x, y) refl

pub ended-decides : Decides same_ended
ended-decides a b = (
  λ h.
      let p = and_parts (same_end a.end b.end) (same_message a.message b.message) h in
      over-of a.end b.end a.message b.message (end-one a.end b.end p.0) ((message-decides a.message b.message).0 p.1),
  λ h. rw h (and_from (same_end b.end b.end) (same_message b.message b.message) (end-same b.end) ((message-decides b.message b.message).1 refl)),
)

cause-one : (a b : Completion) → same_cause a b ≡ true → a ≡ b
cause-one by.Size by.Size h = refl
cause-one by.Predicate by.Predicate h = refl
cause-one by.Timeout by.Timeout h = refl
cause-one by.Force by.Force h = refl
cause-one _ _ h = absurd (cc h)

cause-same : (a : Completion) → same_cause a a ≡ true
cause-same by.Size = refl
cause-same by.Predicate = refl
cause-same by.Timeout = refl
cause-same by.Force = refl

flag-one : (a b : Bool) → same_flag a b ≡ true → a ≡ b
flag-one true true h = refl
flag-one false false h = refl
flag-one _ _ h = absurd (cc h)

flag-same : (a : Bool) → same_flag a a ≡ true
flag-same true = refl
flag-same false = refl

-- answers that pass the test are one
pub reply-one : (a b : Reply) → same_reply a b ≡ true → a ≡ b
reply-one reply.Done reply.Done h = refl
reply-one reply.SendFailed reply.SendFailed h = refl
reply-one reply.Exists reply.Exists h = refl
reply-one (reply.Became m) (reply.Became n) h = ap reply.Became ((message-decides m n).0 h)
reply-one (reply.Raised f) (reply.Raised g) h = ap reply.Raised ((fault-decides f g).0 h)
reply-one (reply.Holds u) (reply.Holds v) h = ap reply.Holds (flag-one u v h)
reply-one (reply.Queued n) (reply.Queued m) h = ap reply.Queued (eqb-true n m h)
reply-one (reply.Full n) (reply.Full m) h = ap reply.Full (eqb-true n m h)
reply-one reply.Dropped reply.Dropped h = refl
reply-one reply.Entered reply.Entered h = refl
reply-one (reply.Born f n) (reply.Born g m) h = let p = and_parts (f == g) (n == m) h in let x = eqb-true f g p.0 in let y = eqb-true n m p.1 in cc
reply-one (reply.Joined xs) (reply.Joined ys) h = ap reply.Joined ((list-decides same_ended ended-decides xs ys).0 h)
reply-one (reply.Arrived n) (reply.Arrived m) h = ap reply.Arrived (eqb-true n m h)
reply-one (reply.Closed g c n) (reply.Closed h d m) t =
    let p = and_parts (g == h) (same_cause c d && (n == m)) t in
    let q = and_parts (same_cause c d) (n == m) p.1 in
    let x = eqb-true g h p.0 in
    let y = cause-one c d q.0 in
    let z = eqb-true n m q.1 in
    cc
reply-one (reply.Unfit f) (reply.Unfit g) h = ap reply.Unfit ((fault-decides f g).0 h)
reply-one reply.Fresh reply.Fresh h = refl
reply-one (reply.Duplicate n) (reply.Duplicate m) h = ap reply.Duplicate (eqb-true n m h)
reply-one (reply.Slept n) (reply.Slept m) h = ap reply.Slept (eqb-true n m h)
reply-one reply.Noted reply.Noted h = refl
reply-one reply.Finished reply.Finished h = refl
reply-one reply.CommitFailed reply.CommitFailed h = refl
reply-one _ _ h = absurd (cc h)

-- and each answer passes it with itself
pub reply-same : (a : Reply) → same_reply a a ≡ true
reply-same (reply.Became m) = (message-decides m m).1 refl
reply-same (reply.Raised f) = (fault-decides f f).1 refl
reply-same (reply.Holds u) = flag-same u
reply-same (reply.Queued n) = eq-eqb n n refl
reply-same (reply.Full n) = eq-eqb n n refl
reply-same (reply.Born f n) = and_from (f == f) (n == n) (eq-eqb f f refl) (eq-eqb n n refl)
reply-same (reply.Joined xs) = (list-decides same_ended ended-decides xs xs).1 refl
reply-same (reply.Arrived n) = eq-eqb n n refl
reply-same (reply.Closed g c n) = and_from (g == g) (same_cause c c && (n == n)) (eq-eqb g g refl) (and_from (same_cause c c) (n == n) (cause-same c) (eq-eqb n n refl))
reply-same (reply.Unfit f) = (fault-decides f f).1 refl
reply-same (reply.Duplicate n) = eq-eqb n n refl
reply-same (reply.Slept n) = eq-eqb n n refl
reply-same _ = refl
