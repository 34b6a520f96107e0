-- When two answers are one, as a test.
use Rattle.std.specs.Prelude.{ℕ, ◌==◌, ◌&&◌, bytes_eq, Bool, true, false, List, [], ◌∷◌}
use Rattle.eip_exchange.specs.declared.end.Ended.{Ended}
use Rattle.eip_exchange.specs.declared.end.End.{End}
use Rattle.eip_exchange.specs.declared.end.End.TheVariants as end
use Rattle.eip_exchange.specs.declared.end.Fault.{Fault}
use Rattle.eip_exchange.specs.declared.message.Message.{Message}
use Rattle.eip_frames.specs.declared.answer.Answer.{Answer as Reply}
use Rattle.eip_frames.specs.declared.answer.Answer.TheVariants as reply
use Rattle.eip_frames.specs.declared.answer.Completion.{Completion}
use Rattle.eip_frames.specs.declared.answer.Completion.TheVariants as by

-- lists of one length whose elements pass a test in order
abbrev pub same_list : {A : Type 0} → (A → A → Bool) → List A → List A → Bool
same_list same [] [] = true
same_list same (x ∷ xs) (y ∷ ys) = same x y && same_list same xs ys
same_list same _ _ = false

abbrev pub same_pair : List ℕ × List ℕ → List ℕ × List ℕ → Bool
same_pair a b = bytes_eq a.0 b.0 && bytes_eq a.1 b.1

abbrev pub same_message : Message → Message → Bool
same_message a b = bytes_eq a.body b.body && (same_list same_pair a.headers b.headers && same_list same_pair a.properties b.properties)

abbrev pub same_fault : Fault → Fault → Bool
same_fault a b = bytes_eq a.kind b.kind && bytes_eq a.text b.text

abbrev pub same_end : End → End → Bool
same_end end.Completed end.Completed = true
same_end end.Handled end.Handled = true
same_end (end.Failed f) (end.Failed g) = same_fault f g
same_end _ _ = false

abbrev pub same_ended : Ended → Ended → Bool
same_ended a b = same_end a.end b.end && same_message a.message b.message

abbrev pub same_cause : Completion → Completion → Bool
same_cause by.Size by.Size = true
same_cause by.Predicate by.Predicate = true
same_cause by.Timeout by.Timeout = true
same_cause by.Force by.Force = true
same_cause _ _ = false

abbrev pub same_flag : Bool → Bool → Bool
same_flag true true = true
same_flag false false = true
same_flag _ _ = false

abbrev pub same_reply : Reply → Reply → Bool
same_reply reply.Done reply.Done = true
same_reply reply.SendFailed reply.SendFailed = true
same_reply reply.Exists reply.Exists = true
same_reply (reply.Became m) (reply.Became n) = same_message m n
same_reply (reply.Raised f) (reply.Raised g) = same_fault f g
same_reply (reply.Holds u) (reply.Holds v) = same_flag u v
same_reply (reply.Queued n) (reply.Queued m) = n == m
same_reply (reply.Full n) (reply.Full m) = n == m
same_reply reply.Dropped reply.Dropped = true
same_reply reply.Entered reply.Entered = true
same_reply (reply.Born first count) (reply.Born first' count') = (first == first') && (count == count')
same_reply (reply.Joined xs) (reply.Joined ys) = same_list same_ended xs ys
same_reply (reply.Arrived n) (reply.Arrived m) = n == m
same_reply (reply.Closed g c n) (reply.Closed h d m) = (g == h) && (same_cause c d && (n == m))
same_reply (reply.Unfit f) (reply.Unfit g) = same_fault f g
same_reply reply.Fresh reply.Fresh = true
same_reply (reply.Duplicate n) (reply.Duplicate m) = n == m
same_reply (reply.Slept n) (reply.Slept m) = n == m
same_reply reply.Noted reply.Noted = true
same_reply reply.Finished reply.Finished = true
same_reply reply.CommitFailed reply.CommitFailed = true
same_reply _ _ = false
