-- Which entries there can be: their numbers fit, their texts are UTF-8, and their headers and properties have distinct names within the limit.
use Rattle.std.specs.Prelude.{ℕ, ◌<◌, ◌≤◌, ◌^◌, List, [], ◌∷◌, length, bytes_eq}
use Rattle.std.specs.List.{IsDistinct}
use Rattle.std.specs.Str.{IsUtf8}
use Rattle.eip_exchange.specs.Pairs.{Pairs, names}
use Rattle.eip_exchange.specs.Headers.{same_name, counted}
use Rattle.eip_exchange.specs.declared.message.Message.{Message}
use Rattle.eip_exchange.specs.declared.end.End.{End}
use Rattle.eip_exchange.specs.declared.end.End.TheVariants as end
use Rattle.eip_exchange.specs.declared.end.Ended.{Ended}
use Rattle.eip_exchange.specs.declared.end.Fault.{Fault}
use Rattle.eip_frames.specs.declared.answer.Answer.{Answer as Reply}
use Rattle.eip_frames.specs.declared.answer.Answer.TheVariants as reply
use Rattle.eip_ledger.specs.declared.entry.Entry.{Entry}
use Rattle.eip_ledger.specs.declared.entry.Kind.{Kind}
use Rattle.eip_ledger.specs.declared.entry.Kind.TheVariants as kind

abbrev pub Fits32 : ℕ → Type 0
Fits32 n = n < 2 ^ 32

abbrev pub Fits64 : ℕ → Type 0
Fits64 n = n < 2 ^ 64

abbrev pub AreTexts : Pairs → Type 0
AreTexts [] = Unit {0}
AreTexts (p ∷ ps) = (IsUtf8 p.0 × IsUtf8 p.1) × AreTexts ps

pub record IsMessage (m : Message) : Type 0 where
  pub body : IsUtf8 m.body
  pub headers : AreTexts m.headers
  pub header_count : Fits64 (length m.headers)
  pub header_names : IsDistinct same_name (names m.headers)
  pub few : counted m.headers ≤ 64
  pub properties : AreTexts m.properties
  pub property_count : Fits64 (length m.properties)
  pub property_names : IsDistinct bytes_eq (names m.properties)

pub record IsFault (f : Fault) : Type 0 where
  pub kind : IsUtf8 f.kind
  pub text : IsUtf8 f.text

abbrev pub IsEnd : End → Type 0
IsEnd (end.Failed f) = IsFault f
IsEnd _ = Unit {0}

abbrev pub AreEnded : List Ended → Type 0
AreEnded [] = Unit {0}
AreEnded (e ∷ es) = (IsEnd e.end × IsMessage e.message) × AreEnded es

abbrev pub IsReply : Reply → Type 0
IsReply (reply.Became m) = IsMessage m
IsReply (reply.Raised f) = IsFault f
IsReply (reply.Queued n) = Fits64 n
IsReply (reply.Full n) = Fits32 n
IsReply (reply.Born first count) = Fits64 first × Fits32 count
IsReply (reply.Joined parts) = Fits64 (length parts) × AreEnded parts
IsReply (reply.Arrived g) = Fits64 g
IsReply (reply.Closed g cause n) = Fits64 g × Fits64 n
IsReply (reply.Unfit f) = IsFault f
IsReply (reply.Duplicate n) = Fits64 n
IsReply (reply.Slept d) = Fits64 d
IsReply _ = Unit {0}

abbrev pub IsKind : Kind → Type 0
IsKind (kind.Pull s) = Fits32 s
IsKind (kind.Accept s item m) = Fits32 s × (IsUtf8 item × IsMessage m)
IsKind (kind.Refuse s item cause) = Fits32 s × IsUtf8 item
IsKind (kind.SourceEnd s) = Fits32 s
IsKind (kind.SourceFault s) = Fits32 s
IsKind (kind.Start q x) = Fits32 q × Fits64 x
IsKind (kind.Take x) = Fits64 x
IsKind (kind.Answer x a) = Fits64 x × IsReply a
IsKind (kind.Tick t) = Fits64 t
IsKind kind.Force = Unit {0}
IsKind (kind.Starve x) = Fits64 x
IsKind (kind.Return x) = Fits64 x

pub record IsEntry (e : Entry) : Type 0 where
  pub worker : Fits32 e.worker
  pub kind : IsKind e.kind
