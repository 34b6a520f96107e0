-- The claims to keys that haven't been given up, as a table of them has them.
use Rattle.std.specs.Prelude.{ℕ, ◌==◌, ◌&&◌, Bool, true, false, cond, List, filter, filter_map, map, Option, Some, None}
use Rattle.eip_exchange.specs.declared.end.Ended.{Ended as Finished}
use Rattle.eip_frames.specs.declared.answer.Answer.{Answer as Reply}
use Rattle.eip_frames.specs.declared.answer.Answer.TheVariants as reply
use Rattle.eip_ledger.specs.declared.entry.Kind.{Kind}
use Rattle.eip_ledger.specs.declared.entry.Kind.TheVariants.{Answer, Starve}
use Rattle.eip_history.specs.Plan.{Plan}
use Rattle.eip_history.specs.Own.{Past}
use Rattle.eip_history.specs.Place.{ended}
use Rattle.eip_history.specs.Rules.{Claim, claims, keeps, holds, lasts, is_key}

-- a claim, and whether it holds its key
pub record Hold : Type 0 where
  pub claim : Claim
  pub held : Bool

-- a claim as the end of its exchange leaves it: none where it is given up
abbrev pub hold_by : Option Finished → Claim → Option Hold
hold_by o c = cond (keeps c o) (Some (record { claim = c; held = holds c o })) None

abbrev pub hold_at : Plan → Past → Claim → Option Hold
hold_at s past c = hold_by (ended s past c.number) c

-- the claims that haven't been given up, the oldest first: those that hold their key, and those that wait for their exchange's end
unfoldable pub kept : Plan → Past → List Hold
kept s past = filter_map (hold_at s past) (claims s past)

-- x's claims turn at its end: they hold from there on, or are given up
abbrev pub turned : ℕ → Option Finished → Hold → Option Hold
turned x None h = Some h
turned x (Some f) h = cond (h.claim.number == x) (cond (lasts h.claim f) (Some (record h { held = true })) None) (Some h)

-- it holds this key
abbrev pub holds_key : List ℕ → List ℕ → Hold → Bool
holds_key r k h = is_key r k h.claim && h.held

abbrev pub hold_number : Hold → ℕ
hold_number h = h.claim.number

-- the numbers of those who hold this key
abbrev pub holding_numbers : List ℕ → List ℕ → List Hold → List ℕ
holding_numbers r k hs = map hold_number (filter (holds_key r k) hs)

-- an answer that lets its exchange claim a key
abbrev pub is_fresh : Reply → Bool
is_fresh reply.Fresh = true
is_fresh _ = false

-- an entry by which somebody may claim a key, hold one or give one up
abbrev pub moves_keys : Kind → Bool
moves_keys (Answer x a) = true
moves_keys (Starve x) = true
moves_keys _ = false
