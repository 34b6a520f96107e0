-- The groups of one aggregator and key, told apart from the running list: their arrivals in order, cut behind each closing.
use Rattle.std.specs.Prelude.{ℕ, ◌==◌, ◌&&◌, bytes_eq, cond, Bool, List, [], ◌∷◌, ◌++◌, Option, Some, None, is_none}
use Rattle.eip_frames.specs.declared.answer.Answer.{Answer as Reply}
use Rattle.eip_frames.specs.declared.answer.Answer.TheVariants as reply
use Rattle.eip_frames.specs.declared.answer.Completion.{Completion}
use Rattle.eip_frames.specs.declared.answer.Completion.TheVariants as by
use Rattle.eip_frames.specs.declared.request.Request.{Request}
use Rattle.eip_frames.specs.declared.request.Request.TheVariants.{Arrive}
use Rattle.eip_ledger.specs.declared.entry.Kind.{Kind}
use Rattle.eip_ledger.specs.declared.entry.Kind.TheVariants.{Answer, Tick, Force}
use Rattle.eip_history.specs.Plan.{Plan}
use Rattle.eip_history.specs.Own.{Past}
use Rattle.eip_history.specs.Groups.{Arrival, Group, after, is_at_most}
use Rattle.eip_history.specs.Births.{Asked, asked, arrival_of}

-- an arrival, with what closed its group behind it and before the next arrival
pub record Mark : Type 0 where
  pub arrival : Arrival
  pub closing : Option Completion

-- the mark of an arrival that a closing reaches: one that is closed already stays
abbrev pub mark_if : Completion → (Arrival → Bool) → Mark → Mark
mark_if c p m = cond (is_none m.closing && p m.arrival) (record m { closing = Some c }) m

-- a closing comes behind the last arrival
abbrev pub mark_last : Completion → (Arrival → Bool) → List Mark → List Mark
mark_last c p [] = []
mark_last c p (m ∷ []) = mark_if c p m ∷ []
mark_last c p (m ∷ (n ∷ ms)) = m ∷ mark_last c p (n ∷ ms)

-- an arrival is due its aggregator's timeout behind its own moment
abbrev pub is_due_at : Plan → ℕ → ℕ → Arrival → Bool
is_due_at s a t p = is_at_most (after p.at (s.group a).timeout) t

-- an arrival for this aggregator and key is marked with its closing; every other answer marks nothing
abbrev pub marked_for : Past → ℕ → List ℕ → Asked → Request → Reply → List Mark → List Mark
marked_for past a key k (Arrive b l m) (reply.Arrived n) ms =
    cond ((b == a) && bytes_eq l key) (ms ++ (record { arrival = arrival_of past k m; closing = None }) ∷ []) ms
marked_for past a key k (Arrive b l m) (reply.Closed g c n) ms =
    cond ((b == a) && bytes_eq l key) (ms ++ (record { arrival = arrival_of past k m; closing = Some c }) ∷ []) ms
marked_for past a key k _ _ ms = ms

-- nothing where nobody asks
abbrev pub marked_by : Past → ℕ → List ℕ → Option Asked → Reply → List Mark → List Mark
marked_by past a key (Some k) r ms = marked_for past a key k k.request r ms
marked_by past a key None r ms = ms

-- what an entry does to the marks of aggregator a and a key
abbrev pub marked_in : Plan → Past → ℕ → List ℕ → Kind → List Mark → List Mark
marked_in s past a key (Answer x r) ms = marked_by past a key (asked s past x) r ms
marked_in s past a key (Tick t) ms = mark_last by.Timeout (is_due_at s a t) ms
marked_in s past a key Force ms = mark_last by.Force (λ p. (s.group a).force) ms
marked_in s past a key _ ms = ms

-- the arrivals for aggregator a and a key, in the journal's order, with their closings
unfoldable pub marked : Plan → ℕ → List ℕ → Past → List Mark
marked s a key [] = []
marked s a key (e ∷ past) = marked_in s past a key e.kind (marked s a key past)

-- a piece of the arrivals, open or closed
pub record Piece : Type 0 where
  pub parts : List Arrival
  pub closed : Option Completion

-- what stands before the next mark is a piece, unless it is empty
abbrev pub open_piece : List Arrival → List Piece
open_piece [] = []
open_piece (p ∷ ps) = (record { parts = p ∷ ps; closed = None }) ∷ []

-- a piece ends where it is closed, and goes on where it isn't
abbrev pub cut_at : List Arrival → Option Completion → (List Arrival → List Piece) → List Piece
cut_at ps (Some c) rest = (record { parts = ps; closed = Some c }) ∷ rest []
cut_at ps None rest = rest ps

-- the marks cut behind each closing, where some arrivals stand before them; the last piece is open where no closing follows it
abbrev pub cut_from : List Arrival → List Mark → List Piece
cut_from before [] = open_piece before
cut_from before (m ∷ ms) = cut_at (before ++ m.arrival ∷ []) m.closing (λ ps. cut_from ps ms)

-- the pieces of aggregator a and a key
abbrev pub pieces : Plan → ℕ → List ℕ → Past → List Piece
pieces s a key past = cut_from [] (marked s a key past)

-- a group as a piece
abbrev pub piece_of : Group → Piece
piece_of g = record { parts = g.parts; closed = g.closed }

-- a group, open or closed, of this aggregator and key
abbrev pub is_of_key : ℕ → List ℕ → Group → Bool
is_of_key a key g = (g.aggregator == a) && bytes_eq g.key key
