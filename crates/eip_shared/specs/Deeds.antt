-- What workers know of their entries: of an answer also what it answers.
use Rattle.std.specs.Prelude.{ℕ, ◌≡◌, ◌==◌, ◌&&◌, not, cond, false, Bool, true, List, [], ◌∷◌, ◌++◌, Option, Some, None, map, reverse}
use Rattle.std.specs.List.{flat_map, list_any}
use Rattle.eip_frames.specs.Fits.{is_outside}
use Rattle.eip_frames.specs.declared.answer.Answer.{Answer as Reply}
use Rattle.eip_ledger.specs.declared.entry.Entry.{Entry}
use Rattle.eip_ledger.specs.declared.entry.Kind.{Kind}
use Rattle.eip_ledger.specs.declared.entry.Kind.TheVariants.{Accept, Refuse, SourceEnd, SourceFault, Answer, Pull, Starve, Take}
use Rattle.eip_endpoint.specs.Outside.{Answered}
use Rattle.eip_history.specs.Births.{Asked, asked}
use Rattle.eip_history.specs.Own.{Past}
use Rattle.eip_history.specs.Plan.{Plan}
use Rattle.eip_shared.specs.declared.deed.Deed.{Deed}
use Rattle.eip_shared.specs.declared.deed.Given.{Given}

-- an answer with what it answers, if anybody asked
abbrev pub given_to : Option Asked → Reply → Option Given
given_to (Some k) a = Some (record { origin = k.birth.origin; request = k.request; answer = a })
given_to None a = None

-- the answer that an entry gives, with what it answers
abbrev pub given_by : Plan → Past → Kind → Option Given
given_by s past (Answer x a) = given_to (asked s past x) a
given_by s past _ = None

-- an entry behind a past as its worker knows it
abbrev pub deed : Plan → Past → Kind → Deed
deed s past k = record { kind = k; given = given_by s past k }

-- an entry that is no answer
abbrev pub silent : Kind → Deed
silent k = record { kind = k; given = None }

-- the entries behind a past, the oldest first, each with who made it
unfoldable pub deeds : Plan → Past → Past → List (ℕ × Deed)
deeds s past [] = []
deeds s past (e ∷ behind) = deeds s past behind ++ (e.worker, deed s (behind ++ past) e.kind) ∷ []

-- the entry that a deed is
abbrev pub entry_of : ℕ × Deed → Entry
entry_of x = record { worker = x.0; kind = x.1.kind }

-- the entries that some deeds are, the newest first
abbrev pub past_of : List (ℕ × Deed) → Past
past_of xs = reverse (map entry_of xs)

-- ---- one worker

-- its deeds among all
abbrev pub done_by : ℕ → List Deed → List (ℕ × Deed)
done_by w ds = map (λ (d : Deed). (w, d)) ds

-- the entries that its deeds are, the newest first
abbrev pub own_entries : ℕ → List Deed → Past
own_entries w ds = past_of (done_by w ds)

-- an answer of it as lanes and inlets see it
abbrev pub own_answer : ℕ → Option Given → List Answered
own_answer w (Some g) = record { worker = w; origin = g.origin; request = g.request; answer = g.answer } ∷ []
own_answer w None = []

-- the answers that its deeds are, the oldest first
abbrev pub own_answers : ℕ → List Deed → List Answered
own_answers w ds = flat_map (λ (d : Deed). own_answer w d.given) ds

-- ---- what was done outside

-- does an entry tell what came of a pull
abbrev pub ends_pull : Kind → Bool
ends_pull (Accept t item m) = true
ends_pull (Refuse t item cause) = true
ends_pull (SourceEnd t) = true
ends_pull (SourceFault t) = true
ends_pull _ = false

-- is it the answer of somebody outside
abbrev pub is_from_outside : Option Given → Bool
is_from_outside (Some g) = is_outside g.request
is_from_outside None = false

-- nobody outside was needed for it
abbrev pub IsInner : Deed → Type 0
IsInner d = (ends_pull d.kind ≡ false) × (is_from_outside d.given ≡ false)

-- ---- what was begun

-- does an entry begin what another one has to end: an exchange is taken in hand, or a source is pulled
abbrev pub begins : Kind → Bool
begins (Take x) = true
begins (Pull t) = true
begins _ = false

-- does an entry of the same worker end what this one began
abbrev pub ends : Kind → Kind → Bool
ends (Take x) (Answer y a) = x == y
ends (Take x) (Starve y) = x == y
ends (Pull t) (Accept u item m) = t == u
ends (Pull t) (Refuse u item cause) = t == u
ends (Pull t) (SourceEnd u) = t == u
ends (Pull t) (SourceFault u) = t == u
ends _ _ = false

-- what some deeds, the oldest first, began and did not end
abbrev pub left_open : List Deed → List Kind
left_open [] = []
left_open (d ∷ ds) = cond (begins d.kind && not (list_any (λ (e : Deed). ends d.kind e.kind) ds)) (d.kind ∷ left_open ds) (left_open ds)
