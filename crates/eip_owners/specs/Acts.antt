-- What the entries of a journal say that inlets did.
use Rattle.std.specs.Prelude.{List, [], ◌∷◌, ◌++◌, map}
use Rattle.eip_ledger.specs.declared.entry.Kind.{Kind}
use Rattle.eip_ledger.specs.declared.entry.Kind.TheVariants.{Accept, Refuse, SourceEnd, SourceFault}
use Rattle.eip_ledger.specs.declared.entry.Refused.{Refused as Cause}
use Rattle.eip_ledger.specs.declared.entry.Refused.TheVariants as cause
use Rattle.eip_endpoint.specs.declared.source.Refusal.{Refusal}
use Rattle.eip_endpoint.specs.declared.source.Refusal.TheVariants as refusal
use Rattle.eip_endpoint.specs.declared.source.Pulled.TheVariants.{Item, Refused, End as NoMore}
use Rattle.eip_endpoint.specs.Inlets.{Gave, Failed, InletAct}
use Rattle.eip_endpoint.specs.Outside.{Answered, Doors, acts_of, commits}
use Rattle.eip_history.specs.Own.{Past}
use Rattle.eip_history.specs.Rules.{Served}

-- an answer of the journal as lanes and inlets see it
abbrev pub seen_answer : Served → Answered
seen_answer v = record { worker = v.worker; origin = v.asked.birth.origin; request = v.asked.request; answer = v.answer }

-- the answers of a journal as lanes and inlets see them
abbrev pub seen_answers : List Served → List Answered
seen_answers vs = map seen_answer vs

-- the cause of a refusal in the words of a source
abbrev pub refusal_of : Cause → Refusal
refusal_of cause.NotText = refusal.NotText
refusal_of cause.TooLong = refusal.TooLong

-- what an entry says that a pull came to: the inlet gave an item, an item that was refused or its end, or it failed
abbrev pub pulls_in : Doors → Kind → List InletAct
pulls_in d (Accept t item m) = acts_of d t (Gave (Item item m) ∷ [])
pulls_in d (Refuse t item c) = acts_of d t (Gave (Refused item (refusal_of c)) ∷ [])
pulls_in d (SourceEnd t) = acts_of d t (Gave NoMore ∷ [])
pulls_in d (SourceFault t) = acts_of d t (Failed ∷ [])
pulls_in d _ = []

-- what the entries say that pulls came to, the oldest first
unfoldable pub pulls : Doors → Past → List InletAct
pulls d [] = []
pulls d (e ∷ behind) = pulls d behind ++ pulls_in d e.kind

-- what inlets did by these entries and answers: for each inlet what came of its pulls, and what it was told of ends
abbrev pub inlet_acts : Doors → Past → List Answered → List InletAct
inlet_acts d behind vs = pulls d behind ++ commits d vs
