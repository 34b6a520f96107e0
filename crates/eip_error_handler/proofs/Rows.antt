-- Worked rows of clauses and delays, by computing.
use Rattle.std.proofs.Common.{◌≡◌, ℕ, [], ◌∷◌, List, Some, None, true, false, refl}
use Rattle.std.specs.Prelude.{codes}
use Rattle.eip_exchange.specs.declared.end.Fault.{Fault}
use Rattle.eip_exchange.specs.declared.setting.Clause.{Clause}
use Rattle.eip_exchange.specs.declared.setting.Policy.{Policy}
use Rattle.eip_error_handler.specs.Clauses.{last_segment, chosen}
use Rattle.eip_error_handler.specs.Redelivery.{merged_policy, maximum_of, delay_of}

abbrev none : Policy
none = record { maximum = None; delay = None; multiplier = None; backing_off = None; greatest = None }

abbrev naming : List (List ℕ) → Clause
naming names = record { names = names; policy = none; handled = false; continued = true; block = None }

abbrev fault_of : List ℕ → Fault
fault_of kind = record { kind = kind; text = [] }

segments : last_segment (codes "org.acme.Bad") ∷ last_segment (codes "Bad") ∷ last_segment (codes "acme.") ∷ [] ≡ codes "Bad" ∷ codes "Bad" ∷ [] ∷ []
segments = refl

-- a clause that names the kind itself goes before one that names every kind
closest_first : chosen (naming (codes "java.lang.Exception" ∷ []) ∷ naming (codes "acme.Bad" ∷ codes "SendFailed" ∷ []) ∷ naming (codes "SendFailed" ∷ []) ∷ []) (fault_of (codes "SendFailed")) ≡ Some 1
unfolding chosen
closest_first = refl

every_kind : chosen (naming (codes "Bad" ∷ []) ∷ naming (codes "java.lang.Exception" ∷ []) ∷ []) (fault_of (codes "SendFailed")) ≡ Some 1
unfolding chosen
every_kind = refl

no_clause : chosen (naming (codes "Bad" ∷ []) ∷ []) (fault_of (codes "acme.Bad")) ≡ None
unfolding chosen
no_clause = refl

defaults : delay_of none 1 ∷ delay_of none 5 ∷ maximum_of none ∷ [] ≡ 1000 ∷ 1000 ∷ 0 ∷ []
unfolding delay_of
defaults = refl

abbrev growing : Policy
growing = record { maximum = None; delay = Some 3; multiplier = Some 10; backing_off = None; greatest = Some 1000 }

-- 3, 30, 300, and then the greatest
grown : delay_of growing 1 ∷ delay_of growing 2 ∷ delay_of growing 3 ∷ delay_of growing 4 ∷ delay_of growing 1000 ∷ [] ≡ 3 ∷ 30 ∷ 300 ∷ 1000 ∷ 1000 ∷ []
unfolding delay_of
grown = refl

-- backing off that is refused, and a greatest delay of 0
flat : delay_of (record growing { backing_off = Some false }) 3 ∷ delay_of (record growing { greatest = Some 0 }) 3 ∷ [] ≡ 3 ∷ 0 ∷ []
unfolding delay_of
flat = refl

twice : delay_of (record none { backing_off = Some true }) 4 ≡ 8000
unfolding delay_of
twice = refl

merges : maximum_of (merged_policy (record none { maximum = Some 0 }) (record growing { maximum = Some 2 })) ∷ delay_of (merged_policy (record none { maximum = Some 0 }) growing) 2 ∷ [] ≡ 0 ∷ 30 ∷ []
unfolding merged_policy delay_of
merges = refl
