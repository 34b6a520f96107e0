-- Which clause takes a fault.
use Rattle.std.specs.Prelude.{ℕ, Bool, List, [], ◌∷◌, Option, codes, bytes_eq, position}
use Rattle.std.specs.List.{list_any}
use Rattle.std.specs.Option.{option_or}
use Rattle.eip_text.specs.Cuts.{pieces}
use Rattle.eip_exchange.specs.declared.end.Fault.{Fault}
use Rattle.eip_exchange.specs.declared.setting.Clause.{Clause}

-- the last of some texts, or the one in front where there are none
abbrev pub last_of : List ℕ → List (List ℕ) → List ℕ
last_of t [] = t
last_of t (u ∷ us) = last_of u us

-- the last of a name's segments, which its dots (46) part
abbrev pub last_segment : List ℕ → List ℕ
last_segment name = last_of [] (pieces 46 name)

-- one of the clause's names has this kind as its last segment
abbrev pub names_kind : List ℕ → Clause → Bool
names_kind kind clause = list_any (λ name. bytes_eq (last_segment name) kind) clause.names

-- the first clause that names the fault's kind, else the first that names every kind
unfoldable pub chosen : List Clause → Fault → Option ℕ
chosen clauses fault = option_or (position (names_kind fault.kind) clauses) (position (names_kind (codes "Exception")) clauses)
