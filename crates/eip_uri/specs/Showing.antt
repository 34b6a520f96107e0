-- What is printed of the options as the printer lists them.
use Rattle.std.specs.Prelude.{ℕ, Bool, List, [], ◌∷◌, ◌++◌, bytes_eq, codes, Option, Some, None, option_map, if◌then◌else◌}
use Rattle.eip_uri.specs.declared.print.Shown.{Shown}
use Rattle.eip_uri.specs.declared.uri.After.{After}
use Rattle.eip_uri.specs.declared.uri.After.TheVariants as after
use Rattle.eip_uri.specs.declared.uri.Exist.{Exist}
use Rattle.eip_uri.specs.Printed.{Given, exist_word, is_override}

-- an option that has a value
abbrev pub valued : List ℕ → Option (List ℕ) → List Given
valued name None = []
valued name (Some value) = (name, value) ∷ []

-- the options that have a value
abbrev pub shown : List Shown → List Given
shown [] = []
shown (o ∷ os) = valued o.name.now (option_map (λ x. x.now) o.value) ++ shown os

-- a value, unless it is the default one
abbrev pub unless : Bool → List ℕ → Option (List ℕ)
unless is_default value = if is_default then None else Some value

abbrev pub delete_shown : After → Option (List ℕ)
delete_shown after.Delete = Some (codes "true")
delete_shown _ = None

abbrev pub noop_shown : After → Option (List ℕ)
noop_shown after.Noop = Some (codes "true")
noop_shown _ = None

abbrev pub move_shown : After → Option (List ℕ)
move_shown (after.Move folder) = unless (bytes_eq folder (codes ".camel")) folder
move_shown _ = None

abbrev pub exist_shown : Exist → Option (List ℕ)
exist_shown e = unless (is_override e) (exist_word e)
