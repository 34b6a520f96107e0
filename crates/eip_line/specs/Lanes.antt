-- What a lane of lines writes.
use Rattle.std.specs.Prelude.{ℕ, List, [], ◌∷◌, ◌++◌, Option, None}
use Rattle.eip_endpoint.specs.declared.endpoint.Call.{Call}

-- a lane of lines tells no calls
abbrev pub untold_calls : Option (List Call)
untold_calls = None

-- the line of a body: its bytes and an LF
abbrev pub line_of : List ℕ → List ℕ
line_of body = body ++ 10 ∷ []
