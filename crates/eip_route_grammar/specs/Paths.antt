-- Where a fault stands: the steps of its path.
use Rattle.std.specs.Prelude.{ℕ, List, [], ◌++◌, codes, decimal}
use Rattle.eip_route_grammar.specs.declared.fault.Cause.{Cause}
use Rattle.eip_route_grammar.specs.declared.fault.RouteFault.{RouteFault}

abbrev pub key_step : List ℕ → List ℕ
key_step k = codes "." ++ k

abbrev pub index_step : ℕ → List ℕ
index_step k = codes "[" ++ (decimal k ++ codes "]")

-- a fault here, and the same fault with a step in front of its path
abbrev pub at_once : Cause → RouteFault
at_once c = record { path = []; cause = c }

abbrev pub placed : List ℕ → RouteFault → RouteFault
placed step f = record { path = step ++ f.path; cause = f.cause }
