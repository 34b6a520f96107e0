-- How a fault of a route file is told.
use Rattle.std.specs.Prelude.{◌≡◌, ℕ, List, [], ◌∷◌, ◌++◌, codes, refl}
use Rattle.eip_route_grammar.specs.Causes.{cause_text}
use Rattle.eip_route_grammar.specs.declared.fault.Cause.TheVariants as cause
use Rattle.eip_route_grammar.specs.declared.fault.RouteFault.{RouteFault}

unfoldable pub fault_line : RouteFault → List ℕ
fault_line f = codes "error routes " ++ (f.path ++ (32 ∷ (cause_text f.cause ++ (10 ∷ []))))

-- ---- worked rows

pub row-plain : fault_line (record { path = codes "$"; cause = cause.NoFile }) ≡ codes "error routes $ NoFile\n"
unfolding fault_line cause_text
row-plain = refl

pub row-word : fault_line (record { path = codes "$[0]"; cause = cause.UnknownKey (codes "rout") }) ≡ codes "error routes $[0] UnknownKey rout\n"
unfolding fault_line cause_text
row-word = refl
