use Rattle.eip_route_validity.proofs.filed.Whole.{file_fits}
use Rattle.eip_route_roundtrip.proofs.Faultless.{faultless_again}
use Rattle.eip_route_roundtrip.proofs.ReadAgain.{read_again}
use Rattle.eip_route_roundtrip.proofs.Sets.{nested_again}
use Rattle.eip_route_roundtrip.proofs.laws.printing_law.Goals as goal

pub returns : goal.returns
returns c = read_again file_fits nested_again faultless_again
