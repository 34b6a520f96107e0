use Rattle.eip_verdict.proofs.Shown.{twice_is_wrong, far_is_wrong}
use Rattle.eip_verdict.proofs.laws.wrong_examples.Goals as goal

pub returns : goal.returns
returns c = record { pulled_twice = twice_is_wrong; too_far = far_is_wrong }
