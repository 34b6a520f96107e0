use Rattle.std.proofs.Common.{ℕ, ◌==◌, is_some, ap, ◌∙◌}
use Rattle.eip_join.specs.Parts.{Open, all_of}
use Rattle.eip_join.proofs.Ends.{none_left}
use Rattle.eip_join.proofs.open_join.OpenJoin.is_complete.Goals as goal

pub returns : goal.returns
returns c = ap (λ (n : ℕ). n == 0) c.self.invariant.0 ∙ none_left c.self.inside.ends.items ∙ ap (λ (j : Open). is_some (all_of j.ends)) c.self.view_is
