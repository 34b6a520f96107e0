use Rattle.std.proofs.Common.{length, ap, ◌∙◌}
use Rattle.std.proofs.lemmas.List.{length-reverse}
use Rattle.eip_shared.proofs.Doing.{begun-facts, begun-log}
use Rattle.eip_shared.proofs.shared.SharedRun.new.Goals as goal

pub invariant_of-result : goal.invariant_of-result
invariant_of-result c =
    begun-facts c.args.hub (length c.entries-began.result.now)
    (ap length c.entries-began.ensures ∙ (length-reverse c.journal.result.now.past ∙ ap (λ j. length j.past) c.journal.ensures.journal))

pub returns-clause-log : goal.returns-clause-log
returns-clause-log c =
    begun-log c.args.hub (length c.entries-began.result.now)
    (ap length c.entries-began.ensures ∙ (length-reverse c.journal.result.now.past ∙ ap (λ j. length j.past) c.journal.ensures.journal))
