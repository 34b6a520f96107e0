use Rattle.std.proofs.Common.{◌-◌, length, sym, ap, ◌∙◌}
use Rattle.std.proofs.lemmas.List.{length-reverse}
use Rattle.eip_shared.specs.Shared.{log}
use Rattle.eip_shared.proofs.Doing.{log-length}
use Rattle.eip_shared.proofs.shared.SharedRunChronicle.length.Goals as goal

pub returns : goal.returns
returns c =
    ap (λ es. length es - c.self.inside.began) c.entries.ensures
    ∙ (ap (λ n. n - c.self.inside.began) (length-reverse c.journal.result.now.past)
    ∙ (ap (λ j. length j.past - c.self.inside.began) c.journal.ensures.journal
    ∙ (sym (log-length (record { hub = c.self.inside.hub; began = c.self.inside.began }) c.self.invariant)
    ∙ ap (λ v. length (log v)) c.self.view_is)))
