-- Small journals with their verdicts.
use Rattle.std.specs.Prelude.{◌++◌, [], ◌∷◌}
use Rattle.eip_frames.specs.declared.answer.Answer.TheVariants as reply
use Rattle.eip_ledger.specs.declared.entry.Kind.TheVariants as kind
use Rattle.eip_history.specs.Own.{Past}
use Rattle.eip_history.specs.Example.{early, middle, past_of}

-- the clock moves past the moment at which the item is due
abbrev pub too_far : Past
too_far = past_of (early ++ middle ++ kind.Tick 8 ∷ kind.Answer 1 reply.Fresh ∷ [])

-- a source is pulled that is out already
abbrev pub pulled_twice : Past
pulled_twice = past_of (kind.Pull 0 ∷ kind.Pull 0 ∷ kind.SourceEnd 0 ∷ [])
