use Rattle.std.proofs.Common.{◌≡◌, drop}
use Rattle.eip_command.specs.Words.{verb_of, verb_among, verbs}
use Rattle.eip_command.proofs.words.Verb.read.Given as goal

abbrev pub invariant-loop-verb : goal.invariant-loop-verb
invariant-loop-verb l = (verb_of l.word ≡ verb_among (drop l.verb-index l.verb-items) l.word) × (l.verb-items ≡ verbs)
