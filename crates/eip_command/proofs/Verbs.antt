-- The verb that a word is, by the list of verbs.
use Rattle.std.proofs.Common.{◌≡◌, ℕ, zero, suc, ◌+◌, ◌<◌, false, List, [], ◌∷◌, length, get_or, drop, Some, arith}
use Rattle.std.proofs.lemmas.Bool.{cond-false}
use Rattle.std.specs.Str.{bytes_eq}
use Rattle.eip_command.specs.declared.words.Verb.{Verb}
use Rattle.eip_command.specs.Words.{form, verb_among}

-- a verb whose word it isn't is passed by
pub among-next : (vs : List Verb) (i j : ℕ) (none : Verb) (word : List ℕ) → i < length vs → j ≡ i + 1 → bytes_eq (form (get_or vs i none)).word word ≡ false
    → verb_among (drop i vs) word ≡ verb_among (drop j vs) word
among-next [] i j none word within next other = absurd (omega arith)
among-next (v ∷ vs) i zero none word within next other = absurd (omega arith)
among-next (v ∷ vs) zero (suc zero) none word within next other = cond-false (bytes_eq (form v).word word) (Some v) (verb_among vs word) other
among-next (v ∷ vs) zero (suc (suc j)) none word within next other = absurd (omega arith)
among-next (v ∷ vs) (suc i) (suc j) none word within next other = among-next vs i j none word (omega arith) (omega arith) other
