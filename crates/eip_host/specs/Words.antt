-- What words ask of the program itself, and what it tells.
use Rattle.std.specs.Prelude.{ℕ, bytes_eq, codes, cond, List, [], ◌∷◌, Option, Some, None}
use Rattle.eip_host.specs.declared.words.Question.{Question}
use Rattle.eip_host.specs.declared.words.Question.TheVariants.{Help, Version}
use Rattle.eip_host.specs.declared.words.TheConstants.{HELP, VERSION}

-- what one word asks
abbrev pub asked_by : List ℕ → Option Question
asked_by word = cond (bytes_eq word (codes "--help")) (Some Help) (cond (bytes_eq word (codes "--version")) (Some Version) None)

-- a single word may ask for the page of help or the version; other words ask for neither
abbrev pub question_in : List (List ℕ) → Option Question
question_in [] = None
question_in (word ∷ []) = asked_by word
question_in (word ∷ other ∷ words) = None

-- what is told
abbrev pub text_of : Question → List ℕ
text_of Help = HELP.now
text_of Version = VERSION.now
