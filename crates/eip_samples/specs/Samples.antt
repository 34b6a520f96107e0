-- What the shipped processors answer, and the predicate.
use Rattle.std.specs.Prelude.{ℕ, ◌≡◌, Bool, true, false, cond, List, [], ◌∷◌, Option, Result, Ok, Err, codes}
use Rattle.std.specs.Option.{option_map_or}
use Rattle.eip_text.specs.Cuts.{cut}
use Rattle.eip_exchange.specs.declared.message.Message.{Message}
use Rattle.eip_exchange.specs.declared.end.Fault.{Fault}
use Rattle.eip_exchange.specs.Ends.{fault}
use Rattle.eip_exchange.specs.Headers.{put_header, is_one_too_many}
use Rattle.eip_processor.specs.declared.processor.ProcessFault.{ProcessFault}
use Rattle.eip_processor.specs.declared.processor.ProcessFault.TheVariants as process_fault
use Rattle.eip_samples.specs.declared.sample.Sample.{Sample}
use Rattle.eip_samples.specs.declared.sample.Sample.TheVariants as sample

-- the byte of a comma
abbrev pub comma : ℕ
comma = 44

-- the body before its first comma, or the whole body where it has none
abbrev pub field_of : List ℕ → List ℕ
field_of body = option_map_or (λ p. p.0) (cut comma body) body

-- the name of the header that is set to it
abbrev pub field : List ℕ
field = codes "field"

-- the message with that header
abbrev pub with_field : Message → Message
with_field m = record m { headers = put_header field (field_of m.body) m.headers }

-- what a sample makes of a message: another message, or a fault
abbrev pub answer_of : Sample → Message → Result Message Fault
answer_of sample.Keep m = Ok m
answer_of sample.Field m = cond (is_one_too_many field m.headers) (Err (fault (codes "TooManyHeaders") field)) (Ok (with_field m))
answer_of sample.Refuse m = Err (fault (codes "Refused") m.body)

-- it answers that, or there was no memory for it
abbrev pub Answers : Sample → Message → Result Message ProcessFault → Type 0
Answers s m (Ok answer) = answer_of s m ≡ Ok answer
Answers s m (Err (process_fault.Raised f)) = answer_of s m ≡ Err f
Answers s m (Err process_fault.NoMemory) = Unit {0}

-- a text without bytes
abbrev pub is_empty : List ℕ → Bool
is_empty [] = true
is_empty (b ∷ bs) = false

-- the shipped processors by their names
abbrev pub samples : List (List ℕ × Sample)
samples = (codes "keep", sample.Keep) ∷ (field, sample.Field) ∷ (codes "refuse", sample.Refuse) ∷ []
