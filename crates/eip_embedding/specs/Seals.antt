-- What a seal answers.
use Rattle.std.specs.Prelude.{ℕ, zero, suc, ◌≡◌, cond, List, Result, Ok, Err, codes}
use Rattle.sha2.specs.Sha256.{sha256}
use Rattle.hex.specs.Hex.{encode_lower}
use Rattle.eip_exchange.specs.declared.message.Message.{Message}
use Rattle.eip_exchange.specs.declared.end.Fault.{Fault}
use Rattle.eip_exchange.specs.Ends.{fault}
use Rattle.eip_exchange.specs.Headers.{put_header, is_one_too_many}
use Rattle.eip_processor.specs.declared.processor.ProcessFault.{ProcessFault}
use Rattle.eip_processor.specs.declared.processor.ProcessFault.TheVariants as process_fault

-- the digest of bytes, taken again over the digest so many times
abbrev pub digest_behind : ℕ → List ℕ → List ℕ
digest_behind zero bytes = sha256 bytes
digest_behind (suc rounds) bytes = sha256 (digest_behind rounds bytes)

-- the name of the header
abbrev pub seal : List ℕ
seal = codes "seal"

-- its value
abbrev pub seal_of : ℕ → List ℕ → List ℕ
seal_of rounds body = encode_lower (digest_behind rounds body)

-- the message with that header
abbrev pub with_seal : ℕ → Message → Message
with_seal rounds m = record m { headers = put_header seal (seal_of rounds m.body) m.headers }

-- what becomes of a message: it gets the header, or that is one too many
abbrev pub answer_of : ℕ → Message → Result Message Fault
answer_of rounds m = cond (is_one_too_many seal m.headers) (Err (fault (codes "TooManyHeaders") seal)) (Ok (with_seal rounds m))

-- a seal of so many rounds answers that, or there was no memory for it
abbrev pub Seals : ℕ → Message → Result Message ProcessFault → Type 0
Seals rounds m (Ok answer) = answer_of rounds m ≡ Ok answer
Seals rounds m (Err (process_fault.Raised f)) = answer_of rounds m ≡ Err f
Seals rounds m (Err process_fault.NoMemory) = Unit {0}
