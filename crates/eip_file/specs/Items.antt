-- What a file gives as a message (Camel manual, File).
use Rattle.std.specs.Prelude.{ℕ, ◌≡◌, ◌<◌, ◌≤◌, ◌⊎◌, codes, List, [], ◌∷◌, ◌++◌, Option, Some, None, Result, Ok, Err, length}
use Rattle.std.specs.Str.{IsUtf8}
use Rattle.eip_exchange.specs.declared.message.Message.{Message}
use Rattle.eip_endpoint.specs.Content.{IfTold}
use Rattle.eip_endpoint.specs.Files.{File, bytes_at}
use Rattle.eip_endpoint.specs.declared.files.FileRead.{FileRead}
use Rattle.eip_endpoint.specs.declared.files.FileRead.TheVariants as read
use Rattle.eip_endpoint.specs.declared.files.FileRead.TheVariants.{Bytes, Missing}
use Rattle.eip_endpoint.specs.declared.source.Pulled.{Pulled}
use Rattle.eip_endpoint.specs.declared.source.Pulled.TheVariants.{Item, Refused, End}
use Rattle.eip_endpoint.specs.declared.source.Refusal.TheVariants.{NotText, TooLong}
use Rattle.eip_endpoint.specs.declared.source.PullFault.{PullFault}
use Rattle.eip_endpoint.specs.declared.source.PullFault.TheVariants as pull

-- the message of a file: its bytes are the body, and the one header holds its name
abbrev pub message_of : List ℕ → List ℕ → Message
message_of name bytes = record { body = bytes; headers = (codes "CamelFileName", name) ∷ []; properties = [] }

-- a file of this name gives this: its message, or why it is none; it is too long where its bytes or its name are, and else no text where its bytes are no UTF-8
abbrev pub IsOfFile : List ℕ → List ℕ → Pulled → Type 0
IsOfFile name bytes (Item item m) = (item ≡ name) × (m ≡ message_of name bytes) × (length bytes ≤ 65536) × (length name ≤ 65536) × IsUtf8 bytes
IsOfFile name bytes (Refused item TooLong) = (item ≡ name) × ((65536 < length bytes) ⊎ (65536 < length name))
IsOfFile name bytes (Refused item NotText) = (item ≡ name) × (length bytes ≤ 65536) × (length name ≤ 65536) × ¬ (IsUtf8 bytes)
IsOfFile name bytes End = ⊥

-- what is given has this name, and a message has it as its header
abbrev pub IsNamed : List ℕ → Pulled → Type 0
IsNamed name (Item item m) = (item ≡ name) × (m ≡ message_of name m.body)
IsNamed name (Refused item c) = item ≡ name
IsNamed name End = ⊥

-- what reading answered gives: a file that is there its message or why it is none, and one that isn't nothing
abbrev pub GivenBy : List ℕ → FileRead → Option Pulled → Type 0
GivenBy name (Bytes bytes) (Some p) = IsOfFile name bytes p × IsNamed name p
GivenBy name (Bytes bytes) None = ⊥
GivenBy name Missing p = p ≡ None
GivenBy name read.TooLong p = p ≡ Some (Refused name TooLong)

-- where the files are told, one of this name is there and gives this
pub record GivesFile (folder name : List ℕ) (files : Option (List File)) (p : Pulled) : Type 0 where
  pub named : IsNamed name p
  pub file : IfTold files (λ all. (bytes : List ℕ) × (bytes_at folder name all ≡ Some bytes) × IsOfFile name bytes p)

-- no file of this name is there
abbrev pub IsMissing : List ℕ → List ℕ → List File → Type 0
IsMissing folder name all = bytes_at folder name all ≡ None

-- none of these is there
abbrev pub AreMissing : List ℕ → List (List ℕ) → List File → Type 0
AreMissing folder [] all = Unit {0}
AreMissing folder (n ∷ ns) all = IsMissing folder n all × AreMissing folder ns all

-- what reading a file gives, or nothing where none is there
abbrev pub ReadFile : List ℕ → List ℕ → Option (List File) → Option Pulled → Type 0
ReadFile folder name files (Some p) = GivesFile folder name files p
ReadFile folder name files None = IfTold files (IsMissing folder name)

-- the first file that is there gives this, and the rest of the names are left; at the end none is there and none is left
abbrev pub GivesNext : List ℕ → Option (List File) → Pulled → List (List ℕ) → List (List ℕ) → Type 0
GivesNext folder files (Item item m) left rest = (left ≡ item ∷ rest) × GivesFile folder item files (Item item m)
GivesNext folder files (Refused item c) left rest = (left ≡ item ∷ rest) × GivesFile folder item files (Refused item c)
GivesNext folder files End left rest = (left ≡ []) × (rest ≡ [])

-- of some names those of files that are not there are passed over, and what stands behind them gives this
pub record TakesFile (folder : List ℕ) (files : Option (List File)) (names : List (List ℕ)) (p : Pulled) (rest : List (List ℕ)) : Type 0 where
  pub passed : List (List ℕ)
  pub left : List (List ℕ)
  pub cut : names ≡ passed ++ left
  pub missing : IfTold files (AreMissing folder passed)
  pub gives : GivesNext folder files p left rest

-- 1 for a failure
abbrev pub failure_in : {T : Type 0} → Result T PullFault → ℕ
failure_in (Ok r) = 0
failure_in (Err pull.Failed) = 1
failure_in (Err pull.NoMemory) = 0
