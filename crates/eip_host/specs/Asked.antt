-- What a call on files answers by what the system was asked and gave.
use Rattle.std.specs.Prelude.{ℕ, ◌≡◌, ◌⊎◌, List, Option, Result, Ok, Err, is_ok, MatchResult}
use Rattle.std.specs.IoError.{error_kind}
use Rattle.std.specs.declared.io.Error.{Error}
use Rattle.std.specs.declared.io.ErrorKind.TheVariants.{NotFound}
use Rattle.eip_endpoint.specs.declared.files.FilesFault.{FilesFault}
use Rattle.eip_endpoint.specs.declared.files.FilesFault.TheVariants as fault
use Rattle.eip_host.specs.Outputs.{Put}

-- a call at which the system answered an error has failed
abbrev pub answer_to : {T : Type 0} → Result T Error → Result T FilesFault
answer_to (Ok x) = Ok x
answer_to (Err e) = Err fault.Failed

-- the system was asked once, and what it gave is answered
pub record WasAsked {T : Type 0} (gives : Result T Error → Type 0) (r : Result T FilesFault) : Type 0 where
  pub gave : Result T Error
  pub given : gives gave
  pub answers : r ≡ answer_to gave

-- the system found no file or folder of some path
abbrev pub IsNotFound : {T : Type 0} → Result T Error → Type 0
IsNotFound (Ok x) = ⊥
IsNotFound (Err e) = error_kind e ≡ NotFound

-- the system found none at first; then a folder was made and it was asked again, or the folder could not be made
pub record WasAskedAgain {T : Type 0} (gives : Result T Error → Type 0) (makes : Result Unit Error → Type 0) (r : Result T Error) : Type 0 where
  pub first : Result T Error
  pub given : gives first
  pub not_found : IsNotFound first
  pub made : Result Unit Error
  pub making : makes made
  pub last : MatchResult made (λ _. gives r) (λ e. r ≡ Err e)

-- the system was asked, and once more where it found none and a folder was made
abbrev pub WasAskedMaking : {T : Type 0} → (Result T Error → Type 0) → (Result Unit Error → Type 0) → Result T Error → Type 0
WasAskedMaking gives makes r = (gives r × ¬ (IsNotFound r)) ⊎ WasAskedAgain gives makes r

-- what the system gave then is answered
pub record WasAskedFor {T : Type 0} (gives : Result T Error → Type 0) (makes : Result Unit Error → Type 0) (r : Result T FilesFault) : Type 0 where
  pub gave : Result T Error
  pub asked : WasAskedMaking gives makes gave
  pub answers : r ≡ answer_to gave

-- a file was opened for writing and all of the bytes were put into it, or not all of them, which has failed, as has a file that was not opened
pub record WasPut {T : Type 0} (opens : Result T Error → Type 0) (makes : Result Unit Error → Type 0) (contents : T → Option (List ℕ)) (bytes : List ℕ)
    (r : Result Unit FilesFault) : Type 0 where
  pub opened : Result T Error
  pub asked : WasAskedMaking opens makes opened
  pub put : MatchResult opened (λ file. (after : Option (List ℕ)) × Put (contents file) bytes (is_ok r) after) (λ e. r ≡ Err fault.Failed)
