-- The path of a file in a folder, and what reading a file answers by what opening its path gave.
use Rattle.std.specs.Prelude.{ℕ, ◌≡◌, ◌≢◌, bytes_eq, cond, List, [], ◌∷◌, ◌++◌, Option, Some, None, Result, Ok, Err, IfOk, IfSome}
use Rattle.std.specs.IoError.{error_kind}
use Rattle.std.specs.declared.io.Error.{Error}
use Rattle.std.specs.declared.io.ErrorKind.TheVariants.{NotFound}
use Rattle.eip_endpoint.specs.Files.{File, read_of}
use Rattle.eip_endpoint.specs.declared.files.FileRead.{FileRead}
use Rattle.eip_endpoint.specs.declared.files.FileRead.TheVariants.{Missing}
use Rattle.eip_endpoint.specs.declared.files.FilesFault.{FilesFault}
use Rattle.eip_endpoint.specs.declared.files.FilesFault.TheVariants as fault

-- the folder, a slash and the name; the root folder is the slash itself
abbrev pub path_of : List ℕ → List ℕ → List ℕ
path_of folder name = cond (bytes_eq folder (47 ∷ [])) (folder ++ name) (folder ++ 47 ∷ [] ++ name)

-- the files of a system tell no content
abbrev pub untold_files : Option (List File)
untold_files = None

-- a file that was not opened is missing exactly where the system found none, and else the files failed
pub record IsUnopened (e : Error) (r : Result FileRead FilesFault) : Type 0 where
  pub missing : error_kind e ≡ NotFound → r ≡ Ok Missing
  pub failed : error_kind e ≢ NotFound → r ≡ Err fault.Failed

-- a file that was opened is not missing, and answers the bytes that are left in it, where these are known
pub record IsOpened (left : Option (List ℕ)) (limit : ℕ) (r : Result FileRead FilesFault) : Type 0 where
  pub there : r ≢ Ok Missing
  pub read : IfOk r (λ a. IfSome left (λ all. a ≡ read_of limit (Some all)))

-- the answer to what opening a path gave, where `left` are the bytes that are left in a file
abbrev pub AnswersOpening : {T : Type 0} → (T → Option (List ℕ)) → ℕ → Result T Error → Result FileRead FilesFault → Type 0
AnswersOpening left limit (Ok file) r = IsOpened (left file) limit r
AnswersOpening left limit (Err e) r = IsUnopened e r

-- this path was opened, and the answer is that to what this gave
pub record WasTried {T : Type 0} (opens : List ℕ → Result T Error → Type 0) (left : T → Option (List ℕ)) (path : List ℕ) (limit : ℕ)
    (r : Result FileRead FilesFault) : Type 0 where
  pub gave : Result T Error
  pub opened : opens path gave
  pub answers : AnswersOpening left limit gave r
