-- What listing a folder answers by what the system gave.
use Rattle.std.specs.Prelude.{ℕ, ◌≡◌, ◌⊎◌, true, false, List, [], Result, Ok, Err, Bool, MatchResult}
use Rattle.std.specs.IoError.{error_kind}
use Rattle.std.specs.declared.io.Error.{Error}
use Rattle.std.specs.declared.io.ErrorKind.TheVariants.{NotFound}
use Rattle.eip_endpoint.specs.Files.{is_among}
use Rattle.eip_host.specs.Paths.{path_of}

-- the names that the system gave of a folder, or none where it found no such folder
pub record WasFound (lists : Result (List (List ℕ)) Error → Type 0) (found : List (List ℕ)) : Type 0 where
  pub gave : Result (List (List ℕ)) Error
  pub given : lists gave
  pub answers : MatchResult gave (λ names. found ≡ names) (λ e. (error_kind e ≡ NotFound) × (found ≡ []))

-- of the names that were found, those are kept whose path is that of a file, as the system tells, and no others
pub record AreFiles (tells : List ℕ → Result Bool Error → Type 0) (folder : List ℕ) (found kept : List (List ℕ)) : Type 0 where
  pub files : (name : List ℕ) → is_among name kept ≡ true → (is_among name found ≡ true) × tells (path_of folder name) (Ok true)
  pub others : (name : List ℕ) → is_among name found ≡ true → is_among name kept ≡ false → tells (path_of folder name) (Ok false)

-- the names are those of the files among what was found in a folder
pub record WasListed (lists : Result (List (List ℕ)) Error → Type 0) (tells : List ℕ → Result Bool Error → Type 0) (folder : List ℕ) (names : List (List ℕ)) : Type 0 where
  pub found : List (List ℕ)
  pub was_found : WasFound lists found
  pub kept : AreFiles tells folder found names

-- the system answered an error for a folder, or for the path of a name in it
abbrev pub WasRefused : (Result (List (List ℕ)) Error → Type 0) → (List ℕ → Result Bool Error → Type 0) → List ℕ → Type 0
WasRefused lists tells folder = ((e : Error) × lists (Err e)) ⊎ ((name : List ℕ) × (e : Error) × tells (path_of folder name) (Err e))
