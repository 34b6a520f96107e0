-- The names that a source of files has listed and not given, for each URI.
use Rattle.std.specs.Prelude.{ℕ, ◌≡◌, ◌==◌, not, Bool, false, List, [], ◌∷◌, Option, Some, None, Result, Ok, Err, filter}
use Rattle.eip_uri.specs.declared.uri.Uri.{Uri}
use Rattle.eip_uri.specs.declared.uri.Uri.TheVariants as uri
use Rattle.eip_endpoint.specs.Content.{IfTold}
use Rattle.eip_endpoint.specs.Files.{File, IsAscending, AreNamesIn}
use Rattle.eip_endpoint.specs.declared.source.Pulled.{Pulled}
use Rattle.eip_endpoint.specs.declared.source.Commit.{Commit}
use Rattle.eip_endpoint.specs.declared.source.PullFault.{PullFault}
use Rattle.eip_file.specs.Items.{TakesFile}

-- a source of files tells neither what it gave nor what it was told
abbrev pub untold_items : Option (List Pulled)
untold_items = None

abbrev pub untold_commits : Option (List Commit)
untold_commits = None

-- the folder of a file endpoint
abbrev pub folder_of : Uri → Option (List ℕ)
folder_of (uri.File folder after failed e) = Some folder
folder_of _ = None

-- does a name begin with a full stop
abbrev pub is_hidden : List ℕ → Bool
is_hidden [] = false
is_hidden (b ∷ bs) = b == 46

-- the names that don't begin with a full stop
abbrev pub shown : List (List ℕ) → List (List ℕ)
shown names = filter (λ n. not (is_hidden n)) names

-- the names of a folder's files in byte order, each once, without those that begin with a full stop
pub record IsListing (folder : List ℕ) (files : Option (List File)) (names : List (List ℕ)) : Type 0 where
  pub all : List (List ℕ)
  pub ascending : IsAscending all
  pub there : IfTold files (AreNamesIn folder all)
  pub visible : names ≡ shown all

-- a listing that was made stays; one that was not may be made
abbrev pub StaysListed : List ℕ → Option (List File) → Option (List (List ℕ)) → Option (List (List ℕ)) → Type 0
StaysListed folder files (Some names) after = after ≡ Some names
StaysListed folder files None None = Unit {0}
StaysListed folder files None (Some names) = IsListing folder files names

-- a pull gives the next file of the listing, which is made at the first one; a fault leaves all names
abbrev pub PulledFile : List ℕ → Option (List File) → Option (List (List ℕ)) → Result Pulled PullFault → Option (List (List ℕ)) → Type 0
PulledFile folder files before (Ok p) after =
    (names : List (List ℕ)) × StaysListed folder files before (Some names) × ((rest : List (List ℕ)) × (after ≡ Some rest) × TakesFile folder files names p rest)
PulledFile folder files before (Err f) after = StaysListed folder files before after
