-- What becomes of a source's file once its exchange has ended (Camel manual, File).
use Rattle.std.specs.Prelude.{ℕ, ◌≡◌, ◌==◌, bytes_eq, Bool, false, cond, List, [], ◌∷◌, ◌++◌, Option, Some, None, option_map, IsTrue, Result, Ok, Err}
use Rattle.eip_exchange.specs.declared.end.End.{End}
use Rattle.eip_exchange.specs.declared.end.End.TheVariants.{Completed, Handled, Failed}
use Rattle.eip_uri.specs.declared.uri.After.{After}
use Rattle.eip_uri.specs.declared.uri.After.TheVariants.{Noop, Delete, Move}
use Rattle.eip_uri.specs.declared.uri.Uri.{Uri}
use Rattle.eip_uri.specs.declared.uri.Uri.TheVariants as uri
use Rattle.eip_endpoint.specs.Content.{IfTold}
use Rattle.eip_endpoint.specs.Files.{File, is_there, others, moved}
use Rattle.eip_endpoint.specs.declared.source.CommitFault.{CommitFault}

-- it stays, is removed, or is moved to a folder
pub data Way : Type 0 where
  Stays : Way
  Removed : Way
  MovedTo : List ℕ → Way

-- does a folder's name begin at the root
abbrev pub is_rooted : List ℕ → Bool
is_rooted [] = false
is_rooted (b ∷ bs) = b == 47

-- the path of what has this name in a folder; the root folder is the slash itself
abbrev pub path_of : List ℕ → List ℕ → List ℕ
path_of folder name = cond (bytes_eq folder (47 ∷ [])) (folder ++ name) (folder ++ 47 ∷ [] ++ name)

-- a folder in another one, unless it begins at the root itself
abbrev pub within : List ℕ → List ℕ → List ℕ
within folder to = cond (is_rooted to) to (path_of folder to)

-- the way of a file whose exchange failed: to the folder for these, or it stays
abbrev pub way_of_failed : List ℕ → Option (List ℕ) → Way
way_of_failed folder (Some to) = MovedTo (within folder to)
way_of_failed folder None = Stays

-- one way for an end that is well, and another for a failure
abbrev pub way_by : End → Way → Way → Way
way_by Completed well ill = well
way_by Handled well ill = well
way_by (Failed f) well ill = ill

-- the way of a file by how its exchange ended; with noop it stays whatever the end
abbrev pub way_of : List ℕ → After → Option (List ℕ) → End → Way
way_of folder Noop failed e = Stays
way_of folder Delete failed e = way_by e Removed (way_of_failed folder failed)
way_of folder (Move to) failed e = way_by e (MovedTo (within folder to)) (way_of_failed folder failed)

-- a file went its way, for which it was there
abbrev pub Went : List ℕ → List ℕ → Way → Option (List File) → Option (List File) → Type 0
Went folder name Stays old new = new ≡ old
Went folder name Removed old new = IfTold old (λ all. IsTrue (is_there folder name all)) × (new ≡ option_map (others folder name) old)
Went folder name (MovedTo to) old new = IfTold old (λ all. IsTrue (is_there folder name all)) × (new ≡ option_map (moved folder name to) old)

-- a commit sends the file on its way, or changes no file
abbrev pub CommittedFile : List ℕ → List ℕ → Way → Option (List File) → Result Unit CommitFault → Option (List File) → Type 0
CommittedFile folder name way old (Ok u) new = Went folder name way old new
CommittedFile folder name way old (Err f) new = new ≡ old

-- the same of an item of an endpoint; one that is none of files has none to send
abbrev pub Committed : Uri → List ℕ → End → Option (List File) → Result Unit CommitFault → Option (List File) → Type 0
Committed (uri.File folder after failed x) item e old r new = CommittedFile folder item (way_of folder after failed e) old r new
Committed _ item e old r new = (r ≡ Ok tt) × (new ≡ old)
