-- Files by folder and name: what reading and listing them answers, and what writing, moving and removing one leaves.
use Rattle.std.specs.Prelude.{ℕ, ◌≡◌, ◌≤◌, ◌&&◌, not, nat_le, bytes_eq, Bool, cond, if◌then◌else◌, List, [], ◌∷◌, ◌++◌, Option, Some, None, option_map, unwrap_or, is_some, Result, Ok, Err, length, filter}
use Rattle.std.specs.List.{list_any}
use Rattle.std.specs.List.Sorted.{IsStrictlySortedBy}
use Rattle.std.specs.Cmp.Lexicographic.{slice_cmp}
use Rattle.std.specs.Ordering.{nat_cmp}
use Rattle.eip_endpoint.specs.declared.files.FileRead.{FileRead}
use Rattle.eip_endpoint.specs.declared.files.FileRead.TheVariants.{Bytes, Missing, TooLong}
use Rattle.eip_endpoint.specs.declared.files.FilesFault.{FilesFault}
use Rattle.eip_endpoint.specs.declared.files.FilesFault.TheVariants as fault

-- a file: its folder, its name and its bytes
abbrev pub File : Type 0
File = List ℕ × List ℕ × List ℕ

-- is it the file of this name in this folder
abbrev pub is_file : List ℕ → List ℕ → File → Bool
is_file folder name f = bytes_eq f.0 folder && bytes_eq f.1 name

-- the bytes of a file, if it is there
abbrev pub bytes_at : List ℕ → List ℕ → List File → Option (List ℕ)
bytes_at folder name [] = None
bytes_at folder name (f ∷ fs) = cond (is_file folder name f) (Some f.2) (bytes_at folder name fs)

-- is there a file of this name in this folder
abbrev pub is_there : List ℕ → List ℕ → List File → Bool
is_there folder name all = is_some (bytes_at folder name all)

-- what reading answers: the bytes of a file that is there and no longer than the limit
abbrev pub read_of : ℕ → Option (List ℕ) → FileRead
read_of limit None = Missing
read_of limit (Some bytes) = cond (nat_le (length bytes) limit) (Bytes bytes) TooLong

-- the bytes that are answered are no longer than the limit
abbrev pub IsWithin : ℕ → FileRead → Type 0
IsWithin limit (Bytes bytes) = length bytes ≤ limit
IsWithin limit _ = Unit {0}

-- names in byte order, each once
abbrev pub IsAscending : List (List ℕ) → Type 0
IsAscending = IsStrictlySortedBy (slice_cmp nat_cmp)

-- is this name among these
abbrev pub is_among : List ℕ → List (List ℕ) → Bool
is_among name = list_any (λ n. bytes_eq n name)

-- exactly those names of which there is a file in the folder
abbrev pub AreNamesIn : List ℕ → List (List ℕ) → List File → Type 0
AreNamesIn folder names all = (name : List ℕ) → is_among name names ≡ is_there folder name all

-- the files but the one of this name in this folder
abbrev pub others : List ℕ → List ℕ → List File → List File
others folder name = filter (λ f. not (is_file folder name f))

-- the files, where the one of this name in this folder has these bytes and no other
abbrev pub with_file : List ℕ → List ℕ → List ℕ → List File → List File
with_file folder name bytes all = others folder name all ++ (folder, name, bytes) ∷ []

-- what a file holds; one that is not there holds nothing
abbrev pub held : List ℕ → List ℕ → List File → List ℕ
held folder name all = unwrap_or (bytes_at folder name all) []

-- the files behind a write: the bytes stand behind those that the file held, or in place of them
abbrev pub written : List ℕ → List ℕ → List ℕ → Bool → List File → List File
written folder name bytes append all = with_file folder name (if append then held folder name all ++ bytes else bytes) all

-- the files behind a move: the file stands under its name in the other folder, in place of one that stood there
abbrev pub moved : List ℕ → List ℕ → List ℕ → List File → List File
moved folder name to all = with_file to name (held folder name all) (others folder name all)

-- a call that was carried out makes this change, and any other changes nothing
abbrev pub Changes : (List File → List File) → Option (List File) → Result Unit FilesFault → Option (List File) → Type 0
Changes change old (Ok u) new = new ≡ option_map change old
Changes change old (Err f) new = new ≡ old

-- a write that failed may leave anything in its file, and leaves the others
abbrev pub Writes : List ℕ → List ℕ → List ℕ → Bool → Option (List File) → Result Unit FilesFault → Option (List File) → Type 0
Writes folder name bytes append old (Ok u) new = new ≡ option_map (written folder name bytes append) old
Writes folder name bytes append old (Err fault.Failed) new = option_map (others folder name) new ≡ option_map (others folder name) old
Writes folder name bytes append old (Err fault.NoMemory) new = new ≡ old

-- 1 for a failure
abbrev pub files_failure : {T : Type 0} → Result T FilesFault → ℕ
files_failure (Ok r) = 0
files_failure (Err fault.Failed) = 1
files_failure (Err fault.NoMemory) = 0
