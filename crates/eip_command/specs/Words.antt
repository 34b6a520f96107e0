-- Which lists of words are a command, and which file a path names.
use Rattle.std.specs.Prelude.{◌≡◌, ◌≢◌, ◌≤◌, ℕ, true, false, ◌⊎◌, List, [], ◌∷◌, ◌++◌, drop, bytes_eq, codes, decimal, Option, Some, None, option_map, unwrap_or, if◌then◌else◌, refl}
use Rattle.std.specs.Fmt.{digits}
use Rattle.eip_text.specs.Counts.{count_of}
use Rattle.eip_text.specs.Cuts.{holds_byte}
use Rattle.eip_command.specs.Forms.{is_path, Options, CommandForm, admits, value_of}
use Rattle.eip_command.specs.declared.forms.Rule.TheVariants as rule
use Rattle.eip_command.specs.declared.words.Path.{Path}
use Rattle.eip_command.specs.declared.words.Command.{Command}
use Rattle.eip_command.specs.declared.words.Command.TheVariants as command
use Rattle.eip_command.specs.declared.words.Verb.{Verb}
use Rattle.eip_command.specs.declared.words.Verb.TheVariants as verb

-- what stands behind the last `/`, or all where there is none
abbrev pub name_of : List ℕ → List ℕ
name_of [] = []
name_of (b ∷ bs) = if holds_byte 47 (b ∷ bs) then name_of bs else b ∷ bs

-- what stands before the last `/`
abbrev pub front_of : List ℕ → List ℕ
front_of [] = []
front_of (b ∷ bs) = if holds_byte 47 bs then b ∷ front_of bs else []

-- the root, where nothing stands before the last `/`
abbrev pub or_root : List ℕ → List ℕ
or_root [] = codes "/"
or_root (b ∷ bs) = b ∷ bs

-- the folder: `.` where the path has no `/`
abbrev pub folder_of : List ℕ → List ℕ
folder_of bs = if holds_byte 47 bs then or_root (front_of bs) else codes "."

abbrev pub file_at : List ℕ → Path
file_at bs = record { folder = folder_of bs; name = name_of bs }

-- ---- the commands

-- the options of a drain
abbrev pub drain_options : Options
drain_options = (codes "--workers", rule.Count 0 16) ∷ (codes "--turns", rule.Count 1 1000000) ∷ (codes "--journal", rule.Path) ∷ []

-- the form of each
abbrev pub form : Verb → CommandForm
form verb.Drain = record { word = codes "drain"; operands = rule.Path ∷ []; options = drain_options }
form verb.Check = record { word = codes "check"; operands = rule.Path ∷ []; options = [] }
form verb.Audit = record { word = codes "audit"; operands = rule.Path ∷ rule.Path ∷ []; options = [] }
form verb.Load = record { word = codes "load"; operands = rule.Count 1 20000 ∷ rule.Count 0 16 ∷ []; options = [] }
form verb.Migrate = record { word = codes "migrate"; operands = rule.Path ∷ rule.Path ∷ []; options = [] }

abbrev pub verbs : List Verb
verbs = verb.Drain ∷ verb.Check ∷ verb.Audit ∷ verb.Load ∷ verb.Migrate ∷ []

-- the first of these verbs whose word this is
abbrev pub verb_among : List Verb → List ℕ → Option Verb
verb_among [] word = None
verb_among (v ∷ vs) word = if bytes_eq (form v).word word then Some v else verb_among vs word

abbrev pub verb_of : List ℕ → Option Verb
verb_of word = verb_among verbs word

-- the file that the first of the words behind a verb names
abbrev pub first_file : List (List ℕ) → Path
first_file [] = file_at []
first_file (path ∷ words) = file_at path

-- and the second
abbrev pub second_file : List (List ℕ) → Path
second_file [] = file_at []
second_file (path ∷ words) = first_file words

-- the number of workers of a drain whose words name none: without any it runs on the caller's own thread
abbrev pub default_workers : ℕ
default_workers = 0

-- the limit on turns of a drain whose words name none
abbrev pub default_turns : ℕ
default_turns = 100000

-- the number that the value of an option is, or this one where the option isn't given
abbrev pub count_or : ℕ → Option (List ℕ) → ℕ
count_or otherwise None = otherwise
count_or otherwise (Some value) = unwrap_or (count_of value) otherwise

-- the number of workers that the options of a drain name
abbrev pub workers_in : List (List ℕ) → ℕ
workers_in options = count_or default_workers (value_of (codes "--workers") options)

-- the limit on turns that they name
abbrev pub turns_in : List (List ℕ) → ℕ
turns_in options = count_or default_turns (value_of (codes "--turns") options)

-- the file that the options of a drain name for its journal
abbrev pub journal_in : List (List ℕ) → Option Path
journal_in options = option_map file_at (value_of (codes "--journal") options)

-- the number that the first of the words behind a verb names
abbrev pub first_count : List (List ℕ) → ℕ
first_count [] = 0
first_count (word ∷ words) = unwrap_or (count_of word) 0

-- and the second
abbrev pub second_count : List (List ℕ) → ℕ
second_count [] = 0
second_count (word ∷ words) = first_count words

-- what a verb asks for, with these words behind it
abbrev pub asked : Verb → List (List ℕ) → Command
asked verb.Drain words = command.Drain (first_file words) (workers_in (drop 1 words)) (turns_in (drop 1 words)) (journal_in (drop 1 words))
asked verb.Check words = command.Check (first_file words)
asked verb.Audit words = command.Audit (first_file words) (second_file words)
asked verb.Load words = command.Load (first_count words) (second_count words)
asked verb.Migrate words = command.Migrate (first_file words) (second_file words)

abbrev pub command_by : Option Verb → List (List ℕ) → Option Command
command_by None words = None
command_by (Some v) words = if admits (form v) words then Some (asked v words) else None

-- the command, or none where the words are of no command's form
abbrev pub command_of : List (List ℕ) → Option Command
command_of [] = None
command_of (word ∷ words) = command_by (verb_of word) words

-- the path of the route file that a command names; the routes of a load are built in, and a migration has none
abbrev pub path_in : Command → Option Path
path_in (command.Drain routes workers turns journal) = Some routes
path_in (command.Check routes) = Some routes
path_in (command.Audit routes journal) = Some routes
path_in (command.Load items workers) = None
path_in (command.Migrate old new) = None

-- the file that a command names for the journal of its run
abbrev pub journal_of : Command → Option Path
journal_of (command.Drain routes workers turns journal) = journal
journal_of (command.Check routes) = None
journal_of (command.Audit routes journal) = None
journal_of (command.Load items workers) = None
journal_of (command.Migrate old new) = None

-- by how many workers a command runs its routes
abbrev pub workers_of : Command → ℕ
workers_of (command.Drain routes workers turns journal) = workers
workers_of (command.Check routes) = 0
workers_of (command.Audit routes journal) = 0
workers_of (command.Load items workers) = workers
workers_of (command.Migrate old new) = 0

-- ---- the same said without cutting

-- the path is the name alone, or the name behind a `/` and in front of it the folder
abbrev pub IsAt : List ℕ → List ℕ → List ℕ → Type 0
IsAt folder name path =
    ((path ≡ name) × (folder ≡ codes ".")) ⊎ (((path ≡ 47 ∷ name) × (folder ≡ codes "/")) ⊎ ((path ≡ folder ++ (47 ∷ name)) × (folder ≢ [])))

-- the file that a path names
pub record IsFile (path : List ℕ) (file : Path) : Type 0 where
  pub at : IsAt file.folder file.name path
  pub plain : holds_byte 47 file.name ≡ false

-- a word and a path, and these words behind them
pub record IsOn (first : List ℕ) (behind words : List (List ℕ)) (routes : Path) : Type 0 where
  pub path : List ℕ
  pub said : words ≡ first ∷ (path ∷ behind)
  pub fit : is_path path ≡ true
  pub file : IsFile path routes

-- a word and two paths
pub record IsOnTwo (first : List ℕ) (words : List (List ℕ)) (one other : Path) : Type 0 where
  pub path : List ℕ
  pub on : IsOn first (path ∷ []) words one
  pub fit : is_path path ≡ true
  pub file : IsFile path other

-- options in any order, each once at most, that name a number of workers, a limit on turns and a file for the journal; none of what isn't given
pub data Names : List (List ℕ) → (workers turns : Option ℕ) → (journal : Option Path) → Type 0 where
  NamesNothing : Names [] None None None
  NamesWorkers : (value : List ℕ) (n : ℕ) (behind : List (List ℕ)) (turns : Option ℕ) (journal : Option Path) → count_of value ≡ Some n
      → Names behind None turns journal → Names (codes "--workers" ∷ (value ∷ behind)) (Some n) turns journal
  NamesTurns : (value : List ℕ) (n : ℕ) (behind : List (List ℕ)) (workers : Option ℕ) (journal : Option Path) → count_of value ≡ Some n
      → Names behind workers None journal → Names (codes "--turns" ∷ (value ∷ behind)) workers (Some n) journal
  NamesJournal : (value : List ℕ) (file : Path) (behind : List (List ℕ)) (workers turns : Option ℕ) → is_path value ≡ true → IsFile value file
      → Names behind workers turns None → Names (codes "--journal" ∷ (value ∷ behind)) workers turns (Some file)

-- the words are those of a drain: where they name no workers there are none, and where they name no limit on turns it is 100,000
pub record IsDrain (words : List (List ℕ)) (routes : Path) (workers turns : ℕ) (journal : Option Path) : Type 0 where
  pub behind : List (List ℕ)
  pub on : IsOn (codes "drain") behind words routes
  pub workers_named : Option ℕ
  pub turns_named : Option ℕ
  pub names : Names behind workers_named turns_named journal
  pub workers_are : workers ≡ unwrap_or workers_named 0
  pub turns_are : turns ≡ unwrap_or turns_named 100000
  pub few : workers ≤ 16
  pub some : 1 ≤ turns
  pub most : turns ≤ 1000000

-- the words are those of a load of so many items, with so many workers
pub record IsLoad (words : List (List ℕ)) (items workers : ℕ) : Type 0 where
  pub said : words ≡ codes "load" ∷ (decimal items ∷ (decimal workers ∷ []))
  pub some : 1 ≤ items
  pub most : items ≤ 20000
  pub few : workers ≤ 16

-- the words are those of the command
abbrev pub IsCommand : List (List ℕ) → Command → Type 0
IsCommand words (command.Drain routes workers turns journal) = IsDrain words routes workers turns journal
IsCommand words (command.Check routes) = IsOn (codes "check") [] words routes
IsCommand words (command.Audit routes journal) = IsOnTwo (codes "audit") words routes journal
IsCommand words (command.Load items workers) = IsLoad words items workers
IsCommand words (command.Migrate old new) = IsOnTwo (codes "migrate") words old new

-- ---- worked rows

abbrev pub drained : List ℕ → List ℕ → Option Command
drained folder name = Some (command.Drain (record { folder = folder; name = name }) 0 100000 None)

-- the routes are those of `r.json`
abbrev pub drained_here : ℕ → Option Path → Option Command
drained_here turns journal = Some (command.Drain (record { folder = codes "."; name = codes "r.json" }) 0 turns journal)

-- and so many workers run them
abbrev pub drained_by : ℕ → ℕ → Option Path → Option Command
drained_by workers turns journal = Some (command.Drain (record { folder = codes "."; name = codes "r.json" }) workers turns journal)

-- the words behind `drain r.json`
abbrev pub drained_with : List (List ℕ) → Option Command
drained_with words = command_of (codes "drain" ∷ codes "r.json" ∷ words)

pub row-here : command_of (codes "drain" ∷ codes "r.json" ∷ []) ≡ drained (codes ".") (codes "r.json")
row-here = refl

pub row-below : command_of (codes "drain" ∷ codes "a/b/r.json" ∷ []) ≡ drained (codes "a/b") (codes "r.json")
row-below = refl

pub row-root : command_of (codes "drain" ∷ codes "/r.json" ∷ []) ≡ drained (codes "/") (codes "r.json")
row-root = refl

pub row-folder : command_of (codes "drain" ∷ codes "a/" ∷ []) ≡ None
row-folder = refl

pub row-check : command_of (codes "check" ∷ codes "r.json" ∷ []) ≡ Some (command.Check (record { folder = codes "."; name = codes "r.json" }))
row-check = refl

pub row-option : command_of (codes "drain" ∷ codes "-x" ∷ []) ≡ None
row-option = refl

pub row-turns : drained_with (codes "--turns" ∷ codes "5" ∷ []) ≡ drained_here 5 None
unfolding count_of digits
row-turns = refl

pub row-most_turns : drained_with (codes "--turns" ∷ codes "1000000" ∷ []) ≡ drained_here 1000000 None
unfolding count_of digits
row-most_turns = refl

pub row-too_many_turns : drained_with (codes "--turns" ∷ codes "1000001" ∷ []) ≡ None
unfolding count_of digits
row-too_many_turns = refl

pub row-no_turn : drained_with (codes "--turns" ∷ codes "0" ∷ []) ≡ None
unfolding count_of digits
row-no_turn = refl

pub row-zero_in_front : drained_with (codes "--turns" ∷ codes "05" ∷ []) ≡ None
unfolding count_of digits
row-zero_in_front = refl

pub row-turns_twice : drained_with (codes "--turns" ∷ codes "5" ∷ codes "--turns" ∷ codes "5" ∷ []) ≡ None
unfolding count_of digits
row-turns_twice = refl

pub row-workers : drained_with (codes "--workers" ∷ codes "4" ∷ []) ≡ drained_by 4 100000 None
unfolding count_of digits
row-workers = refl

pub row-most_workers : drained_with (codes "--workers" ∷ codes "16" ∷ []) ≡ drained_by 16 100000 None
unfolding count_of digits
row-most_workers = refl

pub row-too_many_workers : drained_with (codes "--workers" ∷ codes "17" ∷ []) ≡ None
unfolding count_of digits
row-too_many_workers = refl

pub row-no_worker : drained_with (codes "--workers" ∷ codes "0" ∷ []) ≡ drained_here 100000 None
unfolding count_of digits
row-no_worker = refl

pub row-worker_with_zero_in_front : drained_with (codes "--workers" ∷ codes "01" ∷ []) ≡ None
unfolding count_of digits
row-worker_with_zero_in_front = refl

pub row-workers_twice : drained_with (codes "--workers" ∷ codes "1" ∷ codes "--workers" ∷ codes "1" ∷ []) ≡ None
unfolding count_of digits
row-workers_twice = refl

pub row-workers_in_front : drained_with (codes "--workers" ∷ codes "2" ∷ codes "--turns" ∷ codes "5" ∷ []) ≡ drained_by 2 5 None
unfolding count_of digits
row-workers_in_front = refl

pub row-workers_behind : drained_with (codes "--turns" ∷ codes "5" ∷ codes "--workers" ∷ codes "2" ∷ []) ≡ drained_by 2 5 None
unfolding count_of digits
row-workers_behind = refl

pub row-all_options : drained_with (codes "--journal" ∷ codes "j" ∷ codes "--workers" ∷ codes "2" ∷ codes "--turns" ∷ codes "5" ∷ [])
    ≡ drained_by 2 5 (Some (record { folder = codes "."; name = codes "j" }))
unfolding count_of digits
row-all_options = refl

pub row-check_with_workers : command_of (codes "check" ∷ codes "r.json" ∷ codes "--workers" ∷ codes "2" ∷ []) ≡ None
row-check_with_workers = refl

pub row-no_number : drained_with (codes "--turns" ∷ []) ≡ None
row-no_number = refl

pub row-one_word : drained_with (codes "--turns=5" ∷ []) ≡ None
row-one_word = refl

pub row-journal : drained_with (codes "--journal" ∷ codes "j/one" ∷ []) ≡ drained_here 100000 (Some (record { folder = codes "j"; name = codes "one" }))
row-journal = refl

pub row-journal_behind : drained_with (codes "--turns" ∷ codes "5" ∷ codes "--journal" ∷ codes "j" ∷ []) ≡ drained_here 5 (Some (record { folder = codes "."; name = codes "j" }))
unfolding count_of digits
row-journal_behind = refl

pub row-journal_in_front : drained_with (codes "--journal" ∷ codes "j" ∷ codes "--turns" ∷ codes "5" ∷ []) ≡ drained_here 5 (Some (record { folder = codes "."; name = codes "j" }))
unfolding count_of digits
row-journal_in_front = refl

pub row-journal_twice : drained_with (codes "--journal" ∷ codes "j" ∷ codes "--journal" ∷ codes "k" ∷ []) ≡ None
row-journal_twice = refl

pub row-no_journal : drained_with (codes "--journal" ∷ []) ≡ None
row-no_journal = refl

pub row-journal_folder : drained_with (codes "--journal" ∷ codes "j/" ∷ []) ≡ None
row-journal_folder = refl

pub row-check_with_journal : command_of (codes "check" ∷ codes "r.json" ∷ codes "--journal" ∷ codes "j" ∷ []) ≡ None
row-check_with_journal = refl

pub row-load_with_journal : command_of (codes "load" ∷ codes "10" ∷ codes "0" ∷ codes "--journal" ∷ codes "j" ∷ []) ≡ None
unfolding count_of digits
row-load_with_journal = refl

pub row-check_with_turns : command_of (codes "check" ∷ codes "r.json" ∷ codes "--turns" ∷ codes "5" ∷ []) ≡ None
row-check_with_turns = refl

pub row-load : command_of (codes "load" ∷ codes "10" ∷ codes "0" ∷ []) ≡ Some (command.Load 10 0)
unfolding count_of digits
row-load = refl

pub row-no_item : command_of (codes "load" ∷ codes "0" ∷ codes "0" ∷ []) ≡ None
unfolding count_of digits
row-no_item = refl

pub row-too_many_items : command_of (codes "load" ∷ codes "20001" ∷ codes "0" ∷ []) ≡ None
unfolding count_of digits
row-too_many_items = refl

pub row-load_with_workers : command_of (codes "load" ∷ codes "10" ∷ codes "4" ∷ []) ≡ Some (command.Load 10 4)
unfolding count_of digits
row-load_with_workers = refl

pub row-load_with_too_many_workers : command_of (codes "load" ∷ codes "10" ∷ codes "17" ∷ []) ≡ None
unfolding count_of digits
row-load_with_too_many_workers = refl

pub row-no_workers : command_of (codes "load" ∷ codes "10" ∷ []) ≡ None
unfolding count_of digits
row-no_workers = refl

-- the routes of `r.json`, and the dump of `j/one`
pub row-audit : command_of (codes "audit" ∷ codes "r.json" ∷ codes "j/one" ∷ [])
    ≡ Some (command.Audit (record { folder = codes "."; name = codes "r.json" }) (record { folder = codes "j"; name = codes "one" }))
row-audit = refl

pub row-no_dump : command_of (codes "audit" ∷ codes "r.json" ∷ []) ≡ None
row-no_dump = refl

pub row-audit_folder : command_of (codes "audit" ∷ codes "r.json" ∷ codes "j/" ∷ []) ≡ None
row-audit_folder = refl

pub row-audit_with_turns : command_of (codes "audit" ∷ codes "r.json" ∷ codes "j" ∷ codes "--turns" ∷ codes "5" ∷ []) ≡ None
row-audit_with_turns = refl

pub row-migrate : command_of (codes "migrate" ∷ codes "j/one" ∷ codes "two" ∷ [])
    ≡ Some (command.Migrate (record { folder = codes "j"; name = codes "one" }) (record { folder = codes "."; name = codes "two" }))
row-migrate = refl

pub row-no_new_dump : command_of (codes "migrate" ∷ codes "j" ∷ []) ≡ None
row-no_new_dump = refl

pub row-three_dumps : command_of (codes "migrate" ∷ codes "j" ∷ codes "k" ∷ codes "l" ∷ []) ≡ None
row-three_dumps = refl
