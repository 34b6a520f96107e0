-- What a lane of files does with a message (Camel manual, File, fileExist).
use Rattle.std.specs.Prelude.{ℕ, ◌≡◌, Bool, true, false, cond, List, Option, None, option_map, Result, Ok, Err}
use Rattle.eip_frames.specs.declared.request.Target.{Target}
use Rattle.eip_frames.specs.declared.request.Target.TheVariants as target
use Rattle.eip_uri.specs.declared.uri.Exist.{Exist}
use Rattle.eip_uri.specs.declared.uri.Exist.TheVariants as exist
use Rattle.eip_endpoint.specs.Content.{IfTold}
use Rattle.eip_endpoint.specs.Files.{File, is_there, others, written}
use Rattle.eip_endpoint.specs.declared.endpoint.Call.{Call}
use Rattle.eip_endpoint.specs.declared.endpoint.SendFault.{SendFault}
use Rattle.eip_endpoint.specs.declared.endpoint.SendFault.TheVariants as fault

-- a lane of files tells no calls
abbrev pub untold_calls : Option (List Call)
untold_calls = None

-- the files behind a send that was done: a file that is there is replaced, gets the body behind what it holds, or stays
abbrev pub sent_to : Exist → List ℕ → List ℕ → List ℕ → List File → List File
sent_to exist.Override folder name body all = written folder name body false all
sent_to exist.Append folder name body all = written folder name body true all
sent_to exist.Fail folder name body all = written folder name body false all
sent_to exist.Ignore folder name body all = cond (is_there folder name all) all (written folder name body false all)

-- a file that is not to be there is not
abbrev pub IsNew : Exist → List ℕ → List ℕ → List File → Type 0
IsNew exist.Fail folder name all = is_there folder name all ≡ false
IsNew _ folder name all = Unit {0}

-- a write, by its answer
abbrev pub Wrote : List ℕ → List ℕ → List ℕ → Bool → Option (List File) → Result Unit SendFault → Option (List File) → Type 0
Wrote folder name body append old (Ok u) new = new ≡ option_map (written folder name body append) old
Wrote folder name body append old (Err fault.Exists) new = ⊥
Wrote folder name body append old (Err fault.Failed) new = option_map (others folder name) new ≡ option_map (others folder name) old
Wrote folder name body append old (Err fault.NoMemory) new = new ≡ old

-- a send to a file, by its answer; one that failed may leave anything in that file, and leaves the others
abbrev pub SentFile : Exist → List ℕ → List ℕ → List ℕ → Option (List File) → Result Unit SendFault → Option (List File) → Type 0
SentFile e folder name body old (Ok u) new = IfTold old (IsNew e folder name) × (new ≡ option_map (sent_to e folder name body) old)
SentFile e folder name body old (Err fault.Exists) new =
    (e ≡ exist.Fail) × IfTold old (λ all. is_there folder name all ≡ true) × (new ≡ old)
SentFile e folder name body old (Err fault.Failed) new = option_map (others folder name) new ≡ option_map (others folder name) old
SentFile e folder name body old (Err fault.NoMemory) new = new ≡ old

-- a send to a target; where that is no file, nothing is done
abbrev pub SentTo : Target → List ℕ → Option (List File) → Result Unit SendFault → Option (List File) → Type 0
SentTo (target.File folder name e) body old r new = SentFile e folder name body old r new
SentTo (target.Line host port) body old r new = (r ≡ Ok tt) × (new ≡ old)
SentTo (target.Lane name) body old r new = (r ≡ Ok tt) × (new ≡ old)

-- 1 for a failure
abbrev pub send_failure : {T : Type 0} → Result T SendFault → ℕ
send_failure (Ok u) = 0
send_failure (Err fault.Failed) = 1
send_failure (Err fault.Exists) = 0
send_failure (Err fault.NoMemory) = 0
