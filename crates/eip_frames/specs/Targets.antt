-- Targets: the lane that they are sent on, and their printed form.
use Rattle.std.specs.Prelude.{ℕ, List, codes, decimal, ◌++◌}
use Rattle.eip_frames.specs.declared.request.Target.{Target}
use Rattle.eip_frames.specs.declared.request.Target.TheVariants as target

-- the name of the lane that a target is sent on
abbrev pub lane_of : Target → List ℕ
lane_of (target.File folder name e) = codes "file"
lane_of (target.Line host port) = codes "line"
lane_of (target.Lane name) = codes "lane:" ++ name

-- as faults name a target: `file:FOLDER/NAME`, `line:HOST:PORT` or `lane:NAME`
abbrev pub target_text : Target → List ℕ
target_text (target.File folder name e) = codes "file:" ++ (folder ++ (codes "/" ++ name))
target_text (target.Line host port) = codes "line:" ++ (host ++ (codes ":" ++ decimal port))
target_text (target.Lane name) = codes "lane:" ++ name
