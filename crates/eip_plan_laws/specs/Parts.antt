-- Which parts an exchange has asked for.
use Rattle.std.specs.Prelude.{ℕ, ◌==◌, cond, List, []}
use Rattle.std.specs.List.{flat_map}
use Rattle.eip_frames.specs.declared.request.Request.{Request}
use Rattle.eip_frames.specs.declared.request.Request.TheVariants.{Spawn}
use Rattle.eip_frames.specs.declared.request.Seed.{Seed}
use Rattle.eip_history.specs.Plan.{Plan}
use Rattle.eip_history.specs.Own.{Past}
use Rattle.eip_history.specs.Rules.{Served, served}

-- the parts that a request asks for
abbrev pub seeds_in : Request → List Seed
seeds_in (Spawn seeds) = seeds
seeds_in _ = []

-- the parts that an answered request asked for, where it is one of exchange x
abbrev pub seeds_for : ℕ → Served → List Seed
seeds_for x v = cond (v.asked.birth.number == x) (seeds_in v.asked.request) []

-- the parts that exchange x has asked for, in the order of its requests
abbrev pub parts_asked : Plan → Past → ℕ → List Seed
parts_asked s past x = flat_map (seeds_for x) (served s past)
