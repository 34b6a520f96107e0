-- Which routes a file gives, and what is wrong with it, by what reading it answered.
use Rattle.std.specs.Prelude.{ℕ, List, [], ◌∷◌, codes}
use Rattle.eip_route.specs.declared.route.Names.{Names}
use Rattle.eip_route.specs.declared.route.RouteSet.{RouteSet}
use Rattle.eip_route_faults.specs.Sites.{Site, wrong}
use Rattle.eip_route_grammar.specs.declared.fault.Cause.{Cause}
use Rattle.eip_route_grammar.specs.declared.fault.Cause.TheVariants as cause
use Rattle.eip_route_json.specs.Reading.{byte_sites, set_of}
use Rattle.eip_endpoint.specs.declared.files.FileRead.{FileRead}
use Rattle.eip_endpoint.specs.declared.files.FileRead.TheVariants.{Bytes, Missing, TooLong}

-- the most bytes of a route file
abbrev pub file_limit : ℕ
file_limit = 1048576

-- the whole file is wrong
abbrev pub whole_file : Cause → List Site
whole_file c = (codes "$", wrong c) ∷ []

-- the places at which a file is judged
abbrev pub sites_in : Names → FileRead → List Site
sites_in names Missing = whole_file cause.NoFile
sites_in names TooLong = whole_file cause.TooLong
sites_in names (Bytes bytes) = byte_sites names bytes

-- the bytes of a file; one without any has none
abbrev pub bytes_in : FileRead → List ℕ
bytes_in (Bytes bytes) = bytes
bytes_in Missing = []
bytes_in TooLong = []

-- the routes that a file without a fault gives
abbrev pub set_in : Names → FileRead → RouteSet
set_in names read = set_of names (bytes_in read)
