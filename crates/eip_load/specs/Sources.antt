-- What the source of a load test has left for each URI.
use Rattle.std.specs.Prelude.{ℕ, List, [], take, drop, bytes_eq, cond, codes, Option, None, unwrap_or}
use Rattle.eip_text.specs.Counts.{count_of}
use Rattle.eip_keyed.specs.Keyed.{Keyed, found}
use Rattle.eip_uri.specs.declared.uri.Uri.{Uri}
use Rattle.eip_uri.specs.declared.uri.Uri.TheVariants as uri
use Rattle.eip_endpoint.specs.declared.source.Pulled.{Pulled}
use Rattle.eip_endpoint.specs.declared.source.Commit.{Commit}
use Rattle.eip_load.specs.Items.{items_of}

-- it tells neither what it gave nor what it was told
abbrev pub untold_items : Option (List Pulled)
untold_items = None

abbrev pub untold_commits : Option (List Commit)
untold_commits = None

-- the items of an endpoint
abbrev pub items_for : Uri → List Pulled
items_for (uri.Load n) = items_of n
items_for _ = []

-- the items of the endpoint with this printed URI: those of load:N, and none for another
abbrev pub items_at : List ℕ → List Pulled
items_at u = cond (bytes_eq (take 5 u) (codes "load:")) (items_of (unwrap_or (count_of (drop 5 u)) 0)) []

-- how many items were given for a printed URI
abbrev pub given_of : List ℕ → Keyed ℕ → ℕ
given_of u given = unwrap_or (found u given) 0

-- what is left for it
abbrev pub left_of : List ℕ → Keyed ℕ → List Pulled
left_of u given = drop (given_of u given) (items_at u)
