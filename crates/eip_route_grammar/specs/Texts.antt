-- What a text of a route file stands for.
use Rattle.std.specs.Prelude.{ℕ, List, [], ◌∷◌, ◌++◌, codes, decimal, bytes_eq, Option, Some, None, unwrap_or, if◌then◌else◌}
use Rattle.eip_text.specs.Cuts.{behind, holds_byte}
use Rattle.eip_exchange.specs.declared.setting.Key.{Key}
use Rattle.eip_exchange.specs.declared.setting.Key.TheVariants as key
use Rattle.eip_exchange.specs.declared.setting.Strategy.{Strategy}
use Rattle.eip_exchange.specs.declared.setting.Strategy.TheVariants as strategy
use Rattle.eip_simple_read.specs.declared.tree.Function.{Function}
use Rattle.eip_simple_read.specs.declared.tree.Function.TheVariants as function
use Rattle.eip_simple_read.specs.declared.tree.Part.{Part}
use Rattle.eip_simple_read.specs.declared.tree.Part.TheVariants as part
use Rattle.eip_simple_read.specs.declared.tree.Template.{Template}

-- a text without the number sign in front
abbrev pub unhashed : List ℕ → List ℕ
unhashed w = unwrap_or (behind (codes "#") w) w

-- what stands behind the last dot
abbrev pub last_segment : List ℕ → List ℕ
last_segment [] = []
last_segment (b ∷ bs) = if holds_byte 46 (b ∷ bs) then last_segment bs else b ∷ bs

-- the id of a route that names none: its position among the routes, from 1
abbrev pub own_id : ℕ → List ℕ
own_id position = codes "route" ++ decimal position

abbrev pub joined_by : Option (List ℕ) → Option Strategy
joined_by None = None
joined_by (Some text) = Some (strategy.Joined text)

-- the strategy of this name
unfoldable pub strategy_of : List ℕ → Option Strategy
strategy_of w =
    if bytes_eq w (codes "original") then Some strategy.Original
    else (if bytes_eq w (codes "latest") then Some strategy.Latest
    else (if bytes_eq w (codes "joined") then Some (strategy.Joined (codes ","))
    else (if bytes_eq w (codes "grouped") then Some strategy.Grouped
    else (if bytes_eq w (codes "sum") then Some strategy.Sum
    else joined_by (behind (codes "joined:") w)))))

-- what of a message a function gives, where messages can be put in order by it
abbrev pub key_of_function : Function → Option Key
key_of_function function.Body = Some key.Body
key_of_function (function.Header name) = Some (key.Header name)
key_of_function (function.Property name) = Some (key.Property name)
key_of_function function.ExchangeId = None
key_of_function function.RouteId = None
key_of_function function.ExceptionMessage = None

abbrev pub key_of_part : Part → Option Key
key_of_part (part.Plain text) = None
key_of_part (part.Call f) = key_of_function f

abbrev pub key_of_parts : List Part → Option Key
key_of_parts [] = None
key_of_parts (p ∷ []) = key_of_part p
key_of_parts (p ∷ q ∷ ps) = None

-- of a template that is that function and nothing else
abbrev pub key_of : Template → Option Key
key_of t = key_of_parts t.parts
