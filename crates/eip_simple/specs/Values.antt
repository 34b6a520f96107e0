-- The values of functions, templates and sides.
use Rattle.std.specs.Prelude.{ℕ, List, [], codes, decimal, Option, Some, None, unwrap_or}
use Rattle.std.specs.List.{flat_map}
use Rattle.eip_exchange.specs.Headers.{get_header}
use Rattle.eip_exchange.specs.Pairs.{get_property}
use Rattle.eip_simple_read.specs.declared.tree.Function.{Function}
use Rattle.eip_simple_read.specs.declared.tree.Function.TheVariants.{Body, Header, Property, ExchangeId, RouteId, ExceptionMessage}
use Rattle.eip_simple_read.specs.declared.tree.Part.{Part}
use Rattle.eip_simple_read.specs.declared.tree.Part.TheVariants.{Plain, Call}
use Rattle.eip_simple_read.specs.declared.tree.Template.{Template}
use Rattle.eip_simple_read.specs.declared.tree.Side.{Side}
use Rattle.eip_simple_read.specs.declared.tree.Side.TheVariants as side
use Rattle.eip_simple.specs.Views.{Seen}

-- the property that holds the text of the fault that was caught
abbrev pub caught : List ℕ
caught = codes "CamelExceptionCaught"

-- What a function stands for, or none where that is absent: headers by their names up to ASCII case, properties byte for byte.
abbrev pub function_value : Function → Seen → Option (List ℕ)
function_value Body s = Some s.message.body
function_value (Header name) s = get_header name s.message.headers
function_value (Property name) s = get_property name s.message.properties
function_value ExchangeId s = Some (decimal s.number)
function_value RouteId s = Some s.route
function_value ExceptionMessage s = get_property caught s.message.properties

-- a part's text: nothing for an absent value
abbrev pub part_value : Seen → Part → List ℕ
part_value s (Plain t) = t
part_value s (Call f) = unwrap_or (function_value f s) []

-- a template's value: those of its parts, joined
unfoldable pub template_value : Template → Seen → List ℕ
template_value t s = flat_map (part_value s) t.parts

-- a side's value: a template's is always there, that of `null` never
abbrev pub side_value : Side → Seen → Option (List ℕ)
side_value (side.Value t) s = Some (template_value t s)
side_value (side.Call f) s = function_value f s
side_value side.Null s = None
