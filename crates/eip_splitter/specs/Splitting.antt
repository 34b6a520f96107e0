-- The parts of a message, by each way to cut its body.
use Rattle.std.specs.Prelude.{ℕ, ◌<◌, List, length, Some, Result}
use Rattle.eip_text.specs.Json.{json_read}
use Rattle.eip_exchange.specs.declared.message.Message.{Message}
use Rattle.eip_exchange.specs.declared.setting.How.{How}
use Rattle.eip_exchange.specs.declared.setting.How.TheVariants as how
use Rattle.eip_splitter.specs.Batches.{batch_parts}
use Rattle.eip_splitter.specs.Parts.{token_bodies, array_bodies, within_limit, parts_of}
use Rattle.eip_splitter.specs.declared.fault.SplitFault.{SplitFault}

-- a token isn't empty
abbrev pub HasToken : How → Type 0
HasToken (how.Token token) = 0 < length token
HasToken _ = Unit {0}

-- the parts between the places of a token
abbrev pub token_parts : List ℕ → Message → Result (List Message) SplitFault
token_parts token m = parts_of m (within_limit (Some (token_bodies token m.body)))

-- the elements of a JSON array
abbrev pub array_parts : Message → Result (List Message) SplitFault
array_parts m = parts_of m (within_limit (array_bodies (json_read m.body)))

-- the parts of a message, or the fault
unfoldable pub parts : How → Message → Result (List Message) SplitFault
parts (how.Token token) m = token_parts token m
parts how.JsonArray m = array_parts m
parts (how.Batch k) m = batch_parts k m
