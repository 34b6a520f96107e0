-- A message while its body grows.
use Rattle.std.specs.Prelude.{string_bytes}
use Rattle.eip_exchange.specs.declared.message.Message.{Message}
use Rattle.eip_strategy.specs.declared.growing.Growing.{Growing}

-- the message that it is
abbrev pub grown : Growing → Message
grown g = record { body = string_bytes g.body; headers = g.headers; properties = g.properties }
