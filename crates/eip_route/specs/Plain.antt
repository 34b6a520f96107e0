-- Sets and handlers that give nothing.
use Rattle.std.specs.Prelude.{[], None}
use Rattle.eip_exchange.specs.declared.setting.Policy.{Policy}
use Rattle.eip_route.specs.declared.route.Handler.{Handler}
use Rattle.eip_route.specs.declared.route.Names.{Names}

-- nothing is handed in
abbrev pub no_names : Names
no_names = record { lanes = []; inlets = []; processors = []; predicates = [] }

-- a policy that gives nothing
abbrev pub plain_policy : Policy
plain_policy = record { maximum = None; delay = None; multiplier = None; backing_off = None; greatest = None }

-- the default handler without attributes
abbrev pub plain_handler : Handler
plain_handler = record { dead = None; policy = plain_policy }
