-- How an exchange ended, as its row tells it.
use Rattle.eip_exchange.specs.declared.end.Fault.{Fault}

pub data Closing : Type 0 where
  Completed : Closing
  Handled : Closing
  Failed : Fault → Closing
  Starved : Closing
  NotCommitted : Closing
