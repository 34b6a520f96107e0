use Rattle.std.proofs.Common.{◌≡◌, sym, subst}
use Rattle.eip_exchange.specs.Limits.{IsGivable}
use Rattle.eip_exchange.specs.declared.message.Message.{Message}
use Rattle.eip_load.specs.Items.{message_of}
use Rattle.eip_load.proofs.ItemLaws.{givable}
use Rattle.eip_load.proofs.generator.message_of.Goals as goal

pub returns-clause-givable : goal.returns-clause-givable
returns-clause-givable c = rw (c.in_ok-decimal.ensures, c.from.ensures, c.in_ok-headers_of.ensures, c.new.ensures) (givable c.args.order c.args.number c.ranges.order.fits)
