use Rattle.eip_core.proofs.Asking.{asks-lane, asks-source, asks-process, asks-test}
use Rattle.eip_core.proofs.outside.ask.Goals as goal

pub returns-in-Send : goal.returns-in-Send
returns-in-Send g c = asks-lane _ _ _ _ _ _ _ _ _ c.in-Send.is c.send.ensures.fitting c.send.ensures.grew

pub returns-in-Process : goal.returns-in-Process
returns-in-Process g c = asks-process _ _ _ _ _ _ _ _ c.in-Process.is c.process.ensures.fitting c.process.ensures.theirs

pub returns-in-Test : goal.returns-in-Test
returns-in-Test g c = asks-test _ _ _ _ _ _ _ _ c.in-Test.is (rw c.bytes.ensures.value at c.test.ensures.related)

pub returns-in-Finish : goal.returns-in-Finish
returns-in-Finish g c = asks-source _ _ _ _ _ _ _ _ _ _ _ c.in-Finish.is c.requires c.tell.ensures.fitting c.tell.ensures.grew
