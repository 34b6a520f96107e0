use Rattle.eip_dump.proofs.Unique as unique
use Rattle.eip_dump.proofs.laws.dump_laws.Goals as goal

pub returns-clause-one_entry : goal.returns-clause-one_entry
returns-clause-one_entry c = unique.one_entry

pub returns-clause-one_journal : goal.returns-clause-one_journal
returns-clause-one_journal c = unique.one_journal

pub returns-clause-none_bad : goal.returns-clause-none_bad
returns-clause-none_bad c = unique.none_bad
