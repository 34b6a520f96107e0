use Rattle.eip_host.proofs.files.HostFiles.listing.Goals as goal

pub returns-in-Err-clause-refused : goal.returns-in-Err-clause-refused
returns-in-Err-clause-refused g c = λ failed. rw (← c.as_str.ensures) (c.in-Err.ensures.refused (c.fault_of.ensures (cc failed)))
