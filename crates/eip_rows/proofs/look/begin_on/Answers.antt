use Rattle.std.proofs.Common.{inl, inr}
use Rattle.eip_rows.proofs.look.begin_on.Goals as goal

pub returns-in_ok-message-in-Copy-clause-ok : goal.returns-in_ok-message-in-Copy-clause-ok
returns-in_ok-message-in-Copy-clause-ok c =
    let begun = rw c.in_ok-message-in-Copy.ensures at c.begin_birth.ensures.ok in
    elim c.in-Copy.is [ inl copy ↦ rw copy.1 begun | inr part ↦ rw part.2 begun ]

pub returns-in_ok-tell_cause-in-Group-clause-ok : goal.returns-in_ok-tell_cause-in-Group-clause-ok
returns-in_ok-tell_cause-in-Group-clause-ok c =
    rw c.in-Group.is (rw (c.in_ok-tell_cause-in-Group.ensures c.args.live.now.birth c.in_ok-message-in-Group.ensures) at c.begin_birth-in-Group.ensures.ok)
