use Rattle.std.proofs.Common.{None, Some, sym, ◌∙◌}
use Rattle.eip_command.proofs.Paths.{parts, folder_at, folder_none}
use Rattle.eip_command.proofs.words.split_path.Goals as goal

pub returns-in-None-clause-folder : goal.returns-in-None-clause-folder
returns-in-None-clause-folder c = sym (folder_none c.args.path.now (parts c.args.path.now None c.in-None.ensures.cases)).0

pub returns-in-None-clause-name : goal.returns-in-None-clause-name
returns-in-None-clause-name c = sym (folder_none c.args.path.now (parts c.args.path.now None c.in-None.ensures.cases)).1

pub returns-in-Some-clause-folder : goal.returns-in-Some-clause-folder
returns-in-Some-clause-folder c =
    let found = parts c.args.path.now (Some (c.in-Some.front, c.in-Some.name)) c.in-Some.ensures.cases in
    c.or_root.ensures ∙ sym (folder_at c.args.path.now c.in-Some.front.now c.in-Some.name.now found.0 found.1).0

pub returns-in-Some-clause-name : goal.returns-in-Some-clause-name
returns-in-Some-clause-name c =
    let found = parts c.args.path.now (Some (c.in-Some.front, c.in-Some.name)) c.in-Some.ensures.cases in
    sym (folder_at c.args.path.now c.in-Some.front.now c.in-Some.name.now found.0 found.1).1
