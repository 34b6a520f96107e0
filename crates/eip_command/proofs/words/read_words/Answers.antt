use Rattle.std.proofs.Common.{◌≡◌, Some, arith}
use Rattle.std.proofs.lemmas.Grind.{common_steps}
use Rattle.eip_command.specs.Words.{command_of}
use Rattle.eip_command.proofs.Commands.{command_is}
use Rattle.eip_command.proofs.words.read_words.Goals as goal

pub returns-clause-file : goal.returns-clause-file
returns-clause-file c =
    let e : command_of c.args.words.now ≡ Some c.in_ok-command.field-0 = grind (arith, common_steps) in
    command_is c.args.words.now c.in_ok-command.field-0 e
