use Rattle.clap.specs.Matches.{found_of}
use Rattle.fw_command.proofs.FormLaws.{given_by_rows}
use Rattle.fw_command.proofs.words.given.Goals as goal

pub returns : goal.returns
returns c = given_by_rows (found_of c.args.operands.now) c.args.name.now _ c.get_str.ensures
