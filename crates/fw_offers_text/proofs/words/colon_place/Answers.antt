use Rattle.std.proofs.Common.{arith}
use Rattle.fw_lines.specs.Inputs.{is_colon}
use Rattle.fw_lines.proofs.InputLaws.{front-lt-length}
use Rattle.fw_offers_text.proofs.words.colon_place.Goals as goal

pub returns-clause-within : goal.returns-clause-within
returns-clause-within c = omega (arith, front-lt-length is_colon c.args.word.now c.requires)
