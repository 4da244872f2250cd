use Rattle.fw_split.proofs.InTurnLaws.{written-in_turn}
use Rattle.fw_split.proofs.laws.names_new_in_turn.Goals as goal

pub returns : goal.returns
returns c = written-in_turn
