use Rattle.fw_model.proofs.SendPartLaws.{passing-send}
use Rattle.fw_model.proofs.laws.passing_events_send_their_part.Goals as goal

pub returns : goal.returns
returns c = passing-send
