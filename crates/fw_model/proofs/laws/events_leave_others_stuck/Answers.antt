use Rattle.fw_model.proofs.ProgressLaws.{leave-stuck}
use Rattle.fw_model.proofs.laws.events_leave_others_stuck.Goals as goal

pub returns : goal.returns
returns c = leave-stuck
