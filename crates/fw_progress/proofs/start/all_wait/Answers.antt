use Rattle.fw_progress.proofs.StartLaws.{none-waits, one-waits}
use Rattle.fw_progress.proofs.start.all_wait.Goals as goal
