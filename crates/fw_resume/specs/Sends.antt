-- What sequences sent, as a root tells it.
use Rattle.std.specs.Prelude.{ℕ, ◌<◌, ◌^◌, true, List, length}
use Rattle.fw_frontier.specs.declared.state.SentCount.{SentCount}
use Rattle.fw_progress.specs.declared.counts.Counts.{Counts}
use Rattle.fw_progress.specs.Counts.{sent_of}
use Rattle.fw_settle.specs.Checkpoints.{AreSendsOf}

-- These tell what node p sent, epoch by epoch, and 32 bits can count them.
pub record AreSendsTold (counts : Counts) (p : ℕ) (sends : List SentCount) : Type 0 where
  pub each : AreSendsOf (λ t. true) (sent_of counts p) sends
  pub few : length sends < 2 ^ 32
