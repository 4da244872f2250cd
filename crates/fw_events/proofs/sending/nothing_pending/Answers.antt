use Rattle.std.proofs.Common.{refl}
use Rattle.fw_events.proofs.AskedLaws.{queue-none}
use Rattle.fw_events.proofs.sending.nothing_pending.Goals as goal

pub returns-in-None : goal.returns-in-None
returns-in-None c = (λ h. queue-none c.args.queues.now c.args.edge c.in-None.ensures, λ h. refl)
