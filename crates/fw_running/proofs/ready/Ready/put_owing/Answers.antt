use Rattle.std.proofs.Common.{ap}
use Rattle.fw_running.specs.ReadyState.{ReadyState}
use Rattle.fw_running.proofs.PlaceLaws.{put_at}
use Rattle.fw_running.proofs.ready.Ready.put_owing.Goals as goal

pub returns-clause-put : goal.returns-clause-put
returns-clause-put c = put_at c.args.node _ _ _ _ c.in_ok-insert.ensures.put c.place.ensures (ap (λ (ready : ReadyState). ready.owing) c.self.view_is)
