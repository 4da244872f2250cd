use Rattle.std.proofs.Common.{ap}
use Rattle.fw_running.specs.ReadyState.{ReadyState}
use Rattle.fw_running.proofs.PlaceLaws.{take_at}
use Rattle.fw_running.proofs.ready.Ready.take_input.Goals as goal

pub returns-clause-taken : goal.returns-clause-taken
returns-clause-taken c = take_at c.args.node _ _ _ _ c.remove.ensures.taken c.place.ensures (ap (λ (ready : ReadyState). ready.inputs) c.self.view_is)
