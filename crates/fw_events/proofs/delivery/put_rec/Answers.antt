use Rattle.std.proofs.Common.{ap}
use Rattle.std.proofs.lemmas.Result.{on_ok_weaker}
use Rattle.fw_flow.specs.Projection.{first_coordinate}
use Rattle.fw_border.specs.Outputs.{OutputsState, with_rec_at}
use Rattle.fw_running.specs.declared.running.Running.{Running}
use Rattle.fw_running.specs.ReadyState.{ReadyState}
use Rattle.fw_events.proofs.TakenShapes.{shaped-output}
use Rattle.fw_events.proofs.delivery.put_rec.Goals as goal

pub returns-clause-shaped : goal.returns-clause-shaped
returns-clause-shaped c =
    let old = c.args.running.now in
    let new : Running = record old { parts = record old.parts { outputs = c.put.new.self }; ready = c.put_output.new.self } in
    on_ok_weaker c.put_output.result (λ put.
    shaped-output old new c.args.output (with_rec_at (first_coordinate c.args.at.now) c.args.rec) c.requires.shaped
    (ap (λ (r : ReadyState). record old { parts = record old.parts { outputs = c.put.new.self }; ready = r }) c.put_output.ensures.others)
    (ap (λ (o : OutputsState). o.outputs) c.in_ok-put.ensures.ok) put) c.put_output.ensures.put
