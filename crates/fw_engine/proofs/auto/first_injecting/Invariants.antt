use Rattle.std.proofs.Common.{◌≡◌, length}
use Rattle.fw_running.specs.Shaped.{IsShaped}
use Rattle.fw_engine.specs.Searching.{with_ready_inputs}
use Rattle.fw_engine.proofs.auto.first_injecting.Given as goal

abbrev pub invariant-loop-node : goal.invariant-loop-node
invariant-loop-node l = record {
  others : l.running ≡ with_ready_inputs l.running.ready.inputs l.fn.running;
  shaped : IsShaped l.running;
}

abbrev pub decreases-loop-node : goal.decreases-loop-node
decreases-loop-node l = length l.running.ready.inputs
