use Rattle.std.proofs.Common.{◌≡◌, length}
use Rattle.fw_running.specs.Shaped.{IsShaped}
use Rattle.fw_engine.specs.Searching.{with_ready_edges}
use Rattle.fw_engine.proofs.auto.first_deliverable.Given as goal

abbrev pub invariant-loop-edge : goal.invariant-loop-edge
invariant-loop-edge l = record {
  others : l.running ≡ with_ready_edges l.running.ready.edges l.fn.running;
  shaped : IsShaped l.running;
}

abbrev pub decreases-loop-edge : goal.decreases-loop-edge
decreases-loop-edge l = length l.running.ready.edges
