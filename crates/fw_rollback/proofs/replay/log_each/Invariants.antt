use Rattle.std.proofs.Common.{◌≡◌, ◌≢◌, ℕ, List, ◌++◌, length, take}
use Rattle.fw_flow.specs.declared.event.Message.{Message}
use Rattle.fw_model.specs.Carried.{carried}
use Rattle.fw_node.specs.Sends.{messages_of}
use Rattle.fw_rollback.specs.Edges.{on_edge}
use Rattle.fw_rollback.specs.Restored.{log_of}
use Rattle.fw_rollback.proofs.replay.log_each.Given as goal

abbrev pub invariant-loop-place : goal.invariant-loop-place
invariant-loop-place l = record {
  logged : (ms : List Message) → on_edge l.initial.logs l.edge ≡ log_of l.flow l.low l.edge ms
      → on_edge l.logs l.edge ≡ log_of l.flow l.low l.edge (carried l.flow l.edge (take l.place (messages_of l.cause l.sends)) ++ ms);
  others : (e : ℕ) → e ≢ l.edge → on_edge l.logs e ≡ on_edge l.initial.logs e;
  each : length l.logs ≡ length l.initial.logs;
}
