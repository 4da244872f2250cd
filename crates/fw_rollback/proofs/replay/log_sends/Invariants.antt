use Rattle.std.proofs.Common.{◌≡◌, ℕ, true, false, List, ◌++◌, length, take}
use Rattle.fw_flow.specs.declared.event.Message.{Message}
use Rattle.fw_keep.specs.Catalogue.{is_id_among}
use Rattle.fw_model.specs.Carried.{carried}
use Rattle.fw_node.specs.Sends.{messages_of}
use Rattle.fw_rollback.specs.Edges.{on_edge}
use Rattle.fw_rollback.specs.Restored.{log_of}
use Rattle.fw_rollback.proofs.replay.log_sends.Given as goal

abbrev pub invariant-loop-edge : goal.invariant-loop-edge
invariant-loop-edge l = record {
  logged : (e : ℕ) → is_id_among e (take l.edge-index l.edges) ≡ true → (ms : List Message) → on_edge l.initial.logs e ≡ log_of l.flow l.low e ms
      → on_edge l.logs e ≡ log_of l.flow l.low e (carried l.flow e (messages_of l.cause l.sends) ++ ms);
  others : (e : ℕ) → is_id_among e (take l.edge-index l.edges) ≡ false → on_edge l.logs e ≡ on_edge l.initial.logs e;
  each : length l.logs ≡ length l.initial.logs;
}
