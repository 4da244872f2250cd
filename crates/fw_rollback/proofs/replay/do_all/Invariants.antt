use Rattle.std.proofs.Common.{◌≡◌, ◌≢◌, ℕ, length, take}
use Rattle.fw_flow.specs.Dataflow.{sender}
use Rattle.fw_node.specs.NodeOf.{IsNodeOf}
use Rattle.fw_rollback.specs.Asked.{events_of}
use Rattle.fw_rollback.specs.Edges.{on_edge}
use Rattle.fw_rollback.specs.Restored.{AreLogsOfOwn, HaveSent, StandsForRedone}
use Rattle.fw_rollback.proofs.replay.do_all.Given as goal

abbrev pub invariant-loop-what : goal.invariant-loop-what
invariant-loop-what l = record {
  table : StandsForRedone l.flow l.node (events_of (take l.what-index l.records)) l.table;
  logs : HaveSent l.flow l.low l.node (events_of (take l.what-index l.records)) l.logs;
  others : (e : ℕ) → sender l.flow e ≢ l.node → on_edge l.logs e ≡ on_edge l.initial.logs e;
  each : length l.logs ≡ length l.initial.logs;
  own : AreLogsOfOwn l.flow l.low l.node l.logs;
  node : IsNodeOf l.flow l.node l.table;
}
