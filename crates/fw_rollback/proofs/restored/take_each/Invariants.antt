use Rattle.std.proofs.Common.{◌≡◌, ◌≢◌, ℕ, List, [], ◌++◌, length, take}
use Rattle.fw_frontier.specs.Front.{Front}
use Rattle.fw_frontier.specs.declared.state.State.{State}
use Rattle.fw_flow.specs.declared.event.Message.{Message}
use Rattle.fw_flow.specs.Dataflow.{sender}
use Rattle.fw_keep.specs.Chains.{changes_of, logged_in_all, states_of}
use Rattle.fw_node.specs.ChainOf.{IsOfChain}
use Rattle.fw_node.specs.NodeOf.{IsNodeOf}
use Rattle.fw_rollback.specs.Edges.{on_edge}
use Rattle.fw_rollback.specs.Restored.{log_of}
use Rattle.fw_rollback.proofs.restored.take_each.Given as goal

abbrev pub invariant-loop-what : goal.invariant-loop-what
invariant-loop-what l = record {
  chain : (f : Front) (state : State) → IsOfChain l.flow l.node f state [] l.initial.table
      → IsOfChain l.flow l.node f state (states_of (changes_of (take l.what-index l.records))) l.table;
  node : IsNodeOf l.flow l.node l.initial.table → IsNodeOf l.flow l.node l.table;
  logged : (e : ℕ) (ms : List Message) → on_edge l.initial.logs e ≡ log_of l.flow l.low e ms
      → on_edge l.logs e ≡ log_of l.flow l.low e (ms ++ logged_in_all e (changes_of (take l.what-index l.records)));
  others : (e : ℕ) → sender l.flow e ≢ l.node → on_edge l.logs e ≡ on_edge l.initial.logs e;
  each : length l.logs ≡ length l.initial.logs;
}
