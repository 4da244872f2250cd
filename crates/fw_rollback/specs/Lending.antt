-- A part of a node or an edge is lent by the list of those of all.
use Rattle.std.specs.Prelude.{ℕ, List, Option, Some, slice_set}
use Rattle.std.specs.Borrow.{LendsIf, MutBor, Fml}
use Rattle.fw_edge.specs.Messages.{MessagesState}
use Rattle.fw_edge.specs.contracts.queue.Queue as queue
use Rattle.fw_edge.specs.contracts.log.MsgLog as log
use Rattle.fw_node.specs.declared.node.Node.{Node}
use Rattle.fw_node.specs.contracts.node.Node as node
use Rattle.fw_rollback.specs.contracts.queues.Queues as queues
use Rattle.fw_rollback.specs.contracts.logs.Logs as logs
use Rattle.fw_rollback.specs.contracts.tables.Tables as tables

-- the queues end with that of edge e as the last value behind the result
abbrev pub LendsQueue : MutBor (List MessagesState) → ℕ → Option (MutBor MessagesState) → Fml
LendsQueue all e r = LendsIf queues.the_row queue.the_row all r (slice_set all.now e) all.now

-- the logs end with that of edge e as the last value behind the result
abbrev pub LendsLog : MutBor (List MessagesState) → ℕ → Option (MutBor MessagesState) → Fml
LendsLog all e r = LendsIf logs.the_row log.the_row all r (slice_set all.now e) all.now

-- the tables end with that of node p as the last value behind the result
abbrev pub LendsNode : MutBor (List (Option Node)) → ℕ → Option (MutBor Node) → Fml
LendsNode all p r = LendsIf tables.the_row node.the_row all r (λ w. slice_set all.now p (Some w)) all.now
