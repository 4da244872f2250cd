-- The traces of the running total after two epochs came through, told event by event.
use Rattle.std.specs.Prelude.{List, [], ◌∷◌, ◌≡◌, true}
use Rattle.std.specs.List.{Contains}
use Rattle.fw_frontier.specs.Frontier.{Frontier}
use Rattle.fw_flow.specs.Projection.{events_at}
use Rattle.fw_flow.specs.declared.event.Event.{Event}
use Rattle.fw_flow.specs.declared.event.Event.TheVariants.{Inject as Injected}
use Rattle.fw_progress.specs.Laws.{TracesAreOfTheNode}
use Rattle.fw_progress.specs.Trace.{IsTraceIf, delivered_on, stamps_notified, stamps_where_sent}
use Rattle.fw_progress.specs.declared.traces.Traces.{Traces}
use Rattle.fw_examples.specs.Flows.{src}
use Rattle.fw_examples.specs.RunningTotal.{total_node, src_to_run, run_to_out, total_flow, totals, two_epochs}

-- two epochs came through, and the input sent two more
abbrev pub two_more_sent : List Event
two_more_sent = Injected src 3 ∷ Injected src 2 ∷ two_epochs

-- These are the traces of the running total once two epochs came through, with the epoch that was delivered to it, of which it was
-- notified, and at which it sent on its out-edge. So they are its traces once the input sent two more.
pub record AreTracesOfTwo (traces : Traces) : Type 0 where
  pub two : (base : Frontier) → IsTraceIf true totals two_epochs total_node base traces
  pub came : Contains (delivered_on traces src_to_run) (1 ∷ [])
  pub told : Contains (stamps_notified traces total_node) (1 ∷ [])
  pub sent : Contains (stamps_where_sent traces run_to_out) (1 ∷ [])
  pub same : events_at total_flow total_node two_more_sent ≡ events_at total_flow total_node two_epochs
  pub two_more : TracesAreOfTheNode → (base : Frontier) → IsTraceIf true totals two_more_sent total_node base traces
