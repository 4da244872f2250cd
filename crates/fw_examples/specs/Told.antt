-- Of which epochs the running total was told, and what the laws of tables say of it.
use Rattle.std.specs.Prelude.{◌≡◌, List, [], ◌∷◌, ◌++◌, true, false}
use Rattle.fw_time.specs.Stamp.{in_domain, leq}
use Rattle.fw_flow.specs.Dataflow.{bounds_of, node_frontier}
use Rattle.fw_flow.specs.NodeFunction.{delivered_recs}
use Rattle.fw_flow.specs.Projection.{events_at}
use Rattle.fw_flow.specs.declared.event.Event.{Event}
use Rattle.fw_model.specs.Choice.{until}
use Rattle.fw_model.specs.Filtering.{events_inside}
use Rattle.fw_model.specs.History.{IsNotifiable}
use Rattle.fw_model.specs.Machine.{events, first_state}
use Rattle.fw_model.specs.Order.{notified_stamps}
use Rattle.fw_model.specs.Steps.{Run, did, silent}
use Rattle.fw_model.specs.Told.{is_told, EachDelivery, AreToldInside, IsSumOfTold}
use Rattle.fw_model.specs.LawsOfTables as tables
use Rattle.fw_examples.specs.Flows.{pair}
use Rattle.fw_examples.specs.RunningTotal.{outcomes_to_failure, total_node, steps_to_failure, total_flow, totals}
use Rattle.fw_examples.specs.Witnesses.{last_taken, steps_by_themselves}

-- the events of the running total once epoch 3 came to it too
abbrev pub events_of_run : List Event
events_of_run = events_at total_flow total_node (events last_taken.history)

-- The running total was told of epochs 1 and 2, which are settled, and may be told of epoch 3, of which a rec came.
pub record OneMoreMayBeTold : Type 0 where
  pub reached : Run totals (first_state totals) (steps_to_failure ++ steps_by_themselves) (outcomes_to_failure ++ did silent ∷ did silent ∷ []) last_taken
  pub told : notified_stamps events_of_run ≡ (2 ∷ []) ∷ (1 ∷ []) ∷ []
  pub came : delivered_recs (λ d s. leq s (3 ∷ [])) events_of_run ≡ pair 1 1 ∷ pair 1 5 ∷ pair 1 10 ∷ []
  pub notifiable : IsNotifiable totals (events last_taken.history) total_node (3 ∷ [])

-- the laws of tables, of the running total there
pub record TablesApply : Type 0 where
  pub not_told : tables.NothingComesAfterItsNotice → is_told events_of_run (3 ∷ []) ≡ false
  pub settled_told : tables.SettledIsTold → AreToldInside (node_frontier total_flow total_node (until 3)) events_of_run
  pub summed : tables.TotalsSumWhatWasTold → IsSumOfTold (node_frontier total_flow total_node (until 3)) events_of_run (3 ∷ [])
  pub inside : tables.DeliveriesLieInside
      → EachDelivery (λ s. (node_frontier total_flow total_node (until 2) s ≡ true) × (in_domain (bounds_of total_flow total_node) s ≡ true))
      (events_inside (node_frontier total_flow total_node (until 2)) events_of_run)
