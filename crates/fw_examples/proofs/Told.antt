-- Of which epochs the running total was told, and the laws of tables applied to it.
use Rattle.std.proofs.Common.{List, [], ◌++◌, ◌∷◌, lit<, refl}
use Rattle.fw_flow.specs.Dataflow.{batches_of, bounds_of, kind_of, node_frontier, policy_of, receiver, sender}
use Rattle.fw_flow.specs.NodeFunction.{sends}
use Rattle.fw_flow.specs.Projection.{phi}
use Rattle.fw_flow.specs.declared.event.Event.TheVariants.{Notify as Notified}
use Rattle.fw_flow.specs.declared.step.Step.{Step}
use Rattle.fw_flow.specs.KeyParts.{is_carried, part_of}
use Rattle.fw_model.specs.Carried.{carried}
use Rattle.fw_model.specs.Choice.{until}
use Rattle.fw_model.specs.Machine.{events, first_state}
use Rattle.fw_model.specs.Steps.{Outcome, did, silent}
use Rattle.fw_model.proofs.GoingOn.{runs-go_on}
use Rattle.fw_model.proofs.RecoveryLaws.{runs-legal}
use Rattle.fw_examples.specs.RunningTotal.{outcomes_to_failure, output_failed, total_node, steps_to_failure, total_flow, totals}
use Rattle.fw_examples.specs.Witnesses.{all_written, last_taken, steps_by_themselves}
use Rattle.fw_examples.specs.Told.{OneMoreMayBeTold, TablesApply}
use Rattle.fw_examples.proofs.Settling.{notifiable_by}
use Rattle.fw_examples.proofs.TotalRuns.{totals_formed}
use Rattle.fw_examples.proofs.Witnesses.{failure_is_reached, totals_are_well_formed, writes_first, delivers_then}

-- the steps to the failure, and then two more
abbrev steps_then : List Step
steps_then = steps_to_failure ++ steps_by_themselves

-- what they show
abbrev outcomes_then : List Outcome
outcomes_then = outcomes_to_failure ++ did silent ∷ did silent ∷ []

pub one_more_may_be_told : OneMoreMayBeTold
unfolding kind_of receiver sender sends batches_of bounds_of policy_of phi carried is_carried part_of
one_more_may_be_told = record {
  reached = runs-go_on totals (first_state totals) output_failed last_taken steps_to_failure steps_by_themselves outcomes_to_failure (did silent ∷ did silent ∷ [])
      failure_is_reached.reached (all_written, writes_first.leads, (last_taken, delivers_then.leads, refl));
  told = refl;
  came = refl;
  notifiable = notifiable_by totals (events last_taken.history) total_node (3 ∷ []) (until 4 ∷ until 3 ∷ until 2 ∷ []) totals_formed (lit< tt) refl;
}

pub tables_apply : TablesApply
unfolding kind_of bounds_of
tables_apply =
    let system = totals_are_well_formed in
    let formed = system.well_formed in
    let reached = one_more_may_be_told.reached in
    let legal = runs-legal totals steps_then outcomes_then last_taken totals_formed system.epochs reached in
    record {
      not_told = λ law. law totals (events last_taken.history) totals_formed system.epochs legal total_node refl (Notified total_node (3 ∷ [])) one_more_may_be_told.notifiable refl;
      settled_told = λ law. law totals formed steps_then outcomes_then last_taken reached total_node refl;
      summed = λ law. law totals formed steps_then outcomes_then last_taken reached total_node refl (3 ∷ []) one_more_may_be_told.notifiable;
      inside = λ law. law totals (events last_taken.history) totals_formed system.epochs legal total_node (node_frontier total_flow total_node (until 2));
    }
