-- What is got back when every node is failed: the laws, asked of states and stamps that meet what they ask.
use Rattle.std.proofs.Common.{List, None, [], false, lit<, refl, true, ◌<◌, ◌∷◌}
use Rattle.std.proofs.lemmas.Bool.{false≢true}
use Rattle.fw_flow.specs.Dataflow.{batches_of, bounds_of, kind_of, policy_of, receiver, sender}
use Rattle.fw_flow.specs.NodeFunction.{sends}
use Rattle.fw_flow.specs.Projection.{phi}
use Rattle.fw_flow.specs.WellFormed.{IsWellFormed, IsWellFormedSystem}
use Rattle.fw_flow.specs.declared.choice.Cut.TheVariants.{At}
use Rattle.fw_flow.specs.declared.kind.Policy.TheVariants as policy
use Rattle.fw_flow.specs.declared.step.Step.TheVariants as step
use Rattle.fw_flow.specs.KeyParts.{is_carried, part_of}
use Rattle.fw_model.specs.Carried.{carried}
use Rattle.fw_model.specs.Choice.{kept, until}
use Rattle.fw_model.specs.Machine.{Machine, first_state}
use Rattle.fw_model.specs.Reached.{IsReached}
use Rattle.fw_model.specs.Steps.{did, silent}
use Rattle.fw_regain.specs.Down.{down}
use Rattle.fw_regain.proofs.DownLaws.{down-failed}
use Rattle.fw_examples.specs.Flows.{big, src, src_to_big}
use Rattle.fw_examples.specs.GotBack.{EveryNodeIsDown, ThirdLacksAnEpoch, also_in_epoch, one_in_flight}
use Rattle.fw_examples.specs.Logs.{each_written, first_message, none}
use Rattle.fw_examples.specs.RunningTotal.{outcomes_to_failure, output_failed, steps_to_failure, total_node, totals, two_epochs_kept}
use Rattle.fw_examples.proofs.Plays.{Move, after_all, deliver, inject, persist, plays}
use Rattle.fw_examples.proofs.Settling.{settles}
use Rattle.fw_examples.proofs.TotalRuns.{kept_consistent, ten_acknowledged, two_epochs_are_low}
use Rattle.fw_examples.proofs.WellFormed.{select_is_well_formed, system_by}
use Rattle.fw_examples.proofs.Witnesses.{failure_is_reached, totals_are_well_formed}

-- ---- every node is failed

failure_reached : IsReached totals output_failed
failure_reached = (steps_to_failure, outcomes_to_failure, failure_is_reached.reached)

pub every_node_is_down : EveryNodeIsDown
unfolding bounds_of kind_of
every_node_is_down = record {
  live = refl;
  flies = refl;
  lost = refl;
  goes = λ law. law totals output_failed failure_reached;
  is_down = λ law. law totals output_failed;
  reached = λ law. law totals output_failed failure_reached;
  still = λ gone law. law totals (down totals output_failed) (gone totals output_failed failure_reached) (λ p l. down-failed totals output_failed p l);
  offered = λ law. (law totals output_failed (λ p. true) kept total_node (At (until 2))).1 ((kept_consistent (λ p. true)).offered 1 (lit< tt));
  before = ten_acknowledged;
  watermark = two_epochs_are_low;
  chosen = λ law. (law totals ten_acknowledged two_epochs_kept).1 two_epochs_are_low;
  again = λ law. law totals output_failed totals_are_well_formed.well_formed failure_reached;
}

-- ---- one of two events is in flight

written_formed : IsWellFormed each_written.flow
written_formed = select_is_well_formed policy.Full tt

written_system : IsWellFormedSystem each_written
unfolding kind_of batches_of
written_system = system_by each_written written_formed refl refl

abbrev both_come : List Move
both_come = inject 0 0 ∷ deliver 0 None first_message ∷ deliver 0 None also_in_epoch ∷ []

abbrev both_there : Machine
both_there = after_all each_written (first_state each_written) both_come

abbrev both_settled : Machine
both_settled = record both_there { settled = [] ∷ [] ∷ none ∷ [] }

one_reached : IsReached each_written one_in_flight
unfolding kind_of receiver sender sends batches_of bounds_of policy_of phi carried is_carried part_of
one_reached = (
  step.Inject src ∷ step.Deliver src_to_big None ∷ step.Deliver src_to_big None ∷ step.Progress ∷ step.Persist ∷ [],
  did silent ∷ did silent ∷ did silent ∷ did silent ∷ did silent ∷ [],
  plays each_written both_come (first_state each_written) (step.Progress ∷ step.Persist ∷ []) (did silent ∷ did silent ∷ []) one_in_flight refl (
    both_settled,
    settles each_written both_there ([] ∷ [] ∷ none ∷ []) written_formed refl refl refl 0 (0 ∷ []) (lit< tt) refl refl,
    plays each_written (persist ∷ []) both_settled [] [] one_in_flight refl refl,
  ),
)

pub third_lacks_an_epoch : ThirdLacksAnEpoch
unfolding kind_of policy_of bounds_of receiver
third_lacks_an_epoch = record {
  reached = one_reached;
  settled = refl;
  not_logged = refl;
  outside = refl;
  stays = λ law. law each_written one_in_flight big (0 ∷ []);
  not_offered = λ law c. false≢true (((law each_written one_in_flight (λ p. true) big (until 1) refl).0 c).2 (0 ∷ []) refl);
  holds = λ law. law each_written one_in_flight big written_system one_reached (lit< tt) refl;
  kept_one = λ law. (law each_written one_in_flight big written_system one_reached).1.0 refl refl refl;
}
