-- The nodes of the running total settle one after the other, where two of them have something to settle.
use Rattle.std.specs.Prelude.{List, None, Some, [], false, replicate, take, true, ℕ, ◌++◌, ◌∷◌, ◌≡◌}
use Rattle.fw_frontier.specs.Front.{Front}
use Rattle.fw_flow.specs.declared.step.Step.{Step}
use Rattle.fw_flow.specs.declared.step.Step.TheVariants.{Collect, Deliver, Fail, Inject, Notify}
use Rattle.fw_model.specs.Choice.{until}
use Rattle.fw_model.specs.History.{IsComplete}
use Rattle.fw_model.specs.Machine.{Machine, events, family_of, first_state}
use Rattle.fw_model.specs.Steps.{GrowsTo, Outcome, Run, did, lows, silent}
use Rattle.fw_progress.specs.Laws.{NoneSettledAtFirst, OneMoreSettles, OthersSettleNothing, SettledInTurnIsSettled}
use Rattle.fw_progress.specs.Settle.{AreGrownBefore, SettlesMore, NoneGrows, is_growing}
use Rattle.fw_examples.specs.Flows.{out, src}
use Rattle.fw_examples.specs.RunningTotal.{alike, come_back, outcomes_up_to_two, output_failed, total_node, src_to_run, steps_up_to_two, total_flow, totals, two_epochs_kept}

-- the steps after the collection in which epoch 2 is summed, epoch 3 is sent, and the output fails, with none in which it settles
abbrev pub steps_unsettled : List Step
steps_unsettled = Inject src ∷ Deliver src_to_run None ∷ Notify total_node (Some (2 ∷ [])) ∷ Inject src ∷ Fail (out ∷ []) ∷ []

-- the steps before them too
abbrev pub steps_to_unsettled : List Step
steps_to_unsettled = steps_up_to_two ++ Collect ∷ steps_unsettled

-- what they show
abbrev pub outcomes_to_unsettled : List Outcome
outcomes_to_unsettled = outcomes_up_to_two ++ did (lows two_epochs_kept) ∷ replicate 5 (did silent)

-- the state after them: that of the failure, where epochs 0 and 1 alone are settled, and no checkpoint is in flight
abbrev pub state_unsettled : Machine
state_unsettled = record output_failed { settled = alike 2; writes = take 2 output_failed.writes }

-- what is complete there
abbrev pub complete_in_turn : List Front
complete_in_turn = until 4 ∷ until 3 ∷ until 2 ∷ []

-- these are settled there before a place
abbrev pub AreSettledBefore : List Front → ℕ → Type 0
AreSettledBefore new place = AreGrownBefore total_flow state_unsettled.failed state_unsettled.settled complete_in_turn new place

-- Two nodes have more to settle there, and the output, which failed, has not. They settle it one after the other, and so settled
-- grows to what is complete. After the recovery no node has more to settle.
pub record EpochsSettleInTurn : Type 0 where
  pub reached : Run totals (first_state totals) steps_to_unsettled outcomes_to_unsettled state_unsettled
  pub complete : IsComplete totals (events state_unsettled.history) (family_of total_flow complete_in_turn)
  pub input_settles : is_growing state_unsettled.failed state_unsettled.settled complete_in_turn src ≡ true
  pub total_settles : is_growing state_unsettled.failed state_unsettled.settled complete_in_turn total_node ≡ true
  pub output_settles_nothing : is_growing state_unsettled.failed state_unsettled.settled complete_in_turn out ≡ false
  pub first : NoneSettledAtFirst → AreSettledBefore (alike 2) src
  pub input_settled : OneMoreSettles → AreSettledBefore (until 4 ∷ until 2 ∷ until 2 ∷ []) total_node
  pub total_settled : OneMoreSettles → AreSettledBefore complete_in_turn out
  pub all_settled : OthersSettleNothing → AreSettledBefore complete_in_turn 3
  pub grows : SettledInTurnIsSettled → GrowsTo totals state_unsettled (family_of total_flow complete_in_turn) complete_in_turn
  pub none_after : NoneGrows come_back.failed come_back.settled (alike 2) 0 3
  pub none : SettledInTurnIsSettled → SettlesMore totals come_back None
