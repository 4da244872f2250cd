-- On what checkpoints stand: in the run with a failure each after the first holds changes since the one before it; and in a run of nine
-- epochs the ninth is whole again.
use Rattle.std.specs.Prelude.{List, None, Some, [], false, filter, map, replicate, suc, true, zero, ℕ, ◌++◌, ◌+◌, ◌∷◌, ◌↔◌, ◌≡◌}
use Rattle.std.specs.List.{AllByRecursion}
use Rattle.fw_flow.specs.Dataflow.{System}
use Rattle.fw_flow.specs.declared.choice.Choice.{Choice}
use Rattle.fw_flow.specs.declared.choice.Cut.TheVariants.{At}
use Rattle.fw_flow.specs.declared.event.Event.{Event}
use Rattle.fw_flow.specs.declared.event.Event.TheVariants.{Inject as Injected}
use Rattle.fw_flow.specs.declared.step.Step.{Step}
use Rattle.fw_flow.specs.declared.step.Step.TheVariants.{Collect, Inject, Persist, Progress}
use Rattle.fw_flow.specs.declared.kind.Policy.TheVariants as policy
use Rattle.fw_model.specs.Choice.{cut_of, until}
use Rattle.fw_model.specs.LawsOfChains as chains
use Rattle.fw_model.specs.LawsOfChains.{IsChain, IsShallow, Link, links_of}
use Rattle.fw_model.specs.LawsOfRestoring as restoring
use Rattle.fw_model.specs.Machine.{Machine, Write, acknowledged, checkpoint, collected, first_state}
use Rattle.fw_model.specs.Steps.{Outcome, Run, base_of_depth, checkpoints_of, depths_of, did, is_forgotten, lies_below, lows, next_depth, silent, stands_on}
use Rattle.fw_model.specs.Writes.{not_collected}
use Rattle.fw_examples.specs.Flows.{big, fed, selecting, src}
use Rattle.fw_examples.specs.Loop.{with_serials}
use Rattle.fw_examples.specs.RunningTotal.{alike, come_back, output_failed, total_node, totals, two_epochs_kept}

-- ---- the running total

-- the checkpoint of epoch 0, which is whole
abbrev pub earlier_write : Write
earlier_write = record { node = total_node; written = checkpoint (until 1) (alike 0); base = None; depth = 0; stage = acknowledged }

-- that of epochs 0 and 1, which holds changes since then
abbrev pub later_write : Write
later_write = record { node = total_node; written = checkpoint (until 2) (alike 0); base = Some (until 1); depth = 1; stage = acknowledged }

-- their links
abbrev pub two_links : List Link
two_links = record { front = until 1; base = None; depth = 0 } ∷ record { front = until 2; base = Some (until 1); depth = 1 } ∷ []

-- In the state of the failure each checkpoint after the first stands on the one before it. By itself the first would be forgotten, since it
-- lies below the low watermark; it is not, since the second stands on it. The recovery goes back to the second, both are left, and
-- the next one will stand on it again.
pub record ChangesAreKept : Type 0 where
  pub links : links_of total_node output_failed.writes ≡ two_links ++ record { front = until 3; base = Some (until 2); depth = 2 } ∷ []
  pub below : lies_below totals output_failed.low output_failed.history total_node earlier_write.written ≡ true
  pub stood_on : stands_on output_failed.writes later_write earlier_write ≡ true
  pub not_forgotten : is_forgotten totals output_failed.low output_failed.history output_failed.writes earlier_write ≡ false
  pub restored : cut_of two_epochs_kept total_node ≡ At (until 2)
  pub left : links_of total_node come_back.writes ≡ two_links
  pub next : next_depth total_node come_back.writes ≡ 2
  pub next_base : base_of_depth 2 (checkpoints_of total_node come_back.writes) ≡ Some (until 2)

-- ---- a select that writes a checkpoint whenever more is settled, over epochs without recs

-- its dataflow, with ten such epochs
abbrev pub ten_epochs : System
ten_epochs = fed (selecting policy.Eager) (replicate 10 [])

-- the first k of them are sent, the latest event first
abbrev pub sent_epochs : ℕ → List Event
sent_epochs zero = []
sent_epochs (suc k) = Injected src k ∷ sent_epochs k

-- the checkpoint of the first k of them, which is whole
abbrev pub whole_write : ℕ → Write
whole_write k = record { node = big; written = checkpoint (until k) (alike 0); base = None; depth = 0; stage = acknowledged }

-- that of the first k and one more, which stands on the one of the first k, and on k checkpoints in all
abbrev pub changes_write : ℕ → Write
changes_write k = record { node = big; written = checkpoint (until (k + 1)) (alike 0); base = Some (until k); depth = k; stage = acknowledged }

-- the first eight checkpoints
abbrev pub eight_written : List Write
eight_written =
    whole_write 1 ∷ changes_write 1 ∷ changes_write 2 ∷ changes_write 3 ∷ changes_write 4 ∷ changes_write 5 ∷ changes_write 6 ∷ changes_write 7 ∷ []

-- the first k epochs are sent and settled, and these checkpoints written
abbrev pub settled_epochs : ℕ → List Write → Machine
settled_epochs k writes = record {
  history = with_serials (sent_epochs k);
  next = k;
  settled = alike k;
  writes = writes;
  failed = false ∷ false ∷ false ∷ [];
  ack_counts = 0 ∷ 0 ∷ 0 ∷ [];
  low = alike 0;
}

-- nine epochs are settled, each with its checkpoint
abbrev pub nine_settled : Machine
nine_settled = settled_epochs 9 (eight_written ++ whole_write 9 ∷ [])

-- the low watermark then: nine epochs, but at the output none, since none is acknowledged
abbrev pub nine_but_at_output : Choice
nine_but_at_output = record { cuts = At (until 9) ∷ At (until 9) ∷ At (until 0) ∷ []; notices = until 9 ∷ until 9 ∷ until 0 ∷ [] }

-- the state after a collection
abbrev pub eight_collected : Machine
eight_collected = record nine_settled {
  writes = map (λ (write : Write). record write { stage = collected }) eight_written ++ whole_write 9 ∷ [];
  low = until 9 ∷ until 9 ∷ until 0 ∷ [];
}

-- an epoch is sent and settled, and its checkpoint written, so many times
abbrev pub steps_of_epochs : ℕ → List Step → List Step
steps_of_epochs zero steps = steps
steps_of_epochs (suc k) steps = Inject src ∷ Progress ∷ Persist ∷ steps_of_epochs k steps

-- what that shows
abbrev pub outcomes_of_epochs : ℕ → List Outcome → List Outcome
outcomes_of_epochs zero outcomes = outcomes
outcomes_of_epochs (suc k) outcomes = did silent ∷ did silent ∷ did silent ∷ outcomes_of_epochs k outcomes

-- the steps to the collection
abbrev pub steps_to_collected : List Step
steps_to_collected = steps_of_epochs 9 (Collect ∷ [])

-- what they show
abbrev pub outcomes_to_collected : List Outcome
outcomes_to_collected = outcomes_of_epochs 9 (did (lows nine_but_at_output) ∷ [])

-- The ninth checkpoint is whole. So the collection takes the eight before it, of which each stands on the ones before it.
pub record NinthIsWhole : Type 0 where
  pub reached : Run ten_epochs (first_state ten_epochs) steps_to_collected outcomes_to_collected eight_collected
  pub depths : depths_of big eight_collected.writes ≡ 0 ∷ 1 ∷ 2 ∷ 3 ∷ 4 ∷ 5 ∷ 6 ∷ 7 ∷ 0 ∷ []
  pub stages : map (λ (write : Write). write.stage) eight_collected.writes ≡ replicate 8 collected ++ acknowledged ∷ []
  pub next : next_depth big eight_collected.writes ≡ 1
  pub chained : chains.EachStandsOnTheOneBefore → IsChain None (links_of big eight_collected.writes)
  pub left_chained : chains.WhatIsNotCollectedIsAChain → IsChain None (links_of big (filter not_collected eight_collected.writes))
  pub next_by_left : chains.TheNextStandsOnWhatIsLeft → next_depth big (filter not_collected eight_collected.writes) ≡ next_depth big eight_collected.writes
  pub few : chains.EachStandsOnFew → AllByRecursion IsShallow eight_collected.writes
  pub collected_below : restoring.CollectedIsWhatLiesBelow
      → AllByRecursion (λ (write : Write). (write.stage ≡ collected) ↔ (is_forgotten ten_epochs eight_collected.low eight_collected.history eight_collected.writes write ≡ true)) eight_collected.writes
