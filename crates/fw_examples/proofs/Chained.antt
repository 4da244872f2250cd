-- On what checkpoints stand: in the run of the running total, and in one of nine epochs.
use Rattle.std.proofs.Common.{List, [], lit<, refl, take, true, ℕ, ◌++◌, ◌+◌, ◌∷◌, ◌≡◌}
use Rattle.fw_flow.specs.Dataflow.{batches_of, bounds_of, kind_of, node_ids, policy_of, receiver, sender}
use Rattle.fw_flow.specs.NodeFunction.{sends}
use Rattle.fw_flow.specs.Projection.{phi, psi}
use Rattle.fw_flow.specs.WellFormed.{IsWellFormed, IsWellFormedSystem}
use Rattle.fw_flow.specs.declared.kind.Policy.TheVariants as policy
use Rattle.fw_flow.specs.declared.step.Step.{Step}
use Rattle.fw_flow.specs.declared.step.Step.TheVariants.{Collect, Inject, Persist, Progress}
use Rattle.fw_flow.specs.KeyParts.{is_carried, part_of}
use Rattle.fw_model.specs.Carried.{carried}
use Rattle.fw_model.specs.Choice.{IsWatermark, kept}
use Rattle.fw_model.specs.Machine.{Machine, first_state}
use Rattle.fw_model.specs.Steps.{Outcome, Run, StepsTo, did, eager_writes, lows, silent}
use Rattle.fw_examples.specs.Chained.{ChangesAreKept, NinthIsWhole, eight_collected, nine_but_at_output, nine_settled, outcomes_of_epochs, outcomes_to_collected, settled_epochs, steps_of_epochs, steps_to_collected, ten_epochs}
use Rattle.fw_examples.specs.RunningTotal.{alike}
use Rattle.fw_examples.proofs.Choosing.{consistent_by, largest_by}
use Rattle.fw_examples.proofs.Plays.{after_all, are_taken, inject, persist, plays}
use Rattle.fw_examples.proofs.Settling.{settles}
use Rattle.fw_examples.proofs.WellFormed.{select_is_well_formed, system_by}

pub changes_are_kept : ChangesAreKept
unfolding bounds_of kind_of policy_of
changes_are_kept = record {
  links = refl;
  below = refl;
  stood_on = refl;
  not_forgotten = refl;
  restored = refl;
  left = refl;
  next = refl;
  next_base = refl;
}

-- ---- nine epochs

formed : IsWellFormed ten_epochs.flow
formed = select_is_well_formed policy.Eager tt

system : IsWellFormedSystem ten_epochs
unfolding kind_of batches_of
system = system_by ten_epochs formed refl refl

-- the first k epochs are settled, each with its checkpoint
abbrev epochs_come : ℕ → Machine
epochs_come k = settled_epochs k (take k nine_settled.writes)

-- one more is sent
abbrev one_sent : ℕ → Machine
one_sent k = after_all ten_epochs (epochs_come k) (inject 0 k ∷ [])

-- and settled, which asks a checkpoint
abbrev one_settled : ℕ → Machine
one_settled k = record (one_sent k) { settled = alike (k + 1); writes = (one_sent k).writes ++ eager_writes ten_epochs (one_sent k) (alike (k + 1)) (node_ids ten_epochs.flow) }

-- the steps of an epoch, and what follows them
comes : (k : ℕ) (steps : List Step) (outcomes : List Outcome) (last : Machine) → are_taken ten_epochs (epochs_come k) (inject 0 k ∷ []) ≡ true
    → StepsTo ten_epochs (one_sent k) Progress (one_settled k) (did silent) → are_taken ten_epochs (one_settled k) (persist ∷ []) ≡ true
    → Run ten_epochs (after_all ten_epochs (one_settled k) (persist ∷ [])) steps outcomes last
    → Run ten_epochs (epochs_come k) (Inject 0 ∷ Progress ∷ Persist ∷ steps) (did silent ∷ did silent ∷ did silent ∷ outcomes) last
comes k steps outcomes last sent settled written run =
    plays ten_epochs (inject 0 k ∷ []) (epochs_come k) (Progress ∷ Persist ∷ steps) (did silent ∷ did silent ∷ outcomes) last sent
    (one_settled k, settled, plays ten_epochs (persist ∷ []) (one_settled k) steps outcomes last written run)

nine_are_low : IsWatermark ten_epochs nine_settled nine_but_at_output
unfolding kind_of receiver sender sends batches_of bounds_of policy_of phi psi carried is_carried part_of
nine_are_low =
    largest_by ten_epochs nine_settled (λ p. true) kept nine_but_at_output
    (consistent_by ten_epochs nine_settled (λ p. true) kept nine_but_at_output formed refl refl refl refl) refl refl

-- the steps of the last k epochs and of the collection
abbrev steps_left : ℕ → List Step
steps_left k = steps_of_epochs k (Collect ∷ [])

-- what they show
abbrev shown_left : ℕ → List Outcome
shown_left k = outcomes_of_epochs k (did (lows nine_but_at_output) ∷ [])

collects : Run ten_epochs nine_settled (steps_left 0) (shown_left 0) eight_collected
unfolding kind_of receiver bounds_of policy_of
collects = (eight_collected, (nine_but_at_output, nine_are_low, (λ e. cc), refl, refl), refl)

reached : Run ten_epochs (first_state ten_epochs) steps_to_collected outcomes_to_collected eight_collected
unfolding kind_of receiver sender sends batches_of bounds_of policy_of phi carried is_carried part_of
reached =
    let from_9 = collects in
    let from_8 = comes 8 (steps_left 0) (shown_left 0) eight_collected refl (settles ten_epochs (one_sent 8) (alike 9) formed refl refl refl 0 (8 ∷ []) (lit< tt) refl refl) refl from_9 in
    let from_7 = comes 7 (steps_left 1) (shown_left 1) eight_collected refl (settles ten_epochs (one_sent 7) (alike 8) formed refl refl refl 0 (7 ∷ []) (lit< tt) refl refl) refl from_8 in
    let from_6 = comes 6 (steps_left 2) (shown_left 2) eight_collected refl (settles ten_epochs (one_sent 6) (alike 7) formed refl refl refl 0 (6 ∷ []) (lit< tt) refl refl) refl from_7 in
    let from_5 = comes 5 (steps_left 3) (shown_left 3) eight_collected refl (settles ten_epochs (one_sent 5) (alike 6) formed refl refl refl 0 (5 ∷ []) (lit< tt) refl refl) refl from_6 in
    let from_4 = comes 4 (steps_left 4) (shown_left 4) eight_collected refl (settles ten_epochs (one_sent 4) (alike 5) formed refl refl refl 0 (4 ∷ []) (lit< tt) refl refl) refl from_5 in
    let from_3 = comes 3 (steps_left 5) (shown_left 5) eight_collected refl (settles ten_epochs (one_sent 3) (alike 4) formed refl refl refl 0 (3 ∷ []) (lit< tt) refl refl) refl from_4 in
    let from_2 = comes 2 (steps_left 6) (shown_left 6) eight_collected refl (settles ten_epochs (one_sent 2) (alike 3) formed refl refl refl 0 (2 ∷ []) (lit< tt) refl refl) refl from_3 in
    let from_1 = comes 1 (steps_left 7) (shown_left 7) eight_collected refl (settles ten_epochs (one_sent 1) (alike 2) formed refl refl refl 0 (1 ∷ []) (lit< tt) refl refl) refl from_2 in
    comes 0 (steps_left 8) (shown_left 8) eight_collected refl (settles ten_epochs (one_sent 0) (alike 1) formed refl refl refl 0 (0 ∷ []) (lit< tt) refl refl) refl from_1

pub ninth_is_whole : NinthIsWhole
ninth_is_whole = record {
  reached = reached;
  depths = refl;
  stages = refl;
  next = refl;
  chained = λ law. law ten_epochs system steps_to_collected outcomes_to_collected eight_collected reached 1 (lit< tt);
  left_chained = λ law. law ten_epochs system steps_to_collected outcomes_to_collected eight_collected reached 1 (lit< tt);
  next_by_left = λ law. (law ten_epochs system steps_to_collected outcomes_to_collected eight_collected reached 1 (lit< tt)).0;
  few = λ law. law ten_epochs steps_to_collected outcomes_to_collected eight_collected reached;
  collected_below = λ law. law ten_epochs system steps_to_collected outcomes_to_collected eight_collected reached;
}
