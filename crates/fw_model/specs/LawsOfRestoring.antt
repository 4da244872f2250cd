-- Laws of restoring: what a restoration to a largest choice needs was not lost and not collected, what checkpoints hold stays
-- true, and what was collected is what lies below the low watermark.
use Rattle.std.specs.Prelude.{◌≡◌, ◌≢◌, ◌↔◌, ℕ, ◌<◌, ◌≤◌, Bool, true, false, List, [], ◌∷◌, ◌++◌, map, length}
use Rattle.std.specs.List.{AllByRecursion}
use Rattle.fw_frontier.specs.Front.{Front}
use Rattle.fw_flow.specs.declared.choice.Cut.TheVariants.{At}
use Rattle.fw_flow.specs.declared.kind.Policy.TheVariants as policy
use Rattle.fw_flow.specs.declared.step.Step.{Step}
use Rattle.fw_flow.specs.Dataflow.{System, kind_of, policy_of, bounds_of, is_input_kind, batches_of, node_frontier}
use Rattle.fw_flow.specs.NodeFunction.{event_node, event_stamp}
use Rattle.fw_flow.specs.WellFormed.{IsWellFormedSystem}
use Rattle.fw_model.specs.History.{injected_count}
use Rattle.fw_model.specs.Machine.{Machine, SerialEvent, Write, checkpoint, acknowledged, collected, events, no_stamps, first_state, front_of}
use Rattle.fw_flow.specs.declared.choice.Choice.{Choice}
use Rattle.fw_model.specs.Choice.{kept, IsCandidate, cut_of, kept_of, IsLargest, IsWatermark}
use Rattle.fw_model.specs.Steps.{Outcome, StepsTo, Run, is_in_flight, front_of_cut, is_forgotten}
use Rattle.fw_model.specs.Writes.{takes_checkpoints, CountsWritten, Ascends, IsWrittenAsAsked, NothingComesInside, IsKeptWithin, HasOne, IsCheckpointOf, IsLoggedOnce, MayKeepNothingIfCollected}
use Rattle.fw_model.specs.Resending.{HoldsWhatIsSentAgain, LogHoldsWhatIsSentAgain}

-- each step from a state to which steps of a well-formed system lead from the first one leaves what each checkpoint holds
-- that is among the writes after it: in flight, acknowledged or collected, asked in that step or before
abbrev pub CheckpointsStayTrue : Type 0
CheckpointsStayTrue = (sys : System) → IsWellFormedSystem sys → (steps : List Step) (outcomes : List Outcome) (last : Machine)
    → Run sys (first_state sys) steps outcomes last → (step : Step) (next : Machine) (outcome : Outcome) → StepsTo sys last step next outcome
    → AllByRecursion (λ (write : Write). CountsWritten sys last next write.node write.written) next.writes

-- in each state to which steps of a well-formed system lead from the first one, each checkpoint, in flight or not, lies within
-- what is settled at its node and within each checkpoint of the node that was asked later
abbrev pub CheckpointsAscend : Type 0
CheckpointsAscend = (sys : System) → IsWellFormedSystem sys → (steps : List Step) (outcomes : List Outcome) (last : Machine)
    → Run sys (first_state sys) steps outcomes last → (earlier later : List Write) (write : Write) → last.writes ≡ earlier ++ write ∷ later
    → write.node < length sys.flow.nodes → (f : Front) (low : List Front) → write.written ≡ checkpoint f low → Ascends sys last.settled write.node f later

-- in each state to which steps of a well-formed system lead from the first one, each checkpoint is as it was asked
abbrev pub CheckpointsAreAsTheyWereAsked : Type 0
CheckpointsAreAsTheyWereAsked = (sys : System) → IsWellFormedSystem sys → (steps : List Step) (outcomes : List Outcome) (last : Machine)
    → Run sys (first_state sys) steps outcomes last
    → AllByRecursion (λ (write : Write). IsWrittenAsAsked sys last write.node write.written) last.writes

-- in each state to which steps of a well-formed system lead from the first one, nothing new comes inside a checkpoint
abbrev pub NothingComesInsideCheckpoints : Type 0
NothingComesInsideCheckpoints = (sys : System) → IsWellFormedSystem sys → (steps : List Step) (outcomes : List Outcome) (last : Machine)
    → Run sys (first_state sys) steps outcomes last
    → AllByRecursion (λ (write : Write). NothingComesInside sys last write.node write.written) last.writes

-- in each state to which steps of a well-formed system lead from the first one, where the largest choice among what is kept
-- cuts a node that takes checkpoints to a front with a stamp inside, exactly one write is a checkpoint of the node there,
-- and it is acknowledged and not collected
abbrev pub CheckpointsAtCutsAreKept : Type 0
CheckpointsAtCutsAreKept = (sys : System) → IsWellFormedSystem sys → (steps : List Step) (outcomes : List Outcome) (last : Machine)
    → Run sys (first_state sys) steps outcomes last → (lost : ℕ → Bool) (choice : Choice) → IsLargest sys last (IsCandidate sys last lost kept) choice
    → (p : ℕ) (f : Front) → takes_checkpoints (policy_of sys.flow p) ≡ true → cut_of choice p ≡ At f → f ≢ no_stamps (bounds_of sys.flow p)
    → (only : HasOne (IsCheckpointOf p f) last.writes) × (only.one.stage ≡ acknowledged)

-- in each state to which steps of a well-formed system lead from the first one, with each largest choice among what is
-- kept, logs that hold what lies outside the low watermark hold what is to be sent again
abbrev pub LogsHoldWhatIsSentAgain : Type 0
LogsHoldWhatIsSentAgain = (sys : System) → IsWellFormedSystem sys → (steps : List Step) (outcomes : List Outcome) (last : Machine)
    → Run sys (first_state sys) steps outcomes last → (lost : ℕ → Bool) (choice : Choice) → IsLargest sys last (IsCandidate sys last lost kept) choice
    → (e : ℕ) → e < length sys.flow.edges → HoldsWhatIsSentAgain sys last choice last.low e

-- the same of the logs that are kept with checkpoints, by the watermark of the moment at which each was asked
abbrev pub CheckpointLogsHoldWhatIsSentAgain : Type 0
CheckpointLogsHoldWhatIsSentAgain = (sys : System) → IsWellFormedSystem sys → (steps : List Step) (outcomes : List Outcome) (last : Machine)
    → Run sys (first_state sys) steps outcomes last → (lost : ℕ → Bool) (choice : Choice) → IsLargest sys last (IsCandidate sys last lost kept) choice
    → AllByRecursion (λ (write : Write). LogHoldsWhatIsSentAgain sys last choice write.node write.written) last.writes

-- in each state to which steps of a well-formed system lead from the first one, the watermark that is kept with a
-- checkpoint lies within today's
abbrev pub KeptWatermarksLieWithinToday : Type 0
KeptWatermarksLieWithinToday = (sys : System) → IsWellFormedSystem sys → (steps : List Step) (outcomes : List Outcome) (last : Machine)
    → Run sys (first_state sys) steps outcomes last → AllByRecursion (λ (write : Write). IsKeptWithin sys last.low write.written) last.writes

-- in each state to which steps of a well-formed system lead from the first one, a batch outside the cut of its input in a
-- largest choice among what is kept, which is then injected again, lies outside the low watermark
abbrev pub BatchesOutsideCutsLieOutsideLow : Type 0
BatchesOutsideCutsLieOutsideLow = (sys : System) → IsWellFormedSystem sys → (steps : List Step) (outcomes : List Outcome) (last : Machine)
    → Run sys (first_state sys) steps outcomes last → (lost : ℕ → Bool) (choice : Choice) → IsLargest sys last (IsCandidate sys last lost kept) choice
    → (s x : ℕ) → s < length sys.flow.nodes → kept_of sys.flow choice s (x ∷ []) ≡ false
    → node_frontier sys.flow s (front_of last.low s) (x ∷ []) ≡ false

-- a batch of an input that is not injected in some state of a run of a well-formed system, and so is to come, lies outside
-- the low watermark of that state and of each earlier one
abbrev pub BatchesToComeLieOutsideLow : Type 0
BatchesToComeLieOutsideLow = (sys : System) → IsWellFormedSystem sys → (steps : List Step) (outcomes : List Outcome) (last : Machine)
    → Run sys (first_state sys) steps outcomes last → (more : List Step) (also : List Outcome) (later : Machine) → Run sys last more also later
    → (s x : ℕ) → is_input_kind (kind_of sys.flow s) ≡ true → injected_count s (events later.history) ≤ x → x < length (batches_of sys s)
    → node_frontier sys.flow s (front_of last.low s) (x ∷ []) ≡ false

-- in each state to which steps of a well-formed system lead from the first one, where the largest choice among what is kept
-- cuts a node that logs each event, each event of the node inside its cut is logged once
abbrev pub EventsInsideCutsAreLogged : Type 0
EventsInsideCutsAreLogged = (sys : System) → IsWellFormedSystem sys → (steps : List Step) (outcomes : List Outcome) (last : Machine)
    → Run sys (first_state sys) steps outcomes last → (lost : ℕ → Bool) (choice : Choice) → IsLargest sys last (IsCandidate sys last lost kept) choice
    → (p : ℕ) (f : Front) → policy_of sys.flow p ≡ policy.Full → cut_of choice p ≡ At f
    → AllByRecursion (λ (v : SerialEvent). event_node sys.flow v.event ≡ p → node_frontier sys.flow p f (event_stamp v.event) ≡ true
    → IsLoggedOnce sys last.low p v last.writes) last.history

-- in each state to which steps of a well-formed system lead from the first one, no logged event of a total, a sequence or a
-- ledger was collected
abbrev pub EventsThatMustBeKeptAreNeverCollected : Type 0
EventsThatMustBeKeptAreNeverCollected = (sys : System) → IsWellFormedSystem sys → (steps : List Step) (outcomes : List Outcome) (last : Machine)
    → Run sys (first_state sys) steps outcomes last → AllByRecursion (MayKeepNothingIfCollected sys) last.writes

-- in each state to which steps of a well-formed system lead from the first one, no write is in flight that a collection
-- forgets: what a collection forgets was acknowledged
abbrev pub WhatIsForgottenWasAcknowledged : Type 0
WhatIsForgottenWasAcknowledged = (sys : System) → IsWellFormedSystem sys → (steps : List Step) (outcomes : List Outcome) (last : Machine)
    → Run sys (first_state sys) steps outcomes last → (choice : Choice) → IsWatermark sys last choice
    → AllByRecursion (λ (write : Write). is_forgotten sys (map front_of_cut choice.cuts) last.history last.writes write ≡ true
    → is_in_flight write.stage ≡ false) last.writes

-- in each state to which steps of a well-formed system lead from the first one, a write was collected exactly where the low
-- watermark forgets it: so the logged events of a node at a stamp are all collected, or none is
abbrev pub CollectedIsWhatLiesBelow : Type 0
CollectedIsWhatLiesBelow = (sys : System) → IsWellFormedSystem sys → (steps : List Step) (outcomes : List Outcome) (last : Machine)
    → Run sys (first_state sys) steps outcomes last
    → AllByRecursion (λ (write : Write). (write.stage ≡ collected) ↔ (is_forgotten sys last.low last.history last.writes write ≡ true)) last.writes
