-- What is done while batches come: sources are fed and closed, and steps are taken.
use Rattle.std.specs.Prelude.{◌≡◌, ℕ, Bool, true, List, [], ◌∷◌}
use Rattle.fw_bag.specs.declared.rec.Rec.{Rec}
use Rattle.fw_flow.specs.declared.step.Step.{Step}
use Rattle.fw_flow.specs.Dataflow.{Dataflow}
use Rattle.fw_model.specs.Machine.{Machine}
use Rattle.fw_model.specs.Steps.{Effect, LeadsTo}
use Rattle.fw_feeding.specs.Feeding.{with_batches, Feeds, Closes}
use Rattle.fw_feeding.specs.OpenRuns.{HoldsBack}

-- what is done: a source is fed a batch; it is closed; it is closed with its last batch; a step is taken
pub data Action : Type 0 where
  feed : ℕ → List Rec → Action
  close : ℕ → Action
  close_with : ℕ → List Rec → Action
  do_step : Step → Action

-- the steps that are taken
abbrev pub steps_among : List Action → List Step
steps_among [] = []
steps_among (feed s recs ∷ actions) = steps_among actions
steps_among (close s ∷ actions) = steps_among actions
steps_among (close_with s recs ∷ actions) = steps_among actions
steps_among (do_step step ∷ actions) = step ∷ steps_among actions

-- a machine that is fed: which sources are open, the batches of now, and the state
pub record FedMachine : Type 0 where
  pub opened : ℕ → Bool
  pub batches : List (List (List Rec))
  pub state : Machine

-- From here these actions lead to the last, and the steps among them have these effects. A source that is fed or closed is open; behind
-- a batch that is fed an empty one is the last, and behind one with which it is closed there is none; a step is enabled over the batches
-- of now, and injects no last batch of an open source.
abbrev pub FedRun : Dataflow → FedMachine → List Action → List Effect → FedMachine → Type 0
FedRun flow now [] [] last = last ≡ now
FedRun flow now [] (effect ∷ effects) last = ⊥
FedRun flow now (feed s recs ∷ actions) effects last =
    (now.opened s ≡ true) × (next : List (List (List Rec))) × Feeds flow s recs ([] ∷ []) now.batches next
    × FedRun flow (record now { batches = next }) actions effects last
FedRun flow now (close s ∷ actions) effects last =
    (now.opened s ≡ true) × (left : ℕ → Bool) × Closes s now.opened left × FedRun flow (record now { opened = left }) actions effects last
FedRun flow now (close_with s recs ∷ actions) effects last =
    (now.opened s ≡ true) × (next : List (List (List Rec))) × Feeds flow s recs [] now.batches next
    × (left : ℕ → Bool) × Closes s now.opened left × FedRun flow (record now { opened = left; batches = next }) actions effects last
FedRun flow now (do_step step ∷ actions) [] last = ⊥
FedRun flow now (do_step step ∷ actions) (effect ∷ effects) last =
    (next : Machine) × HoldsBack now.opened (with_batches flow now.batches) now.state step
    × LeadsTo (with_batches flow now.batches) now.state step next effect × FedRun flow (record now { state = next }) actions effects last
