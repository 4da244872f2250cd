-- What there is to choose from, in a recovery and in a collection.
use Rattle.std.specs.Prelude.{◌≡◌, ◌⊎◌, ℕ, ◌<◌, Bool, true, List, map, length}
use Rattle.fw_frontier.specs.Front.{Front}
use Rattle.fw_flow.specs.declared.choice.Choice.{Choice}
use Rattle.fw_flow.specs.declared.choice.Cut.{Cut}
use Rattle.fw_flow.specs.declared.choice.Cut.TheVariants.{At}
use Rattle.fw_flow.specs.declared.step.Step.{Step}
use Rattle.fw_flow.specs.declared.step.Step.TheVariants.{Recover, Collect}
use Rattle.fw_flow.specs.Dataflow.{System}
use Rattle.fw_flow.specs.declared.restoring.Restoring.TheVariants.{Checkpoints}
use Rattle.fw_flow.specs.Restoring.{way_of}
use Rattle.fw_model.specs.Choice.{View, IsCutWithin, IsCandidate, kept, IsConsistent}
use Rattle.fw_model.specs.Machine.{Machine, is_failed}

-- where a node is restored by its checkpoints, of two cuts that it offers one lies within the other
abbrev pub AreCheckpointsChains : System → Machine → (ℕ → Bool) → View → Type 0
AreCheckpointsChains sys state lost view =
    (p : ℕ) (one other : Cut) → p < length sys.flow.nodes → way_of sys.flow p ≡ Checkpoints
    → IsCandidate sys state lost view p one → IsCandidate sys state lost view p other
    → IsCutWithin sys.flow p one other ⊎ IsCutWithin sys.flow p other one

-- where these nodes count as failed some choice is consistent, and checkpoints are chains
pub record CanChoose (sys : System) (state : Machine) (lost : ℕ → Bool) : Type 0 where
  pub choice : Choice
  pub consistent : IsConsistent sys state (IsCandidate sys state lost kept) choice
  pub chains : AreCheckpointsChains sys state lost kept

-- a recovery and a collection have something to choose; the other steps choose nothing
abbrev pub HasItsChoice : System → Machine → Step → Type 0
HasItsChoice sys state Recover = CanChoose sys state (is_failed state)
HasItsChoice sys state Collect = CanChoose sys state (λ p. true)
HasItsChoice sys state step = Unit {0}

-- the choice that cuts each node to its front
abbrev pub choice_at : List Front → List Front → Choice
choice_at fronts notices = record { cuts = map (λ f. At f) fronts; notices = notices }

-- the low watermark as a choice, with these notification frontiers
abbrev pub low_choice : Machine → List Front → Choice
low_choice state notices = choice_at state.low notices
