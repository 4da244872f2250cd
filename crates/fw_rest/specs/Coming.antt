-- What comes of each state to which steps lead.
use Rattle.std.specs.Prelude.{◌≡◌, ℕ, ◌+◌, ◌*◌, ◌<◌, ◌≤◌, true, List, ◌++◌, length, map}
use Rattle.std.specs.List.{AllByRecursion}
use Rattle.fw_flow.specs.declared.step.Step.{Step}
use Rattle.fw_flow.specs.Dataflow.{System, kind_of, is_output_kind}
use Rattle.fw_flow.specs.WellFormed.{IsWellFormedSystem}
use Rattle.fw_model.specs.Denotation.{Family, IsDenotation}
use Rattle.fw_model.specs.Machine.{Machine, first_state}
use Rattle.fw_model.specs.Steps.{Effect, Outcome, did, Run}
use Rattle.fw_rest.specs.Rest.{AreAllLive, HasNothingToDo, is_of_auto, HasAcknowledgedAll, HasShownAll, RecoversAndGoesOn}
use Rattle.fw_rest.specs.StepsToRest.{count_in_flight, steps_to_rest, steps_in_all}

-- What comes of a state to which steps led from the first one with these outcomes, whatever the steps were: failures of any nodes at any
-- time, recoveries and collections among them.
pub record AllComes (sys : System) (family : Family) (outcomes : List Outcome) (state : Machine) : Type 0 where
  -- a recovery leads on, and then `auto`
  pub goes_on : (most : ℕ) → (also : List Outcome) × (last : Machine) × RecoversAndGoesOn sys state most also last
  -- no more than so many steps of the kinds that `auto` takes follow each other, each enabled where it is taken, in whatever order
  pub ends : (steps : List Step) → AllByRecursion (λ step. is_of_auto step ≡ true) steps
      → (effects : List Effect) (last : Machine) → Run sys state steps (map did effects) last → length steps ≤ steps_to_rest sys family state
  -- at most one write of each node is in flight for each step that was taken
  pub in_flight : count_in_flight state.writes ≤ length outcomes * length sys.flow.nodes
  -- once a recovery is taken, and then `auto` as many steps as it takes at most, all nodes are live and `auto` has nothing to do
  pub rests : (most : ℕ) → steps_in_all sys family + count_in_flight state.writes ≤ most
      → (also : List Outcome) (last : Machine) → RecoversAndGoesOn sys state most also last → AreAllLive sys last × HasNothingToDo sys last
  -- each output has acknowledged all that is denoted at it
  pub acknowledged : (most : ℕ) → steps_in_all sys family + count_in_flight state.writes ≤ most
      → (also : List Outcome) (last : Machine) → RecoversAndGoesOn sys state most also last
      → (o : ℕ) → o < length sys.flow.nodes → is_output_kind (kind_of sys.flow o) ≡ true → HasAcknowledgedAll sys family last o
  -- and has shown it
  pub shown : (most : ℕ) → steps_in_all sys family + count_in_flight state.writes ≤ most
      → (also : List Outcome) (last : Machine) → RecoversAndGoesOn sys state most also last
      → (o : ℕ) → o < length sys.flow.nodes → is_output_kind (kind_of sys.flow o) ≡ true → HasShownAll sys family (outcomes ++ also) o

-- of each state of a run of a well-formed system all comes that is denoted
abbrev pub AllComesOfEachState : Type 0
AllComesOfEachState = (sys : System) (family : Family) → IsWellFormedSystem sys → IsDenotation sys family
    → (steps : List Step) (outcomes : List Outcome) (state : Machine) → Run sys (first_state sys) steps outcomes state
    → AllComes sys family outcomes state
