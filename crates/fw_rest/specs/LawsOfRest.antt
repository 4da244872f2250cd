-- Laws of rest: where nothing more can come all is complete and acknowledged, and `auto` comes there in so many steps.
use Rattle.std.specs.Prelude.{◌≡◌, ℕ, ◌+◌, ◌*◌, ◌<◌, ◌≤◌, true, List, [], ◌∷◌, ◌++◌, length, map}
use Rattle.std.specs.List.{AllByRecursion}
use Rattle.fw_time.specs.Stamp.{Stamp, in_domain}
use Rattle.fw_frontier.specs.Frontier.{Frontier}
use Rattle.fw_flow.specs.declared.event.Event.{Event}
use Rattle.fw_flow.specs.declared.step.Step.{Step}
use Rattle.fw_flow.specs.declared.step.Step.TheVariants.{Collect}
use Rattle.fw_flow.specs.Dataflow.{System, kind_of, receiver, bounds_of, is_output_kind, HasEpochs}
use Rattle.fw_flow.specs.WellFormed.{IsWellFormed, IsWellFormedSystem}
use Rattle.fw_model.specs.Auto.{IsAutoRun}
use Rattle.fw_model.specs.Acknowledgements.{Shows}
use Rattle.fw_model.specs.Denotation.{Family, IsDenotation, bag_at}
use Rattle.fw_model.specs.History.{IsLegal, IsComplete}
use Rattle.fw_model.specs.Machine.{Machine, events, first_state, ack_count_of}
use Rattle.fw_model.specs.Reached.{IsReached}
use Rattle.fw_model.specs.Steps.{Effect, Outcome, did, StepsTo, Run}
use Rattle.fw_rest.specs.Left.{HasNoRegroup, HaveAllAsked, AsksAndCollects, NothingIsLeft}
use Rattle.fw_rest.specs.Rest.{IsAtRest, AreAllLive, HasNothingToDo, is_of_auto, HasAcknowledgedAll, HasShownAll, NothingWaits, RecoversAndGoesOn}
use Rattle.fw_rest.specs.StepsToRest.{count_in_flight, most_events, stamps_due, steps_to_rest, steps_in_all}

-- after a legal history of a well-formed flow with epochs, at rest, each stamp of each node is complete: no message waits, no
-- notification is owed, and each input has injected all
abbrev pub RestIsComplete : Type 0
RestIsComplete = (sys : System) (h : List Event) → IsWellFormed sys.flow → HasEpochs sys → IsLegal sys h → IsAtRest sys h
    → (done : ℕ → Frontier) → IsComplete sys h done
    → (p : ℕ) → p < length sys.flow.nodes → (t : Stamp) → in_domain (bounds_of sys.flow p) t ≡ true → done p t ≡ true

-- in a state of a well-formed flow with all nodes live, in which `auto` has nothing to do, no event may come
abbrev pub NothingToDoIsRest : Type 0
NothingToDoIsRest = (sys : System) (state : Machine) → IsWellFormed sys.flow → AreAllLive sys state → HasNothingToDo sys state
    → IsAtRest sys (events state.history)

-- in each state of a well-formed system to which steps lead from the first one, with all nodes live, in which `auto` has nothing to do,
-- each output has acknowledged all that is denoted at it
abbrev pub RestHasAcknowledgedAll : Type 0
RestHasAcknowledgedAll = (sys : System) (family : Family) → IsWellFormedSystem sys → IsDenotation sys family → (state : Machine) → IsReached sys state
    → AreAllLive sys state → HasNothingToDo sys state
    → (o : ℕ) → o < length sys.flow.nodes → is_output_kind (kind_of sys.flow o) ≡ true → HasAcknowledgedAll sys family state o

-- in each state of a well-formed system to which steps lead from the first one, with all nodes live, in which `auto` has nothing to do,
-- nothing waits
abbrev pub NothingWaitsAtRest : Type 0
NothingWaitsAtRest = (sys : System) (family : Family) → IsWellFormedSystem sys → IsDenotation sys family → (state : Machine) → IsReached sys state
    → AreAllLive sys state → HasNothingToDo sys state → NothingWaits sys state

-- in each state to which steps of a well-formed system lead from the first one, no more stamps are acknowledged than are due
abbrev pub AcknowledgedIsDue : Type 0
AcknowledgedIsDue = (sys : System) (family : Family) → IsWellFormedSystem sys → IsDenotation sys family → (state : Machine) → IsReached sys state
    → (o : ℕ) → ack_count_of state o ≤ stamps_due sys family o

-- from each state to which steps of a well-formed system lead from the first one, `auto` comes to one in which it has nothing to do, if
-- it may take so many steps
abbrev pub AutoComesToRest : Type 0
AutoComesToRest = (sys : System) (family : Family) → IsWellFormedSystem sys → IsDenotation sys family → (state : Machine) → IsReached sys state
    → (most : ℕ) → steps_to_rest sys family state ≤ most
    → (steps : List Step) (last : Machine) → IsAutoRun sys state most steps last → HasNothingToDo sys last

-- no legal history of a well-formed system has more events than this
abbrev pub LegalHistoriesEnd : Type 0
LegalHistoriesEnd = (sys : System) (family : Family) → IsWellFormedSystem sys → IsDenotation sys family
    → (h : List Event) → IsLegal sys h → length h ≤ most_events sys family

-- from each state to which steps of a well-formed system lead from the first one, no more steps of the kinds that `auto` takes
-- follow each other than this, each enabled where it is taken, in whatever order
abbrev pub StepsOfAutoEnd : Type 0
StepsOfAutoEnd = (sys : System) (family : Family) → IsWellFormedSystem sys → IsDenotation sys family → (state : Machine) → IsReached sys state
    → (steps : List Step) → AllByRecursion (λ step. is_of_auto step ≡ true) steps
    → (effects : List Effect) (last : Machine) → Run sys state steps (map did effects) last → length steps ≤ steps_to_rest sys family state

-- from each state to which steps of a well-formed system lead from the first one, `auto` takes no more steps than this, however many it
-- may take
abbrev pub AutoTakesSoMany : Type 0
AutoTakesSoMany = (sys : System) (family : Family) → IsWellFormedSystem sys → IsDenotation sys family → (state : Machine) → IsReached sys state
    → (most : ℕ) (steps : List Step) (last : Machine) → IsAutoRun sys state most steps last → length steps ≤ steps_to_rest sys family state

-- in each state to which steps of a well-formed system lead from the first one, at most one write of each node is in flight for each of
-- these steps
abbrev pub FewAreInFlight : Type 0
FewAreInFlight = (sys : System) → IsWellFormedSystem sys → (steps : List Step) (outcomes : List Outcome) (last : Machine)
    → Run sys (first_state sys) steps outcomes last → count_in_flight last.writes ≤ length steps * length sys.flow.nodes

-- what an output has acknowledged in a run of a well-formed system, one outcome of the run shows as it is denoted
abbrev pub AcknowledgedIsShown : Type 0
AcknowledgedIsShown = (sys : System) (family : Family) → IsWellFormedSystem sys → IsDenotation sys family
    → (steps : List Step) (outcomes : List Outcome) (last : Machine) → Run sys (first_state sys) steps outcomes last
    → (o e : ℕ) → o < length sys.flow.nodes → receiver sys.flow e ≡ o
    → (x : ℕ) → x < ack_count_of last o → Shows o (x ∷ []) (bag_at family e (x ∷ [])) outcomes

-- from each state to which steps of a well-formed system lead from the first one, a recovery leads on, and then `auto`
abbrev pub EachStateGoesOn : Type 0
EachStateGoesOn = (sys : System) → IsWellFormedSystem sys → (state : Machine) → IsReached sys state → (most : ℕ)
    → (outcomes : List Outcome) × (last : Machine) × RecoversAndGoesOn sys state most outcomes last

-- from each state to which steps of a well-formed system lead from the first one, a recovery and then `auto`, if it may take so many steps,
-- come to a state with all nodes live in which `auto` has nothing to do
abbrev pub RecoveryComesToRest : Type 0
RecoveryComesToRest = (sys : System) (family : Family) → IsWellFormedSystem sys → IsDenotation sys family → (state : Machine) → IsReached sys state
    → (most : ℕ) → steps_in_all sys family + count_in_flight state.writes ≤ most
    → (also : List Outcome) (last : Machine) → RecoversAndGoesOn sys state most also last → AreAllLive sys last × HasNothingToDo sys last

-- Whatever steps led to a state of a well-formed system, failures among them: once a recovery is taken, and then `auto` as many steps
-- as it takes at most, each output has acknowledged all that is denoted at it, and has shown it.
abbrev pub WhatIsGivenIsAcknowledged : Type 0
WhatIsGivenIsAcknowledged = (sys : System) (family : Family) → IsWellFormedSystem sys → IsDenotation sys family
    → (before : List Step) (outcomes : List Outcome) (state : Machine) → Run sys (first_state sys) before outcomes state
    → (most : ℕ) → steps_in_all sys family + count_in_flight state.writes ≤ most
    → (also : List Outcome) (last : Machine) → RecoversAndGoesOn sys state most also last
    → (o : ℕ) → o < length sys.flow.nodes → is_output_kind (kind_of sys.flow o) ≡ true
    → HasAcknowledgedAll sys family last o × HasShownAll sys family (outcomes ++ also) o

-- In each state of a well-formed system without a regroup to which steps lead from the first one, with all nodes live, in which `auto` has
-- nothing to do and no checkpoint is to be asked: once a collection is taken, enabled or not, no input holds a batch and no log a message,
-- of each node that takes checkpoints its newest write is left, with those on which it stands, and of a node that logs each event and may
-- keep nothing no write is.
abbrev pub RestLeavesNothing : Type 0
RestLeavesNothing = (sys : System) (family : Family) → IsWellFormedSystem sys → IsDenotation sys family → HasNoRegroup sys.flow → (state : Machine) → IsReached sys state
    → AreAllLive sys state → HasNothingToDo sys state → HaveAllAsked sys state
    → (next : Machine) (outcome : Outcome) → StepsTo sys state Collect next outcome → NothingIsLeft sys next

-- From each state of a well-formed system to which steps lead from the first one each node is asked for a checkpoint, `auto` goes on, and
-- a collection is taken.
abbrev pub AskingGoesOn : Type 0
AskingGoesOn = (sys : System) → IsWellFormedSystem sys → (state : Machine) → IsReached sys state → (most : ℕ) → (last : Machine) × AsksAndCollects sys state most last

-- In each state of a well-formed system without a regroup to which steps lead from the first one, with all nodes live, in which `auto` has
-- nothing to do: once each node is asked for a checkpoint, and then `auto` as many steps as it takes at most, and a collection, no input
-- holds a batch and no log a message, of each node that takes checkpoints its newest write is left, with those on which it stands, and of a
-- node that logs each event and may keep nothing no write is.
abbrev pub AskingLeavesNothing : Type 0
AskingLeavesNothing = (sys : System) (family : Family) → IsWellFormedSystem sys → IsDenotation sys family → HasNoRegroup sys.flow → (state : Machine) → IsReached sys state
    → AreAllLive sys state → HasNothingToDo sys state → (most : ℕ) → steps_in_all sys family + length sys.flow.nodes ≤ most
    → (last : Machine) → AsksAndCollects sys state most last → NothingIsLeft sys last
