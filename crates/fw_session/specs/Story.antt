-- What was done in a session, from its opening on.
use Rattle.std.specs.Prelude.{ℕ, Bool, false, List, [], ◌∷◌, ◌++◌, ◌==◌, if◌then◌else◌, map, slice_index_or, slice_set}
use Rattle.fw_bag.specs.declared.rec.Rec.{Rec}
use Rattle.fw_flow.specs.declared.step.Step.{Step}
use Rattle.fw_flow.specs.Dataflow.{Dataflow, System, kind_of, is_input_kind, node_ids, batches_of}
use Rattle.fw_flow.specs.WellFormed.{IsWellFormedSystem}
use Rattle.fw_model.specs.Machine.{Machine, first_state}
use Rattle.fw_model.specs.Steps.{Effect}
use Rattle.fw_feeding.specs.Feeding.{with_batches}
use Rattle.fw_border.specs.Sources.{without_last}
use Rattle.fw_feeding.specs.FedRuns.{Action, feed, close, close_with, do_step, FedMachine, FedRun}

-- what was done, in order; what the steps among it showed; and which sources are open now, the batches, and the state
pub record Story : Type 0 where
  pub actions : List Action
  pub effects : List Effect
  pub now : FedMachine

-- the system of now: the dataflow with the batches that came, and behind them an empty one of each open source
abbrev pub system_now : Dataflow → Story → System
system_now flow story = with_batches flow story.now.batches

-- the batches of a node with which a session opens: one of an input, which is empty
abbrev pub first_batches : Dataflow → ℕ → List (List Rec)
first_batches flow p = if is_input_kind (kind_of flow p) then [] ∷ [] else []

-- the same of each node
abbrev pub opening_batches : Dataflow → List (List (List Rec))
opening_batches flow = map (first_batches flow) (node_ids flow)

-- nothing was done, and each input is open
abbrev pub opening : Dataflow → Story
opening flow = record {
  actions = [];
  effects = [];
  now = record {
    opened = λ s. is_input_kind (kind_of flow s);
    batches = opening_batches flow;
    state = first_state (with_batches flow (opening_batches flow));
  };
}

-- The actions of a story lead from the opening to what is now, and the batches of now make a well-formed system.
pub record IsStory (flow : Dataflow) (story : Story) : Type 0 where
  pub run : FedRun flow (opening flow).now story.actions story.effects story.now
  pub well_formed : IsWellFormedSystem (system_now flow story)

-- the batches that came to a node: of an open source all but its last
abbrev pub came_to : Dataflow → FedMachine → ℕ → List (List Rec)
came_to flow now s =
    if now.opened s then without_last (batches_of (with_batches flow now.batches) s) else batches_of (with_batches flow now.batches) s

-- the batches that node s is given by these actions, in order: those that it is fed, and the last one where it is closed
abbrev pub given_to : ℕ → List Action → List (List Rec)
given_to s [] = []
given_to s (feed q recs ∷ actions) = if q == s then recs ∷ given_to s actions else given_to s actions
given_to s (close q ∷ actions) = if q == s then [] ∷ given_to s actions else given_to s actions
given_to s (close_with q recs ∷ actions) = if q == s then recs ∷ given_to s actions else given_to s actions
given_to s (do_step step ∷ actions) = given_to s actions

-- ---- what goes on behind a story

-- the batches, where a batch is in the place of the last one of source s, and an empty one is behind it
abbrev pub fed_batches : ℕ → List Rec → List (List (List Rec)) → List (List (List Rec))
fed_batches s recs batches = slice_set batches s (without_last (slice_index_or batches s []) ++ recs ∷ [] ∷ [])

-- the sources that are open, but for source s
abbrev pub open_but : ℕ → (ℕ → Bool) → ℕ → Bool
open_but s opened q = if q == s then false else opened q

-- source s is fed a batch
abbrev pub after_feed : ℕ → List Rec → Story → Story
after_feed s recs story = record {
  actions = story.actions ++ feed s recs ∷ [];
  effects = story.effects;
  now = record story.now { batches = fed_batches s recs story.now.batches };
}

-- source s is closed
abbrev pub after_close : ℕ → Story → Story
after_close s story = record {
  actions = story.actions ++ close s ∷ [];
  effects = story.effects;
  now = record story.now { opened = open_but s story.now.opened };
}

-- a step is taken, which shows this effect and leads to this state
abbrev pub after_step : Step → Effect → Machine → Story → Story
after_step step effect state story = record {
  actions = story.actions ++ do_step step ∷ [];
  effects = story.effects ++ effect ∷ [];
  now = record story.now { state = state };
}
