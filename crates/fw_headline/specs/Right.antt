-- The headline: what is true wherever steps lead from the first state of a well-formed system.
use Rattle.std.specs.Prelude.{◌≡◌, ◌≢◌, ◌↔◌, ◌<◌, ℕ, zero, suc, Bool, true, false, Option, Some, None, List, [], ◌∷◌, length, map}
use Rattle.std.specs.List.{AllByRecursion}
use Rattle.fw_frontier.specs.Frontier.{Within}
use Rattle.fw_frontier.specs.Front.{Front}
use Rattle.fw_flow.specs.declared.choice.Choice.{Choice}
use Rattle.fw_flow.specs.declared.choice.Cut.TheVariants.{At}
use Rattle.fw_flow.specs.declared.kind.Policy.TheVariants as policy
use Rattle.fw_flow.specs.declared.step.Step.{Step}
use Rattle.fw_flow.specs.declared.step.Step.TheVariants.{Recover, Collect}
use Rattle.fw_flow.specs.Dataflow.{System, policy_of, bounds_of, node_frontier}
use Rattle.fw_flow.specs.NodeFunction.{event_node, event_stamp}
use Rattle.fw_flow.specs.WellFormed.{IsWellFormedSystem}
use Rattle.fw_model.specs.Acknowledgements.{IsDenoted, stamps_acknowledged, first_stamps}
use Rattle.fw_model.specs.Choice.{View, kept, ever, cut_of, kept_of, IsCandidate, IsLargest, IsWatermark}
use Rattle.fw_model.specs.Denotation.{Family, IsDenotation}
use Rattle.fw_model.specs.History.{IsLegal}
use Rattle.fw_model.specs.Machine.{Machine, SerialEvent, Write, acknowledged, collected, events, first_state, front_of, no_stamps, ack_count_of, is_failed}
use Rattle.fw_model.specs.Resending.{HoldsWhatIsSentAgain}
use Rattle.fw_model.specs.Steps.{cuts, lows, Outcome, did, StepsTo, Run, IsTheNext, front_of_cut, is_forgotten}
use Rattle.fw_rest.specs.Coming.{AllComes}
use Rattle.fw_model.specs.Writes.{takes_checkpoints, HasOne, IsCheckpointOf, IsLoggedOnce, MayKeepNothingIfCollected}

-- exactly one of these writes is a checkpoint of node p at f, and it is acknowledged, so neither in flight nor collected, and has this base
-- and depth
pub record IsKeptAt (writes : List Write) (p : ℕ) (f : Front) (base : Option Front) (depth : ℕ) : Type 0 where
  pub only : HasOne (IsCheckpointOf p f) writes
  pub acknowledged : only.one.stage ≡ acknowledged
  pub its_base : only.one.base ≡ base
  pub its_depth : only.one.depth ≡ depth

-- node p's checkpoint at f is so deep, and is kept with all on which it stands: its base, that one's base, and so on, each one less deep,
-- down to a whole one
abbrev pub IsKeptWithBases : List Write → ℕ → ℕ → Front → Type 0
IsKeptWithBases writes p zero f = IsKeptAt writes p f None 0
IsKeptWithBases writes p (suc depth) f =
    (base : Front) × IsKeptAt writes p f (Some base) (suc depth) × IsKeptWithBases writes p depth base

-- All is there that a restoration to a largest choice needs, where these nodes count as failed.
pub record IsAllThere (sys : System) (state : Machine) (lost : ℕ → Bool) (choice : Choice) : Type 0 where
  -- the choice is also the largest over all that was ever acknowledged and not undone
  pub of_ever : IsLargest sys state (IsCandidate sys state lost ever) choice
  -- a node that takes checkpoints, if its cut has a stamp, has exactly one there, and exactly one at each front on which that one stands,
  -- down to a whole one: each of them acknowledged and not collected
  pub checkpoints : (p : ℕ) (f : Front) → takes_checkpoints (policy_of sys.flow p) ≡ true → cut_of choice p ≡ At f
      → f ≢ no_stamps (bounds_of sys.flow p)
      → (depth : ℕ) × IsKeptWithBases state.writes p depth f
  -- each event inside the cut of a node that logs each is logged once, and collected only where what was logged at its stamp is given up
  pub logged_events : (p : ℕ) (f : Front) → policy_of sys.flow p ≡ policy.Full → cut_of choice p ≡ At f
      → AllByRecursion (λ (v : SerialEvent). event_node sys.flow v.event ≡ p → node_frontier sys.flow p f (event_stamp v.event) ≡ true
      → IsLoggedOnce sys state.low p v state.writes) state.history
  -- what is to be sent again lies outside the low watermark
  pub messages : (e : ℕ) → e < length sys.flow.edges → HoldsWhatIsSentAgain sys state choice state.low e
  -- and so does each batch that is to be injected again
  pub batches : (s x : ℕ) → s < length sys.flow.nodes → kept_of sys.flow choice s (x ∷ []) ≡ false
      → node_frontier sys.flow s (front_of state.low s) (x ∷ []) ≡ false

-- What is true of a state to which steps led from the first one with these outcomes, whatever the steps were: failures of any
-- nodes at any time, recoveries and collections among them.
pub record IsRight (sys : System) (outcomes : List Outcome) (state : Machine) : Type 0 where
  -- the history is legal
  pub legal : IsLegal sys (events state.history)
  -- each output acknowledged its first epochs or numbers, in order and each once
  pub in_order : (o : ℕ) → stamps_acknowledged o outcomes ≡ first_stamps (ack_count_of state o)
  -- each acknowledgement has the recs that the dataflow denotes there
  pub denoted : (family : Family) → IsDenotation sys family → AllByRecursion (IsDenoted sys family) outcomes
  -- each step, enabled or not, leads to exactly one next state with one outcome
  pub next : (step : Step) → (after : Machine) × (outcome : Outcome) × IsTheNext sys state step after outcome
  -- where a declared node is failed, a recovery is enabled and shows a choice
  pub recovers : (p : ℕ) → p < length sys.flow.nodes → is_failed state p ≡ true
      → (after : Machine) × (choice : Choice) × StepsTo sys state Recover after (did (cuts choice))
  -- a recovery cuts to the largest consistent choice, of what is kept and of all that was ever acknowledged and not undone
  pub largest : (after : Machine) (choice : Choice) → StepsTo sys state Recover after (did (cuts choice))
      → (view : View) → IsLargest sys state (IsCandidate sys state (is_failed state) view) choice
  -- whichever nodes count as failed, there is a largest choice of what is kept
  pub chosen : (lost : ℕ → Bool) → (choice : Choice) × IsLargest sys state (IsCandidate sys state lost kept) choice
  -- and all is there that a restoration to it needs
  pub restored : (lost : ℕ → Bool) (choice : Choice) → IsLargest sys state (IsCandidate sys state lost kept) choice
      → IsAllThere sys state lost choice
  -- so there is a low watermark
  pub watermark : (choice : Choice) × IsWatermark sys state choice
  -- a collection shows it, and it is kept
  pub shown : (after : Machine) (choice : Choice) → StepsTo sys state Collect after (did (lows choice))
      → IsWatermark sys state choice × (after.low ≡ map front_of_cut choice.cuts)
  -- no step lowers what is kept of it, at any node
  pub never_falls : (step : Step) (after : Machine) (outcome : Outcome) → StepsTo sys state step after outcome
      → (p : ℕ) → p < length sys.flow.nodes
      → Within (node_frontier sys.flow p (front_of state.low p)) (node_frontier sys.flow p (front_of after.low p))
  -- a write was collected exactly where the watermark forgets it
  pub below : AllByRecursion (λ (write : Write). (write.stage ≡ collected)
      ↔ (is_forgotten sys state.low state.history state.writes write ≡ true)) state.writes
  -- no logged event of a total, a sequence or a ledger was collected
  pub never_collected : AllByRecursion (MayKeepNothingIfCollected sys) state.writes

-- steps lead from the first state to this one with these outcomes, and to no other
pub record IsTheRun (sys : System) (steps : List Step) (outcomes : List Outcome) (state : Machine) : Type 0 where
  pub run : Run sys (first_state sys) steps outcomes state
  pub only : (others : List Outcome) (other : Machine) → Run sys (first_state sys) steps others other → (others ≡ outcomes) × (other ≡ state)

-- what is true of all that a system may do
pub record RunsRight (sys : System) : Type 0 where
  -- the dataflow has a denotation
  pub denotation : (family : Family) × IsDenotation sys family
  -- and no other
  pub no_other : (one other : Family) → IsDenotation sys one → IsDenotation sys other → (e : ℕ) → one e ≡ other e
  -- each list of steps, enabled or not, has exactly one run
  pub one_run : (steps : List Step) → (outcomes : List Outcome) × (state : Machine) × IsTheRun sys steps outcomes state
  -- and all is right where it ends
  pub right : (steps : List Step) (outcomes : List Outcome) (state : Machine) → Run sys (first_state sys) steps outcomes state
      → IsRight sys outcomes state
  -- and from there all comes that is denoted, whatever failed
  pub comes : (steps : List Step) (outcomes : List Outcome) (state : Machine) → Run sys (first_state sys) steps outcomes state
      → (family : Family) → IsDenotation sys family → AllComes sys family outcomes state

-- each well-formed system runs right
abbrev pub EveryRunIsRight : Type 0
EveryRunIsRight = (sys : System) → IsWellFormedSystem sys → RunsRight sys
