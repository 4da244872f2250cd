-- The state in which every node is failed: what a start from a store finds, and from where a run goes on after it.
use Rattle.std.specs.Prelude.{◌≡◌, ◌↔◌, ℕ, ◌<◌, Bool, true, false, not, List, map, filter, length}
use Rattle.std.specs.List.{AllByRecursion}
use Rattle.fw_frontier.specs.Frontier.{Within}
use Rattle.fw_frontier.specs.Front.{Front}
use Rattle.fw_flow.specs.declared.choice.Choice.{Choice}
use Rattle.fw_flow.specs.declared.choice.Cut.{Cut}
use Rattle.fw_flow.specs.declared.step.Step.TheVariants.{Fail, Recover}
use Rattle.fw_flow.specs.Dataflow.{System, node_frontier, node_ids}
use Rattle.fw_flow.specs.WellFormed.{IsWellFormedSystem}
use Rattle.fw_model.specs.Choice.{View, IsCandidate, IsLargest, IsWatermark}
use Rattle.fw_model.specs.Floors.{IsFloor}
use Rattle.fw_model.specs.Machine.{Machine, Write, front_of, is_failed}
use Rattle.fw_model.specs.Reached.{IsReached}
use Rattle.fw_model.specs.Steps.{Outcome, cuts, front_of_cut, is_in_flight, offers, LeadsTo, StepsTo}

-- the state in which every node is failed: the writes in flight are lost
abbrev pub down : System → Machine → Machine
down sys state = record state {
  failed = map (λ p. true) (node_ids sys.flow);
  writes = filter (λ (write : Write). not (is_in_flight write.stage)) state.writes;
}

-- Every node is failed, and nothing is in flight.
pub record IsDown (sys : System) (state : Machine) : Type 0 where
  pub failed : (p : ℕ) → p < length sys.flow.nodes → is_failed state p ≡ true
  pub lost : AllByRecursion (λ (write : Write). is_in_flight write.stage ≡ false) state.writes

-- A start from what is left of a state leads to the next one: a recovery leads there from the state in which every node is failed, with
-- the choice that a collection would show before. The fronts of its cuts are a floor there, and hold each floor of the state. The low
-- watermark stays, and so do the bounds of the outputs.
pub record StartsAgain (sys : System) (state next : Machine) (choice : Choice) : Type 0 where
  pub reached : IsReached sys next
  pub recovered : LeadsTo sys (down sys state) Recover next (cuts choice)
  pub watermark : IsWatermark sys state choice
  pub floor : IsFloor sys next (map front_of_cut choice.cuts)
  pub holds : (floor : List Front) → IsFloor sys state floor → (p : ℕ) → p < length sys.flow.nodes
      → Within (node_frontier sys.flow p (front_of floor p)) (node_frontier sys.flow p (front_of (map front_of_cut choice.cuts) p))
  pub low : next.low ≡ state.low
  pub bounds : next.ack_counts ≡ state.ack_counts

-- in each state to which steps lead from the first one, the failure of every node leads to that state, or is idle and this is it
abbrev pub AllGoDown : Type 0
AllGoDown = (sys : System) (state : Machine) → IsReached sys state
    → (outcome : Outcome) × StepsTo sys state (Fail (node_ids sys.flow)) (down sys state) outcome

-- so steps lead to it from the first state
abbrev pub DownIsReached : Type 0
DownIsReached = (sys : System) (state : Machine) → IsReached sys state → IsReached sys (down sys state)

-- there every node is failed, and nothing is in flight
abbrev pub AllAreDown : Type 0
AllAreDown = (sys : System) (state : Machine) → IsDown sys (down sys state)

-- and each state to which steps lead from the first one and in which every node is failed is one where nothing is in flight
abbrev pub NothingFliesWhereAllAreFailed : Type 0
NothingFliesWhereAllAreFailed = (sys : System) (state : Machine) → IsReached sys state
    → ((p : ℕ) → p < length sys.flow.nodes → is_failed state p ≡ true) → IsDown sys state × (down sys state ≡ state)

-- whichever nodes count as failed, they offer the same there
abbrev pub DownOffersTheSame : Type 0
DownOffersTheSame = (sys : System) (state : Machine) (lost : ℕ → Bool) (view : View) (p : ℕ) (cut : Cut)
    → IsCandidate sys (down sys state) lost view p cut ↔ IsCandidate sys state lost view p cut

-- so a recovery chooses there what a collection would show
abbrev pub DownChoosesTheWatermark : Type 0
DownChoosesTheWatermark = (sys : System) (state : Machine) (choice : Choice)
    → IsLargest sys (down sys state) (offers sys (down sys state)) choice ↔ IsWatermark sys state choice

-- from each state to which steps of a well-formed system lead from the first one a start leads on
abbrev pub EachStateStartsAgain : Type 0
EachStateStartsAgain = (sys : System) (state : Machine) → IsWellFormedSystem sys → IsReached sys state
    → (next : Machine) × (choice : Choice) × StartsAgain sys state next choice
