-- What an engine makes of a part for a recovery, in words of the parts below.
use Rattle.std.specs.Prelude.{◌≡◌, ℕ, List, [], ◌∷◌, filter}
use Rattle.fw_time.specs.declared.stamp.Bounds.{Bounds}
use Rattle.fw_frontier.specs.Frontier.{meet}
use Rattle.fw_frontier.specs.Front.{Front, inside, frontier_of, IsCanonical, IsFrontOf}
use Rattle.fw_flow.specs.declared.choice.Cut.{Cut}
use Rattle.fw_flow.specs.declared.choice.Cut.TheVariants.{Present, At}
use Rattle.fw_flow.specs.declared.choice.Stamps.{Stamps}
use Rattle.fw_flow.specs.declared.choice.Choice.{Choice}
use Rattle.fw_flow.specs.Dataflow.{System}
use Rattle.fw_flow.specs.WellFormed.{IsWellFormedSystem}
use Rattle.fw_model.specs.Choice.{IsLargest}
use Rattle.fw_model.specs.Machine.{Machine}
use Rattle.fw_model.specs.Reached.{IsReached}
use Rattle.fw_model.specs.Steps.{cuts, offers, CutsTo}

-- after a cut so much is settled: what was, or what was and lies in the cut
abbrev pub IsSettledBy : Front → Cut → Front → Type 0
IsSettledBy before Present after = after ≡ before
IsSettledBy before (At f) after =
    (bounds : Bounds) → IsCanonical bounds before → IsCanonical bounds f
    → IsFrontOf bounds after (meet (frontier_of bounds before) (frontier_of bounds f))

-- what a cut leaves of a sequence's table, of the epochs with their counts
abbrev pub table_left : Cut → List (ℕ × ℕ) → List (ℕ × ℕ)
table_left Present table = table
table_left (At f) table = filter (λ entry. inside f (entry.0 ∷ [])) table

-- there are no stamps
pub record AreNoStamps (stamps : Stamps) : Type 0 where
  pub delivered : stamps.delivered ≡ []
  pub notified : stamps.notified ≡ []
  pub sent : stamps.sent ≡ []

-- In a reached state of a well-formed system the choice is the largest of what is offered to a recovery, and settled is cut to it.
pub record Recovers (sys : System) (state : Machine) (choice : Choice) (settled : List Front) : Type 0 where
  pub well_formed : IsWellFormedSystem sys
  pub reached : IsReached sys state
  pub largest : IsLargest sys state (offers sys state) choice
  pub cuts : CutsTo sys state choice settled
