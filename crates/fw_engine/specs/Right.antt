-- What is right of what an engine shows.
use Rattle.std.specs.Prelude.{◌≡◌, ℕ, [], ◌∷◌, List}
use Rattle.fw_time.specs.Stamp.{Stamp}
use Rattle.fw_bag.specs.declared.rec.Rec.{Rec}
use Rattle.fw_flow.specs.declared.choice.Choice.{Choice}
use Rattle.fw_flow.specs.Dataflow.{System}
use Rattle.fw_model.specs.Acknowledgements.{IsDenoted}
use Rattle.fw_model.specs.Choice.{View, IsCandidate, IsLargest, IsWatermark}
use Rattle.fw_model.specs.Denotation.{Family, IsDenotation}
use Rattle.fw_model.specs.Machine.{Machine, ack_count_of, is_failed}
use Rattle.fw_model.specs.Steps.{Outcome, acked, cuts, did, lows}

-- What comes of a step in a state is right there.
pub record IsRightIn (sys : System) (state : Machine) (outcome : Outcome) : Type 0 where
  -- what an output acknowledges is what the dataflow denotes there
  pub denoted : (family : Family) → IsDenotation sys family → IsDenoted sys family outcome
  -- it is the output's next epoch or number
  pub in_turn : (o : ℕ) (at : Stamp) (recs : List Rec) → outcome ≡ did (acked o at recs) → at ≡ ack_count_of state o ∷ []
  -- a recovery cuts to the largest consistent choice, of what is kept and of all that was ever acknowledged and not undone
  pub largest : (choice : Choice) → outcome ≡ did (cuts choice)
      → (view : View) → IsLargest sys state (IsCandidate sys state (is_failed state) view) choice
  -- a collection shows the low watermark
  pub watermark : (choice : Choice) → outcome ≡ did (lows choice) → IsWatermark sys state choice
