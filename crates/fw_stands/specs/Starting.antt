-- What each part holds of the first state.
use Rattle.std.specs.Prelude.{◌≡◌, ℕ, []}
use Rattle.fw_time.specs.Stamp.{Stamp}
use Rattle.fw_flow.specs.Dataflow.{System}
use Rattle.fw_model.specs.Machine.{first_state}
use Rattle.fw_border.specs.Outputs.{new_output}
use Rattle.fw_policy.specs.View.{IsLostAt}
use Rattle.fw_stands.specs.Parts.{queued, logged, IsOutputOf}

-- In the first state nothing is queued or logged, no rec is kept and no stamp acknowledged, and nothing is lost.
pub record HoldsNothing (sys : System) : Type 0 where
  pub queues : (e : ℕ) → queued sys (first_state sys) e ≡ []
  pub logs : (e : ℕ) → logged sys (first_state sys) e ≡ []
  pub outputs : (o : ℕ) → IsOutputOf sys (first_state sys) o new_output
  pub lost : (p : ℕ) (t : Stamp) → IsLostAt sys (first_state sys) p t → ⊥
