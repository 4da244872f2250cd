-- Induction along a dataflow: by the measure of stamps.
use Rattle.std.proofs.Common.{◌≡◌, ℕ, ◌<◌, true, false, length, Some, inl, inr}
use Rattle.std.proofs.lemmas.Bool.{cases_Bool}
use Rattle.fw_time.specs.Stamp.{Stamp, leq}
use Rattle.fw_flow.specs.Dataflow.{Dataflow, sender, receiver, send_stamp}
use Rattle.fw_flow.specs.Ranks.{is_looped}
use Rattle.fw_model.specs.Measure.{Measure}

-- the measure of an event of a node is below that of another
abbrev pub IsEarlier : (flow : Dataflow) → Measure flow → ℕ → Stamp → ℕ → Stamp → Type 0
IsEarlier flow r q u p t = r.measure q u < r.measure p t

-- each event of the sender is below those of the receiver, where the receiver is not looped
pub earlier-unlooped : (flow : Dataflow) (r : Measure flow) (e : ℕ) → e < length flow.edges → is_looped flow (receiver flow e) ≡ false
    → (u t : Stamp) → IsEarlier flow r (sender flow e) u (receiver flow e) t
earlier-unlooped flow r e l k u t = r.into_unlooped e l k u t

-- an event of the sender that sends at t or below is below those of the receiver at t
pub earlier-sends : (flow : Dataflow) (r : Measure flow) (e : ℕ) → e < length flow.edges
    → (u s t : Stamp) → send_stamp flow (sender flow e) u ≡ Some s → leq s t ≡ true
    → IsEarlier flow r (sender flow e) u (receiver flow e) t
earlier-sends flow r e l u s t i k = elim (cases_Bool (is_looped flow (receiver flow e))) [
  | inl j ↦ r.into_looped e l j u t s i k
  | inr j ↦ r.into_unlooped e l j u t
]
