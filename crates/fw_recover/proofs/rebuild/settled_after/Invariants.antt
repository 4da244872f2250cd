use Rattle.std.proofs.Common.{◌≡◌, ℕ, ◌<◌, length}
use Rattle.fw_frontier.specs.Front.{IsCanonical}
use Rattle.fw_flow.specs.Dataflow.{bounds_of}
use Rattle.fw_model.specs.Choice.{cut_of}
use Rattle.fw_model.specs.Machine.{front_of}
use Rattle.fw_stands.specs.Recovered.{IsSettledBy}
use Rattle.fw_recover.proofs.rebuild.settled_after.Given as goal

abbrev pub invariant-loop-place : goal.invariant-loop-place
invariant-loop-place l = record {
  one_each : length l.fronts.items ≡ l.place;
  canonical : (p : ℕ) → p < l.place → IsCanonical (bounds_of l.flow p) (front_of l.fronts.items p);
  settled : (p : ℕ) → p < l.place → IsSettledBy (front_of l.settled p) (cut_of l.choice p) (front_of l.fronts.items p);
}
