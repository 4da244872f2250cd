use Rattle.std.proofs.Common.{◌≡◌, ◌<◌, ℕ, [], length}
use Rattle.fw_frontier.specs.Front.{IsFrontOf}
use Rattle.fw_flow.specs.Dataflow.{bounds_of}
use Rattle.fw_model.specs.Covers.{set_of}
use Rattle.fw_model.specs.Choice.{cut_of}
use Rattle.fw_model.specs.Machine.{front_of}
use Rattle.fw_model.specs.Lowerings.{choice_of}
use Rattle.fw_offers.proofs.rights.all_kept.Given as goal

abbrev pub invariant-loop-cut : goal.invariant-loop-cut
invariant-loop-cut l = record {
  one_each : length l.notices.items ≡ l.cut-index;
  kept : (p : ℕ) → p < l.cut-index → IsFrontOf (bounds_of l.flow p) (front_of l.notices.items p) (set_of l.flow p (cut_of (choice_of l.cuts []) p));
}
