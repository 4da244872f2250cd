use Rattle.std.proofs.Common.{◌≡◌, ℕ, ◌<◌, not, ◌&&◌, false, get_or}
use Rattle.fw_model.specs.Machine.{front_of}
use Rattle.fw_progress.specs.Settle.{has_more}
use Rattle.fw_progress.proofs.settle.any_has_more.Given as goal

abbrev pub invariant-loop-place : goal.invariant-loop-place
invariant-loop-place l = (p : ℕ) → p < l.place → (not (get_or l.failed p false) && has_more (front_of l.kept p) (front_of l.settled p)) ≡ false
