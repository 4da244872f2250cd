use Rattle.std.proofs.Common.{◌≡◌, ◌<◌, ℕ, length, get_or}
use Rattle.fw_lines.specs.Batches.{batches_at}
use Rattle.fw_progress.proofs.start.batches_each.Given as goal

abbrev pub invariant-loop-place : goal.invariant-loop-place
invariant-loop-place l = record {
  one_each : length l.counts.items ≡ l.place;
  each : (p : ℕ) → p < l.place → get_or l.counts.items p 0 ≡ length (batches_at l.batches p);
}
