use Rattle.std.proofs.Common.{◌≡◌, ℕ, length, take}
use Rattle.fw_border.specs.Sources.{source_at}
use Rattle.fw_collect.specs.Dropped.{source_left}
use Rattle.fw_collect.proofs.applying.drop_batches.Given as goal

abbrev pub invariant-loop-front : goal.invariant-loop-front
invariant-loop-front l = record {
  count : length l.sources ≡ length l.initial.sources;
  each : (s : ℕ) → source_at l.sources s ≡ source_left (take l.front-index l.fronts) s (source_at l.initial.sources s);
}
