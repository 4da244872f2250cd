use Rattle.std.proofs.Common.{◌≡◌, map}
use Rattle.std.specs.List.{range_with_len}
use Rattle.fw_lines.specs.Batches.{batches_at}
use Rattle.fw_border.specs.Sources.{unused_source}
use Rattle.fw_border.proofs.sources.Sources.new.Given as goal

abbrev pub invariant-loop-place : goal.invariant-loop-place
invariant-loop-place l = l.sources.items ≡ map (λ p. unused_source (batches_at l.batches p)) (range_with_len 0 l.place)
