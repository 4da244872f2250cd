use Rattle.std.proofs.Common.{◌≡◌}
use Rattle.std.specs.List.{flat_map, range_with_len}
use Rattle.fw_flow.specs.Sources.{source_named_at}
use Rattle.fw_flow.proofs.flow.Flow.source_names.Given as goal

abbrev pub invariant-loop-place : goal.invariant-loop-place
invariant-loop-place l = l.sources ≡ flat_map (source_named_at l.self) (range_with_len 0 l.place)
