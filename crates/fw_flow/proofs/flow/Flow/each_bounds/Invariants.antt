use Rattle.std.proofs.Common.{◌≡◌, length}
use Rattle.fw_flow.specs.Flow.{AreBoundsOf}
use Rattle.fw_flow.proofs.flow.Flow.each_bounds.Given as goal

abbrev pub invariant-loop-place : goal.invariant-loop-place
invariant-loop-place l = record {
  len : length l.each.items ≡ l.place;
  bounds : AreBoundsOf l.self l.each.items;
}
