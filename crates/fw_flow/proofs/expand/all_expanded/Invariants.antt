use Rattle.std.proofs.Common.{◌≡◌, take}
use Rattle.std.specs.List.{flat_map}
use Rattle.fw_flow.specs.Expand.{expanded_one}
use Rattle.fw_flow.proofs.expand.all_expanded.Given as goal

abbrev pub invariant-loop-one : goal.invariant-loop-one
invariant-loop-one l = l.all.items ≡ flat_map (expanded_one l.raw) (take l.one-index l.raw)
