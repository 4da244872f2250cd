use Rattle.std.proofs.Common.{◌≡◌, map}
use Rattle.std.specs.List.{range_with_len}
use Rattle.fw_denote.specs.Holding.{family_held}
use Rattle.fw_denote.proofs.family.Family.of.Given as goal

abbrev pub invariant-loop-place : goal.invariant-loop-place
invariant-loop-place l = l.bags.items ≡ map (family_held l.flow l.sent.items) (range_with_len 0 l.place)
