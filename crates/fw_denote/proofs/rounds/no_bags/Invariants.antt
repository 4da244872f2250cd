use Rattle.std.proofs.Common.{◌≡◌, [], replicate}
use Rattle.fw_denote.proofs.rounds.no_bags.Given as goal

abbrev pub invariant-loop-place : goal.invariant-loop-place
invariant-loop-place l = l.bags.items ≡ replicate l._place []
