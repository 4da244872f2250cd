use Rattle.std.proofs.Common.{◌≡◌, ◌++◌, take, map}
use Rattle.fw_time.specs.Stamp.{nest}
use Rattle.fw_frontier.proofs.stairs.push_nested.Given as goal

abbrev pub invariant-loop-o : goal.invariant-loop-o
invariant-loop-o l = l.stamps.items ≡ l.initial.stamps.items ++ map (λ o. nest o l.counter) (take l.o-index l.outer)
