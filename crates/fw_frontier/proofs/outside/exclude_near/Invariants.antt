use Rattle.std.proofs.Common.{◌≡◌, drop}
use Rattle.fw_frontier.specs.Outside.{front_without_near}
use Rattle.fw_frontier.proofs.outside.exclude_near.Given as goal

abbrev pub invariant-loop-p : goal.invariant-loop-p
invariant-loop-p l = front_without_near l.s (drop l.p-index l.stamps) l.outside.items ≡ front_without_near l.s l.stamps l.initial.outside.items
