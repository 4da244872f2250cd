use Rattle.std.proofs.Common.{◌≡◌, drop}
use Rattle.fw_frontier.specs.Outside.{front_without_all}
use Rattle.fw_frontier.proofs.outside.exclude_all.Given as goal

abbrev pub invariant-loop-s : goal.invariant-loop-s
invariant-loop-s l = front_without_all (drop l.s-index l.stamps) l.outside.items ≡ front_without_all l.stamps l.initial.outside.items
