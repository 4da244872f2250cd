use Rattle.std.proofs.Common.{◌≡◌, drop}
use Rattle.fw_frontier.specs.Outside.{front_without_all_near}
use Rattle.fw_frontier.proofs.outside.exclude_all_near.Given as goal

abbrev pub invariant-loop-s : goal.invariant-loop-s
invariant-loop-s l = front_without_all_near (drop l.s-index l.stamps) l.others l.outside.items ≡ front_without_all_near l.stamps l.others l.initial.outside.items
