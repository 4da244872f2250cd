use Rattle.std.proofs.Common.{take}
use Rattle.fw_monitor.specs.Kept.{IsSentKept}
use Rattle.fw_monitor.proofs.lower.sent_kept.Given as goal

abbrev pub invariant-loop-m : goal.invariant-loop-m
invariant-loop-m l = IsSentKept l.from l.to l.edge l.front l.bound (take l.m-index l.sent) l.left
