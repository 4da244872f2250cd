use Rattle.std.proofs.Common.{◌≡◌, drop}
use Rattle.fw_bytes.specs.Sound.{may_follow_stamps}
use Rattle.fw_root.proofs.rules.follows_stamps.Given as goal

abbrev pub invariant-loop-o : goal.invariant-loop-o
invariant-loop-o l = may_follow_stamps (drop l.o-index l.before) l.s ≡ may_follow_stamps l.before l.s
