use Rattle.std.proofs.Common.{◌≡◌, take}
use Rattle.std.specs.Prelude.{filter}
use Rattle.fw_frontier.specs.Front.{inside}
use Rattle.fw_progress.proofs.kept_stamps.KeptStamps.stamps_inside.Given as goal

-- those so far that are inside were taken
abbrev pub invariant-loop-stamp : goal.invariant-loop-stamp
invariant-loop-stamp l = l.stamps.items ≡ filter (inside l.f) (take l.stamp-index l.stamp-items)
