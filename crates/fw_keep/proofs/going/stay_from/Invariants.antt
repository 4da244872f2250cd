use Rattle.std.proofs.Common.{◌≡◌, drop}
use Rattle.fw_keep.specs.Newest.{stay_from}
use Rattle.fw_keep.proofs.going.stay_from.Given as goal

abbrev pub invariant-loop-entry : goal.invariant-loop-entry
invariant-loop-entry l = stay_from l.node l.front l.whole l.last (drop l.entry-index l.entries) ≡ stay_from l.node l.front 0 l.last l.entries
