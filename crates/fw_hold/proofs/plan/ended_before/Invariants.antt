use Rattle.std.proofs.Common.{◌≡◌, ◌+◌, drop}
use Rattle.fw_hold.specs.Kept.{ended_before}
use Rattle.fw_hold.proofs.plan.ended_before.Given as goal

abbrev pub invariant-loop-number : goal.invariant-loop-number
invariant-loop-number l = (l.ended ≡ l.number-index) × (l.number-index + ended_before (drop l.number-index l.numbers) l.line ≡ ended_before l.numbers l.line)
