use Rattle.std.proofs.Common.{take}
use Rattle.fw_progress.specs.Progress.{stamps_on}
use Rattle.fw_progress.proofs.EventLaws.{IsSending}
use Rattle.fw_progress.proofs.events.send.Given as goal

abbrev pub invariant-loop-edge : goal.invariant-loop-edge
invariant-loop-edge l = IsSending (λ e. stamps_on l.flow e l.sent) (take l.edge-index l.edges) l.fn.pending.items l.pending.items
