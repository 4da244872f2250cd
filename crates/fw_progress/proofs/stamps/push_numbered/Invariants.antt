use Rattle.std.proofs.Common.{◌≡◌, ◌++◌, take}
use Rattle.fw_progress.specs.StampData.{messages_numbered}
use Rattle.fw_progress.proofs.stamps.push_numbered.Given as goal

abbrev pub invariant-loop-number : goal.invariant-loop-number
invariant-loop-number l = l.messages.items ≡ l.fn.messages.items ++ messages_numbered (take l.number-index l.numbers) l.edge
