use Rattle.std.proofs.Common.{◌≡◌, ◌++◌, map, take}
use Rattle.fw_progress.specs.StampData.{message_at}
use Rattle.fw_resume.proofs.stamps.add_delivered.Given as goal

abbrev pub invariant-loop-top : goal.invariant-loop-top
invariant-loop-top l = l.messages.items ≡ l.initial.messages.items ++ map (message_at l.edge) (take l.top-index l.tops)
