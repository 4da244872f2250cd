use Rattle.std.proofs.Common.{◌≡◌, ◌++◌, map, take}
use Rattle.fw_resume.specs.Stamps.{sent_at}
use Rattle.fw_resume.proofs.stamps.add_told.Given as goal

abbrev pub invariant-loop-top : goal.invariant-loop-top
invariant-loop-top l = l.messages.items ≡ l.initial.messages.items ++ map (sent_at l.kind l.edge) (take l.top-index l.tops)
