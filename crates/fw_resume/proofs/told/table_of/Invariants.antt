use Rattle.std.proofs.Common.{◌≡◌, take}
use Rattle.fw_regain.specs.RootOf.{table_said}
use Rattle.fw_resume.proofs.told.table_of.Given as goal

abbrev pub invariant-loop-sent : goal.invariant-loop-sent
invariant-loop-sent l = l.table ≡ table_said (take l.sent-index l.sends)
