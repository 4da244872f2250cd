use Rattle.std.proofs.Common.{take}
use Rattle.std.specs.Option.{option_copied}
use Rattle.fw_settle.specs.Checkpoints.{told_epochs}
use Rattle.fw_settle.proofs.SendsLaws.{AreToldOf}
use Rattle.fw_settle.proofs.record.sends_inside.Given as goal

abbrev pub invariant-loop-place : goal.invariant-loop-place
invariant-loop-place l = AreToldOf (told_epochs (option_copied l.since) l.front) (take l.place l.table) l.sends.items
