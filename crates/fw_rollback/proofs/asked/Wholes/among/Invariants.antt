use Rattle.std.proofs.Common.{◌≡◌, length, take}
use Rattle.fw_rollback.specs.Asked.{AreWholes}
use Rattle.fw_rollback.proofs.asked.Wholes.among.Given as goal

abbrev pub invariant-loop-entry : goal.invariant-loop-entry
invariant-loop-entry l = record {
  are : AreWholes l.choice (take l.entry-index l.entries) l.wholes;
  each : length l.wholes ≡ length l.choice.cuts;
}
