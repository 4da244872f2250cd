use Rattle.std.proofs.Common.{◌≡◌, length, take}
use Rattle.fw_rollback.specs.Asked.{AreEnds}
use Rattle.fw_rollback.proofs.asked.Ends.among.Given as goal

abbrev pub invariant-loop-entry : goal.invariant-loop-entry
invariant-loop-entry l = record {
  are : AreEnds l.choice (take l.entry-index l.entries) l.ends;
  each : length l.ends ≡ length l.choice.cuts;
}
