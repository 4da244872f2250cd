use Rattle.std.proofs.Common.{◌≡◌, length}
use Rattle.fw_rollback.specs.New.{AreFirstTables}
use Rattle.fw_rollback.proofs.parts.tables_of.Given as goal

abbrev pub invariant-loop-place : goal.invariant-loop-place
invariant-loop-place l = record {
  first : AreFirstTables l.flow l.place l.tables;
  each : length l.tables ≡ length l.flow.nodes;
}
