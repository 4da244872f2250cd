use Rattle.fw_rollback.proofs.BuildLaws.{AreBuiltBefore}
use Rattle.fw_rollback.proofs.built.build_nodes.Given as goal

abbrev pub invariant-loop-place : goal.invariant-loop-place
invariant-loop-place l = AreBuiltBefore l.flow l.choice l.low l.given l.place l.tables l.logs
