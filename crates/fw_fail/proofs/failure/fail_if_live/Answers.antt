use Rattle.std.proofs.Common.{length, refl}
use Rattle.fw_running.specs.Kept.{is_down}
use Rattle.fw_fail.proofs.FailLaws.{down-if}
use Rattle.fw_fail.proofs.failure.fail_if_live.Goals as goal

pub returns-then-not-can_fail-clause-ok : goal.returns-then-not-can_fail-clause-ok
returns-then-not-can_fail-clause-ok c = (
  (λ l. down-if c.can_fail.result c.args.node (length c.args.running.now.flow.nodes) (is_down c.args.running.now c.args.node) c.can_fail.ensures c.if-not-can_fail.true l),
  refl,
)
