use Rattle.std.proofs.Common.{◌↔◌, Option, sym, subst}
use Rattle.std.specs.Prelude.{IfOk, IsTrue}
use Rattle.fw_flow.specs.declared.trail.Cause.{Cause}
use Rattle.fw_choosing.specs.Choices.{IsNoneLeftAt}
use Rattle.fw_choosing.proofs.verify.is_none_left_at.Goals as goal

pub returns-in-Some : goal.returns-in-Some
returns-in-Some c =
    subst (λ (by : Option Cause). IfOk c.is_dead_end_for.result (λ b. IsTrue b ↔ IsNoneLeftAt c.args.flow.now c.args.offers.now c.args.lowerings.now c.args.node by)) (sym c.in-Some.is) c.is_dead_end_for.ensures
