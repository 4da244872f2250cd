use Rattle.std.proofs.Common.{subst}
use Rattle.std.proofs.lemmas.Result.{err_from_is_err_and}
use Rattle.fw_lines.specs.Faults.{IfRefused}
use Rattle.fw_flow.specs.Check.{IsFirstBroken}
use Rattle.fw_flow.specs.Expand.{expand}
use Rattle.fw_flow.proofs.BuilderLaws.{IfBroken-from_refused}
use Rattle.fw_flow.proofs.builder.FlowBuilder.build.Goals as goal

pub returns-in_err-check-clause-checked : goal.returns-in_err-check-clause-checked
returns-in_err-check-clause-checked c =
    let p = err_from_is_err_and c.from_residual.result c.from_residual.ensures.1 in
    let fault = c.in_err-check.field-0.0 in
    rw (p.1, p.2) (IfBroken-from_refused (IsFirstBroken (expand c.args.self)) fault (subst (λ raw. IfRefused (IsFirstBroken (expand raw)) fault) c.self.view_is c.in_err-check.ensures.checked))
