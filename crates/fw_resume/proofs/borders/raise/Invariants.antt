use Rattle.std.proofs.Common.{◌≡◌}
use Rattle.fw_border.specs.Outputs.{with_output}
use Rattle.fw_resume.specs.Borders.{acknowledged_by}
use Rattle.fw_resume.proofs.borders.raise.Given as goal

abbrev pub invariant-loop-stamp : goal.invariant-loop-stamp
invariant-loop-stamp l = l.outputs ≡ record l.initial.outputs { outputs = with_output (acknowledged_by l._stamp) l.initial.outputs.outputs l.node }
