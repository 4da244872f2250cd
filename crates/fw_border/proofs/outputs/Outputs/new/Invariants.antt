use Rattle.std.proofs.Common.{◌≡◌, replicate}
use Rattle.fw_border.specs.Outputs.{new_output}
use Rattle.fw_border.proofs.outputs.Outputs.new.Given as goal

abbrev pub invariant-loop-place : goal.invariant-loop-place
invariant-loop-place l = l.outputs.items ≡ replicate l._place new_output
