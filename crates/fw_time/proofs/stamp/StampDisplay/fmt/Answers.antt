use Rattle.std.proofs.Common.{rules, refl, arith, length, get_or, take, drop, ◌-◌}
use Rattle.std.proofs.Output.{has_written_of_eq, has_written_append}
use Rattle.fw_time.proofs.StampSteps.{dotted_more}
use Rattle.fw_time.proofs.stamp.StampDisplay.fmt.Goals as goal

pub loop-coord-preserved : goal.loop-coord-preserved
loop-coord-preserved g c = λ p.
    let coords = take c.self.inside.len c.self.inside.coords in
    let rest = take (length coords - 1) (drop 1 coords) in
    has_written_of_eq _ _ _ _ _ (dotted_more rest c.loop-coord.coord-index (get_or rest c.loop-coord.coord-index 0) (omega arith) refl)
    (has_written_append _ _ _ _ _ _ (c.loop-coord.invariant p) (search rules))
