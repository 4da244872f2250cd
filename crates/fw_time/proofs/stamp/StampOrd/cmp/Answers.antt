use Rattle.std.proofs.Common.{◌∙◌}
use Rattle.fw_time.proofs.Padded.{opened, cmp_first}
use Rattle.fw_time.proofs.stamp.StampOrd.cmp.Goals as goal

pub returns-then-coords-others : goal.returns-then-coords-others
returns-then-coords-others c =
    c.cmp.ensures
    ∙ cmp_first (opened _ _ _ c.self.view_is c.self.invariant) (opened _ _ _ c.other.view_is c.other.invariant) c.if-coords-others.true
