use Rattle.std.proofs.Common.{take_all, ◌∙◌}
use Rattle.fw_progress.proofs.kept_stamps.KeptStamps.stamps.Goals as goal

pub returns : goal.returns
returns c =
    c.loop-stamp.invariant ∙ take_all c.loop-stamp.stamp-index c.deref-stamp-items.result.now c.loop-stamp-test.false ∙ c.deref-stamp-items.ensures.value ∙ c.self.view_is
