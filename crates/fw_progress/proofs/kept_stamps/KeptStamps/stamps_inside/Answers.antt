use Rattle.std.proofs.Common.{take_all, filter, ap, ◌∙◌}
use Rattle.fw_frontier.specs.Front.{inside}
use Rattle.fw_progress.proofs.kept_stamps.KeptStamps.stamps_inside.Goals as goal

pub returns : goal.returns
returns c =
    c.loop-stamp.invariant
    ∙ ap (filter (inside c.args.f.now)) (take_all c.loop-stamp.stamp-index c.deref-stamp-items.result.now c.loop-stamp-test.false ∙ c.deref-stamp-items.ensures.value ∙ c.self.view_is)
