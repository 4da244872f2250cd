use Rattle.std.proofs.Common.{sym, subst}
use Rattle.fw_choose.specs.Chosen.{AreViewsBy}
use Rattle.fw_choose.proofs.ViewLaws.{views_none, views_more}
use Rattle.fw_choose.proofs.viewing.views.Goals as goal

pub loop-place-init : goal.loop-place-init
loop-place-init c = subst (AreViewsBy c.args.running.now c.args.lost 0) (sym c.in_ok-views.ensures.items) (views_none c.args.running.now c.args.lost)

pub loop-place-preserved : goal.loop-place-preserved
loop-place-preserved c =
    views_more c.args.running.now c.args.lost c.loop-place.place c.at.result c.loop-place.views.items c.push.new.self.items c.in_ok-view.field-0 c.loop-place.invariant c.at.ensures
    c.in_ok-view.ensures.of_flow c.in_ok-view.ensures.of_state c.in_ok-view.ensures.of_held c.in_ok-push.ensures.items
