use Rattle.fw_progress.proofs.RefreshLaws.{taken_step, taken_falls, refreshed}
use Rattle.fw_progress.proofs.refresh.refresh.Goals as goal

pub take-smaller : goal.take-smaller
take-smaller g c =
    taken_falls c.args.flow.now c.args.counts.now c.take.fronts.items c.take_up.new.fronts.items c.take.work c.take-in-take.new.self c.take_up.new.work c.in-Some.node
    c.take.growths.items c.take_up.new.growths.items c.take.invariant.one_each c.in-Some.ensures.some c.in_ok-take_up.ensures

pub take-preserved : goal.take-preserved
take-preserved g c =
    taken_step c.args.flow.now c.args.counts.now c.args.fronts.now.items c.args.work.now c.args.steps.now c.take.fronts.items c.take_up.new.fronts.items c.take.work c.take-in-take.new.self c.take_up.new.work c.in-Some.node
    c.take.growths.items c.take_up.new.growths.items c.take.steps c.tick.new.self c.in-Some.ensures.some c.tick.ensures c.take.invariant c.in_ok-take_up.ensures

pub returns : goal.returns
returns g c =
    refreshed c.args.flow.now c.args.counts.now c.args.fronts.now.items c.args.work.now c.args.steps.now c.take.fronts.items c.take.work c.take-in-take.new.self c.take.growths.items c.take.steps
    c.in_default.ensures.none c.in_default.ensures.still_none c.take.invariant
