use Rattle.fw_progress.proofs.StartLaws.{begun, descends, lowered_falls, ended}
use Rattle.fw_progress.proofs.start.largest.Goals as goal

pub take-init : goal.take-init
take-init c =
    begun c.args.flow.now c.args.counts.now c.in_ok-fronts.fronts.items c.in_ok-work.work c.in_ok-fronts.ensures.one_each c.in_ok-fronts.ensures.all c.in_ok-work.ensures.each
    c.in_ok-work.ensures.nodes

pub take-smaller : goal.take-smaller
take-smaller c =
    lowered_falls c.args.flow.now c.args.counts.now c.take.fronts.items c.lower.new.fronts.items c.take.work c.take-in-take.new.self c.lower.new.work c.in-Some.node
    c.in-Some.ensures.some c.take.invariant c.in_ok-lower.ensures

pub take-preserved : goal.take-preserved
take-preserved c =
    descends c.args.flow.now c.args.counts.now c.take.fronts.items c.lower.new.fronts.items c.take.work c.take-in-take.new.self c.lower.new.work c.in-Some.node
    c.flow_is_well_formed.ensures c.in-Some.ensures.some c.take.invariant c.in_ok-lower.ensures

pub returns : goal.returns
returns c = ended c.args.flow.now c.args.counts.now c.take.fronts.items c.take.work c.in_default.ensures.none c.take.invariant
