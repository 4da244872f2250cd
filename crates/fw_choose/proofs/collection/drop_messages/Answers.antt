use Rattle.std.proofs.Common.{subst}
use Rattle.std.proofs.lemmas.List.{take_all}
use Rattle.fw_choose.specs.Collecting.{AreLeft}
use Rattle.fw_choose.proofs.CollectLaws.{left_none, left_more}
use Rattle.fw_choose.proofs.collection.drop_messages.Goals as goal

pub loop-front-init : goal.loop-front-init
loop-front-init c = left_none c.args.logs.now

pub loop-front-preserved : goal.loop-front-preserved
loop-front-preserved c =
    left_more c.args.fronts.now c.loop-front.front-index c.front-item.result c.args.logs.now c.loop-front.logs c.drop_inside.new.logs c.loop-front-test.true c.front-item.is
    c.loop-front.invariant c.drop_inside.ensures.one_each c.drop_inside.ensures.here c.drop_inside.ensures.others

pub returns : goal.returns
returns c =
    subst (λ fs. AreLeft fs c.args.logs.now c.loop-front.logs) (take_all c.loop-front.front-index c.args.fronts.now c.loop-front-test.false) c.loop-front.invariant
