use Rattle.std.proofs.Common.{◌∙◌, ap}
use Rattle.fw_keep.specs.Catalogue.{without}
use Rattle.fw_keep.specs.Newest.{is_forgotten_below}
use Rattle.fw_collect.specs.declared.drops.OfNode.{OfNode}
use Rattle.fw_collect.proofs.ApplyLaws.{forgets_nothing, forgets_below_more}
use Rattle.fw_collect.proofs.applying.forget_records.Goals as goal

pub loop-record-init : goal.loop-record-init
loop-record-init c = forgets_nothing c.args.keep.now

pub loop-record-preserved : goal.loop-record-preserved
loop-record-preserved c =
    forgets_below_more c.args.records.now c.loop-record.record-index c.record-item.result
    c.args.keep.now c.loop-record.keep c.forget_below.new.self c.loop-record-test.true c.loop-record.invariant
    (c.forget_below.ensures.gone ∙ ap (λ (d : OfNode). without (is_forgotten_below d.node d.front c.loop-record.keep) c.loop-record.keep) c.record-item.is)
    c.forget_below.ensures.stored
