use Rattle.fw_monitor.proofs.StepLaws.{notice_cut}
use Rattle.fw_monitor.proofs.descent.lower_notice.Goals as goal

pub returns : goal.returns
returns c =
    notice_cut c.args.notices.now.items c.args.node c.place-place.result c.args.bound.now c.in_ok-left.left c.in_ok-value.value c.index.result.now c.index-2.result.now c.subset.result
    c.place-place.ensures c.requires c.in_ok-value.ensures c.index.ensures c.index-2.ensures c.if-subset.false c.subset.ensures.domain c.in_ok-left.ensures.names
