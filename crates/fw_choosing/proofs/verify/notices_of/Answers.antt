use Rattle.fw_choosing.proofs.ChoiceLaws.{notices-one}
use Rattle.fw_choosing.proofs.verify.notices_of.Goals as goal

pub returns : goal.returns
returns c ls choice certificate =
    notices-one c.args.flow.now c.args.offers.now c.in_ok-descent.descent.trail ls c.in_ok-descent.descent.choice choice
    c.flow_is_well_formed.ensures c.requires.ascend c.in_ok-descent.ensures.trail certificate
