use Rattle.std.proofs.Common.{arith}
use Rattle.fw_progress.proofs.StartLaws.{within-read}
use Rattle.fw_progress.proofs.start.lies_within.Goals as goal

pub returns : goal.returns
returns c =
    let at = c.place.ensures in
    within-read c.args.flow.now c.args.fronts.now c.args.node c.place.result c.args.front.now c.index-fronts-place.result c.subset.result
    c.requires.front at (omega (arith, c.requires.there, c.requires.one_each, at)) c.index-fronts-place.is c.subset.ensures.domain
