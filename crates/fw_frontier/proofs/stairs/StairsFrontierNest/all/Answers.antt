use Rattle.std.proofs.Common.{◌∙◌, ap, length}
use Rattle.fw_time.specs.NestLaws.{dimension-outer}
use Rattle.fw_frontier.proofs.stairs.StairsFrontierNest.all.Goals as goal

pub all-requires : goal.all-requires
all-requires g c = ap length c.outer_of.ensures.value ∙ dimension-outer c.args.bounds.now.greatest g.T.Time.dimension c.requires
