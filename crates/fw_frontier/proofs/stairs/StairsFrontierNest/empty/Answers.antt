use Rattle.std.proofs.Common.{◌∙◌, ap, length}
use Rattle.fw_time.specs.NestLaws.{dimension-outer}
use Rattle.fw_frontier.proofs.stairs.StairsFrontierNest.empty.Goals as goal

pub empty-requires : goal.empty-requires
empty-requires g c = ap length c.outer_of.ensures.value ∙ dimension-outer c.args.bounds.now.greatest g.T.Time.dimension c.requires
