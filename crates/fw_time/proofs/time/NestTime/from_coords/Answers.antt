use Rattle.std.proofs.Common.{◌∙◌, ap, length, arith}
use Rattle.fw_time.specs.Stamp.{nest}
use Rattle.fw_time.proofs.StampLaws.{nest-outer}
use Rattle.fw_time.specs.NestLaws.{dimension-outer}
use Rattle.fw_time.proofs.time.NestTime.from_coords.Goals as goal

pub from_coords-requires : goal.from_coords-requires
from_coords-requires g c = ap length c.outer.ensures.value ∙ dimension-outer c.args.stamp.now g.T.Time.dimension c.requires

pub returns : goal.returns
returns g c =
    (λ i. nest ((c.from_coords.ensures ∙ c.outer.ensures.value) i) (c.counter.ensures i)) ∙ nest-outer c.args.stamp.now (omega (arith, c.requires))
