use Rattle.fw_flow.specs.Dataflow.{bounds_of}
use Rattle.fw_model.specs.Offers as spec
use Rattle.fw_offers.proofs.PassLaws.{inside_pass_at}
use Rattle.fw_offers.proofs.sides.notices_pass.Goals as goal

pub returns : goal.returns
returns c =
    inside_pass_at (bounds_of c.args.flow.now c.args.node) c.domain.result c.args.front.now c.args.bound.now
    (spec.notified_of c.args.offers.now c.args.node) c.notified_of.result.now c.inside_pass.result c.domain.ensures c.notified_of.ensures c.inside_pass.ensures
