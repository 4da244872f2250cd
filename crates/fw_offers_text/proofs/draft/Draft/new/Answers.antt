use Rattle.std.proofs.Common.{arith}
use Rattle.fw_offers_text.proofs.PlaceLaws.{nothing_by}
use Rattle.fw_offers_text.proofs.draft.Draft.new.Goals as goal

pub returns : goal.returns
returns c = nothing_by c.args.flow.now c.loop-place._place c.loop-edge._edge c.loop-place.nodes.items c.loop-edge.edges.items (omega arith) (omega arith) c.loop-place.invariant c.loop-edge.invariant
