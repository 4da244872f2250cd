use Rattle.fw_edge.proofs.LogLaws.{no_later-read, no_later-known}
use Rattle.fw_edge.proofs.message.comes_no_later.Goals as goal

pub returns : goal.returns
returns c = (
  λ t f i.
      no_later-read f c.stamps.result.now c.stamps-2.result.now c.args.message.now.causes c.args.other.now.causes c.are_at_most.result c.are_at_most.ensures c.stamps.ensures c.stamps-2.ensures t i,
  λ later.
      no_later-known c.stamps.result.now c.stamps-2.result.now c.args.message.now.causes c.args.other.now.causes c.are_at_most.result c.are_at_most.ensures c.stamps.ensures c.stamps-2.ensures later,
)
