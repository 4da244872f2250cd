use Rattle.fw_flow.specs.Depths.{AreKept, stays_deep}
use Rattle.fw_flow.proofs.walks.links_at.Given as goal

abbrev pub invariant-loop-link : goal.invariant-loop-link
invariant-loop-link l = AreKept (stays_deep l.nodes l.depths l.depth) l.links l.link-index l.kept.items
