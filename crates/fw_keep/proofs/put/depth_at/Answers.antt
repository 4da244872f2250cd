use Rattle.std.proofs.Common.{sym}
use Rattle.fw_keep.proofs.DepthLaws.{depth-only, depth-none}
use Rattle.fw_keep.proofs.put.depth_at.Goals as goal

pub returns-in-Some : goal.returns-in-Some
returns-in-Some c = sym (depth-only c.args.id c.args.entries.now c.in-Some.entry.now c.in-Some.ensures.only (sym c.in-Some.ensures.there))

pub returns-in-None : goal.returns-in-None
returns-in-None c = sym (depth-none c.args.id c.args.entries.now (sym c.in-None.ensures.there))
