use Rattle.std.proofs.Common.{◌<◌, ◌^◌, arith}
use Rattle.fw_keep.specs.Entry.{depth_at}
use Rattle.fw_keep.proofs.DepthLaws.{depth-small}
use Rattle.fw_keep.proofs.put.depth_on.Goals as goal

pub overflow_add-result : goal.overflow_add-result
overflow_add-result c =
    let small : depth_at c.in-Some.id c.args.entries.now < 2 ^ 63 = depth-small c.in-Some.id (2 ^ 63) c.args.entries.now c.requires.depths c.requires.few (omega arith) in
    omega (arith, small, c.depth_at.ensures)
