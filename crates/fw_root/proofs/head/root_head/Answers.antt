use Rattle.std.proofs.Common.{◌≤◌, length, arith}
use Rattle.fw_root.proofs.HeadLaws.{head_left}
use Rattle.fw_root.proofs.head.root_head.Goals as goal

pub overflow_sub-result : goal.overflow_sub-result
overflow_sub-result c = head_left c.args.bytes.now c.in-Err.left c.in-Err.ensures

pub returns-in-Err : goal.returns-in-Err
returns-in-Err c =
    let inside : c.in-Err.left ≤ length c.args.bytes.now = head_left c.args.bytes.now c.in-Err.left c.in-Err.ensures in
    (c.in-Err.left, c.in-Err.ensures, omega (arith, inside))
