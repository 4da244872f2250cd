use Rattle.std.proofs.Common.{◌≤◌, length, arith}
use Rattle.fw_root.proofs.RootLaws.{root_takes, is_same, is_none, left_is_inside}
use Rattle.fw_root.proofs.reading.decode_root.Goals as goal

pub returns-in-Ok-clause-found : goal.returns-in-Ok-clause-found
returns-in-Ok-clause-found c = root_takes c.args.flow.now c.args.batches.now c.args.bytes.now c.in-Ok.root (λ i. omega (arith, c.type_inv.bytes i)) c.in-Ok.ensures

pub returns-in-Ok-clause-only : goal.returns-in-Ok-clause-only
returns-in-Ok-clause-only c = λ r sound e. is_same c.args.flow.now c.args.batches.now c.args.bytes.now c.in-Ok.root r c.in-Ok.ensures sound e

pub returns-in-Err-Broken-clause-only : goal.returns-in-Err-Broken-clause-only
returns-in-Err-Broken-clause-only c = λ r sound e. is_none c.args.flow.now c.args.batches.now c.args.bytes.now r c.in-Err-Broken.left (rw c.in-Err-Broken.field-0-is at c.in-Err-Broken.ensures) sound e

pub overflow_sub-result : goal.overflow_sub-result
overflow_sub-result c = left_is_inside c.args.flow.now c.args.batches.now c.args.bytes.now c.in-Err-Broken.left (rw c.in-Err-Broken.field-0-is at c.in-Err-Broken.ensures)

pub returns-in-Err-Broken-clause-exact : goal.returns-in-Err-Broken-clause-exact
returns-in-Err-Broken-clause-exact c =
    let broken = rw c.in-Err-Broken.field-0-is at c.in-Err-Broken.ensures in
    let inside : c.in-Err-Broken.left ≤ length c.args.bytes.now = left_is_inside c.args.flow.now c.args.batches.now c.args.bytes.now c.in-Err-Broken.left broken in
    (c.in-Err-Broken.left, broken, omega (arith, inside))
