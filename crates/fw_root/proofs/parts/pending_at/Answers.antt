use Rattle.std.proofs.Common.{[]}
use Rattle.std.proofs.lemmas.Result.{err_from_is_err_and}
use Rattle.fw_bytes.specs.Reading.{many_of}
use Rattle.fw_root.specs.Reading.{next_pending_of}
use Rattle.fw_bytes.proofs.PartLoops.{goes_on, ends, is_done}
use Rattle.fw_root.proofs.parts.pending_at.Goals as goal

pub returns-in_err-part : goal.returns-in_err-part
returns-in_err-part c =
    let p = err_from_is_err_and c.from_residual.result c.from_residual.ensures.1 in
    rw (p.1, p.2) (ends (next_pending_of c.args.flow.now) c.in_err-part.field-0.0 c.args.count c.loop.counter c.loop.parts.items c.loop.rest.now (many_of (next_pending_of c.args.flow.now) c.args.count [] c.args.bytes.now) c.loop-test.true (rw c.deref.ensures.value at c.in_err-part.ensures) c.loop.invariant)

pub loop-preserved : goal.loop-preserved
loop-preserved c =
    rw c.in_ok-push.ensures.items (goes_on (next_pending_of c.args.flow.now) c.args.count c.loop.counter c.loop.parts.items c.loop.rest.now c.in_ok-part.part c.in_ok-part.after.now (many_of (next_pending_of c.args.flow.now) c.args.count [] c.args.bytes.now) c.loop-test.true (rw c.deref.ensures.value at c.in_ok-part.ensures) c.loop.invariant)

pub returns : goal.returns
returns c = is_done (next_pending_of c.args.flow.now) c.args.count c.loop.counter c.loop.parts.items c.loop.rest.now (many_of (next_pending_of c.args.flow.now) c.args.count [] c.args.bytes.now) c.loop-test.false c.loop.invariant
