use Rattle.std.proofs.Common.{[]}
use Rattle.std.proofs.lemmas.Result.{err_from_is_err_and}
use Rattle.fw_bytes.specs.Reading.{many_of}
use Rattle.fw_came.specs.Came.{next_rec_of}
use Rattle.fw_bytes.proofs.PartLoops.{goes_on, ends, is_done}
use Rattle.fw_came.proofs.reading.recs_from.Goals as goal

pub returns-in_err-rec : goal.returns-in_err-rec
returns-in_err-rec c =
    let p = err_from_is_err_and c.from_residual.result c.from_residual.ensures.1 in
    rw (p.1, p.2) (ends next_rec_of c.in_err-rec.field-0.0 c.args.count c.loop.counter c.loop.recs.items c.loop.rest.now (many_of next_rec_of c.args.count [] c.args.bytes.now) c.loop-test.true c.in_err-rec.ensures c.loop.invariant)

pub loop-preserved : goal.loop-preserved
loop-preserved c =
    rw c.in_ok-push.ensures.items (goes_on next_rec_of c.args.count c.loop.counter c.loop.recs.items c.loop.rest.now c.in_ok-rec.rec c.in_ok-rec.after.now (many_of next_rec_of c.args.count [] c.args.bytes.now) c.loop-test.true c.in_ok-rec.ensures c.loop.invariant)

pub returns : goal.returns
returns c = is_done next_rec_of c.args.count c.loop.counter c.loop.recs.items c.loop.rest.now (many_of next_rec_of c.args.count [] c.args.bytes.now) c.loop-test.false c.loop.invariant
