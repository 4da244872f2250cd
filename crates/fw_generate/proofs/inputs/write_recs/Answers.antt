use Rattle.fw_generate.proofs.Writing.{written_more}
use Rattle.fw_generate.proofs.inputs.write_recs.Goals as goal

pub loop-preserved : goal.loop-preserved
loop-preserved c = written_more _ _ _ c.loop.counter _ _ _ _ _ _ c.loop-test.true c.loop.invariant c.in_ok-write_rec.ensures
