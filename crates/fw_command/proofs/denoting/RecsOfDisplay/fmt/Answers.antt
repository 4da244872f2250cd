use Rattle.std.proofs.Output.{has_written_of_eq}
use Rattle.fw_command.proofs.DenotationTextLaws.{recs_all}
use Rattle.fw_command.proofs.denoting.RecsOfDisplay.fmt.Goals as goal

pub returns-clause-writes : goal.returns-clause-writes
returns-clause-writes g c = λ p ok.
    has_written_of_eq _ _ _ _ _ (recs_all c.args.self.now.epoch c.args.self.now.bag.now c.loop-timed.timed-index c.loop-timed-test.false) (c.loop-timed.invariant p)
