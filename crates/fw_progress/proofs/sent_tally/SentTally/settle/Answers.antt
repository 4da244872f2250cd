use Rattle.fw_progress.proofs.SentTallyLaws.{tally-settle}
use Rattle.fw_progress.proofs.sent_tally.SentTally.settle.Goals as goal

pub returns-clause-ok : goal.returns-clause-ok
returns-clause-ok c =
    tally-settle c.args.base.now c.args.self.now (record { inside = c.in_ok-inside.inside; outside = c.keep_outside.new.self }) c.in_ok-inside.ensures c.keep_outside.ensures
