use Rattle.std.proofs.Common.{refl}
use Rattle.fw_progress.proofs.SentTallyLaws.{tally-more}
use Rattle.fw_progress.proofs.sent_tally.SentTally.add.Goals as goal

pub returns-clause-ok : goal.returns-clause-ok
returns-clause-ok c =
    tally-more c.args.at.now c.args.count c.args.self.now (record { inside = c.args.self.now.inside; outside = c.add_many.new.self }) refl c.in_ok-add_many.ensures.ok.counts
