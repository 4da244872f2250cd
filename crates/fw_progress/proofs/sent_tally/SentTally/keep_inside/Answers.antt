use Rattle.std.proofs.Common.{refl}
use Rattle.fw_progress.proofs.SentTallyLaws.{tally-cut}
use Rattle.fw_progress.proofs.sent_tally.SentTally.keep_inside.Goals as goal

pub returns : goal.returns
returns c = tally-cut c.args.f.now c.args.self.now (record { inside = c.args.self.now.inside; outside = c.keep_inside.new.self }) refl c.keep_inside.ensures
