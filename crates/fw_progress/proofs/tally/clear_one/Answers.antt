use Rattle.fw_progress.proofs.TallyLaws.{no_more}
use Rattle.fw_progress.proofs.tally.clear_one.Goals as goal

pub returns : goal.returns
returns c = no_more c.args.counts.now.entries c.remove.new.self.entries c.args.at.now c.remove.ensures.updates.0 c.remove.ensures.entries
