use Rattle.fw_lasting.proofs.StartLaws.{at-first}
use Rattle.fw_lasting.proofs.laws.stories_without_steps_are_at_first.Goals as goal

pub returns : goal.returns
returns c = at-first
