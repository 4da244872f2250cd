use Rattle.fw_live.proofs.StoryTextLaws.{stories_print}
use Rattle.fw_live.proofs.laws.stories_print_as_runs.Goals as goal

pub returns : goal.returns
returns c = stories_print
