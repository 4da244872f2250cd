use Rattle.fw_session.proofs.StoryLaws.{stories_are_runs}
use Rattle.fw_session.proofs.laws.stories_are_runs.Goals as goal

pub returns : goal.returns
returns c = stories_are_runs
