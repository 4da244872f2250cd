use Rattle.fw_session.proofs.StoryLaws.{stories_go_on}
use Rattle.fw_session.proofs.laws.stories_go_on.Goals as goal

pub returns : goal.returns
returns c = stories_go_on
