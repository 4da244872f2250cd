use Rattle.fw_session.proofs.StoryLaws.{stories_have_what_came}
use Rattle.fw_session.proofs.laws.stories_have_what_came.Goals as goal

pub returns : goal.returns
returns c = stories_have_what_came
