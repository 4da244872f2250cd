use Rattle.fw_session.proofs.StoryLaws.{stories_denoted}
use Rattle.fw_session.proofs.laws.stories_show_what_is_denoted.Goals as goal

pub returns : goal.returns
returns c = stories_denoted
