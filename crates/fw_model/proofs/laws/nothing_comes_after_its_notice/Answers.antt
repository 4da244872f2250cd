use Rattle.fw_model.proofs.ToldLaws.{after-notice}
use Rattle.fw_model.proofs.laws.nothing_comes_after_its_notice.Goals as goal

pub returns : goal.returns
returns c = after-notice
