use Rattle.fw_model.proofs.NewestLinkLaws.{next-stands_on_left}
use Rattle.fw_model.proofs.laws.the_next_stands_on_what_is_left.Goals as goal

pub returns : goal.returns
returns c = next-stands_on_left
