use Rattle.fw_model.proofs.SubBagLaws.{delivered-is_sub}
use Rattle.fw_model.proofs.laws.delivered_is_sub_bag_of_denotation.Goals as goal

pub returns : goal.returns
returns c = delivered-is_sub
