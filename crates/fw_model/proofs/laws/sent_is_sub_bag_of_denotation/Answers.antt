use Rattle.fw_model.proofs.SubBagLaws.{sent-is_sub}
use Rattle.fw_model.proofs.laws.sent_is_sub_bag_of_denotation.Goals as goal

pub returns : goal.returns
returns c = sent-is_sub
