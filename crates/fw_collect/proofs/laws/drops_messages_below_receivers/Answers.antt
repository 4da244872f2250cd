use Rattle.fw_collect.proofs.CollectLaws.{drops_messages_below_receivers}
use Rattle.fw_collect.proofs.laws.drops_messages_below_receivers.Goals as goal

pub returns : goal.returns
returns c = drops_messages_below_receivers
