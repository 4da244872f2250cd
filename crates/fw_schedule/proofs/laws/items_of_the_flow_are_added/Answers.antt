use Rattle.fw_schedule.proofs.MakingLaws.{exactly_its_items}
use Rattle.fw_schedule.proofs.laws.items_of_the_flow_are_added.Goals as goal

pub returns : goal.returns
returns c = exactly_its_items
