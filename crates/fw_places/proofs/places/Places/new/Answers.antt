use Rattle.std.proofs.Common.{ap}
use Rattle.fw_places.specs.Marks.{marked}
use Rattle.fw_places.proofs.places.Places.new.Goals as goal

pub returns : goal.returns
unfolding marked
returns c = ap marked c.new.ensures.items
