use Rattle.std.proofs.Common.{ap, ◌∙◌}
use Rattle.fw_places.specs.Marks.{marked}
use Rattle.fw_places.proofs.MarkLaws.{first_seen}
use Rattle.fw_places.proofs.places.Places.first.Goals as goal

pub returns : goal.returns
returns c = first_seen _ _ _ (ap marked c.deref.ensures.value ∙ c.self.view_is) c.next_mark.ensures
