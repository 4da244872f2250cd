use Rattle.std.proofs.Common.{◌∙◌}
use Rattle.fw_places.proofs.MarkLaws.{marks_seen}
use Rattle.fw_places.proofs.places.Places.insert.Goals as goal

pub returns-clause-keys : goal.returns-clause-keys
returns-clause-keys c = (marks_seen _ _ _ _ (c.grow.ensures.same ∙ c.self.view_is) c.in_ok-grow.ensures.long c.mark.ensures).keys

pub returns-clause-put : goal.returns-clause-put
returns-clause-put c = (marks_seen _ _ _ _ (c.grow.ensures.same ∙ c.self.view_is) c.in_ok-grow.ensures.long c.mark.ensures).put
