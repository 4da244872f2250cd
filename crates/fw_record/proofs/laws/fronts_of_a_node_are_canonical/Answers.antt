use Rattle.fw_record.proofs.FrontLaws.{fronts_canonical, changes_canonical}
use Rattle.fw_record.proofs.laws.fronts_of_a_node_are_canonical.Goals as goal

pub returns-clause-whole : goal.returns-clause-whole
returns-clause-whole c = fronts_canonical

pub returns-clause-changes : goal.returns-clause-changes
returns-clause-changes c = changes_canonical
