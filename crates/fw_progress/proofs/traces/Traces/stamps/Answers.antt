use Rattle.fw_progress.proofs.StampsLaws.{all-stand, has-stamps}
use Rattle.fw_progress.proofs.traces.Traces.stamps.Goals as goal

pub returns-clause-stamps : goal.returns-clause-stamps
returns-clause-stamps c = all-stand c.args.flow.now c.args.node c.args.self.now c.stamps_taken.result c.flow_is_well_formed.ensures c.requires.there c.stamps_taken.ensures

pub returns-clause-kept : goal.returns-clause-kept
returns-clause-kept c = has-stamps c.args.flow.now c.args.node c.args.self.now c.stamps_taken.result c.requires.there c.stamps_taken.ensures
