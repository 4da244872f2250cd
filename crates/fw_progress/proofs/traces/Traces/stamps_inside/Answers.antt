use Rattle.fw_progress.proofs.StampsLaws.{inside-stand}
use Rattle.fw_progress.proofs.traces.Traces.stamps_inside.Goals as goal

pub returns-clause-stamps : goal.returns-clause-stamps
returns-clause-stamps c =
    inside-stand c.args.flow.now c.args.node c.args.f.now c.args.self.now c.stamps_taken.result c.flow_is_well_formed.ensures c.requires.there c.stamps_taken.ensures
