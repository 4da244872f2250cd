use Rattle.fw_resume.proofs.BorderLaws.{started_by}
use Rattle.fw_resume.proofs.borders.start.Goals as goal

pub returns : goal.returns
returns c =
    started_by c.args.count c.args.low.now c.args.sources.now c.advance_by.new.sources c.acknowledge.new.self c.args.node c.requires c.advance_by.ensures c.acknowledge.ensures
