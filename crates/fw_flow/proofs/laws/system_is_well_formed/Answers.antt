use Rattle.fw_flow.proofs.SystemLaws.{well_formed-system_of}
use Rattle.fw_flow.proofs.laws.system_is_well_formed.Goals as goal

pub returns : goal.returns
returns c = well_formed-system_of c.args.flow.now c.args.batches.now c.flow_is_well_formed.ensures c.requires
