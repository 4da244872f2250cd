use Rattle.fw_outside.proofs.Records.{record_map-removed}
use Rattle.fw_writing.proofs.kept.KeptRecords.remove.Goals as goal

pub returns : goal.returns
returns c = record_map-removed _ _ c.args.id c.remove.ensures.updates.0
