use Rattle.std.proofs.Common.{Some, ap}
use Rattle.fw_outside.proofs.Records.{record_map-removed}
use Rattle.fw_outside.proofs.mem_store.FaultlessStoreStore.remove.Goals as goal

pub returns-clause-removed : goal.returns-clause-removed
returns-clause-removed c = ap Some (record_map-removed _ _ c.args.id c.remove.ensures.updates.0)
