use Rattle.std.proofs.Common.{Some, ap}
use Rattle.fw_outside.proofs.Records.{record_map-put}
use Rattle.fw_outside.proofs.mem_store.FaultlessStoreStore.put_vec.Goals as goal

pub returns-in-Ok-clause-added : goal.returns-in-Ok-clause-added
returns-in-Ok-clause-added c = ap Some (record_map-put c.args.self.now.records.entries _ c.args.id c.args.bytes c.in-Ok.ensures.updates.0)
