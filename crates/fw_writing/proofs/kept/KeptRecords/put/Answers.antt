use Rattle.std.proofs.Common.{◌≡◌, ap, ◌∙◌, rules}
use Rattle.std.specs.FinMap as map
use Rattle.fw_outside.specs.Memory.{record_map}
use Rattle.fw_outside.proofs.Records.{record_map-put}
use Rattle.fw_writing.proofs.kept.KeptRecords.put.Goals as goal

pub returns-in-Ok-clause-put : goal.returns-in-Ok-clause-put
returns-in-Ok-clause-put c =
    let same : c.in_ok-copy.copy.items ≡ c.args.bytes.now = search rules in
    record_map-put c.args.self.now.records.entries _ c.args.id c.in_ok-copy.copy c.in-Ok.ensures.updates.0
    ∙ ap (λ bytes. map.insert (record_map c.args.self.now.records.entries) c.args.id bytes) same
