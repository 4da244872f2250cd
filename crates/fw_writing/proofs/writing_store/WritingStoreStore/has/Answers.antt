use Rattle.std.proofs.Common.{sym, ◌∙◌}
use Rattle.fw_outside.proofs.Records.{has-record_map}
use Rattle.fw_writing.proofs.writing_store.WritingStoreStore.has.Goals as goal

pub returns-clause-there : goal.returns-clause-there
returns-clause-there c = c.contains_key.ensures ∙ sym (has-record_map c.args.self.now.records.entries c.args.id)
