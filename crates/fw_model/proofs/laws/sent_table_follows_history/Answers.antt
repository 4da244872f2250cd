use Rattle.fw_model.proofs.TableLaws.{table-follows}
use Rattle.fw_model.proofs.laws.sent_table_follows_history.Goals as goal

pub returns : goal.returns
returns c = table-follows
