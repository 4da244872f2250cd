use Rattle.fw_schedule.proofs.NameLaws.{names_at}
use Rattle.fw_schedule.proofs.names.are_names.Goals as goal

pub returns-then-not-is_empty : goal.returns-then-not-is_empty
returns-then-not-is_empty c = names_at c.args.text.now c.args.words.now c.is_empty.result c.are_all_names.result c.is_empty.ensures c.if-not-is_empty.true c.are_all_names.ensures
