use Rattle.std.specs.List.{AllByRecursion}
use Rattle.fw_model.specs.Offers.{IsRecordOf}
use Rattle.flow_rows.proofs.choices.records.Given as goal

abbrev pub invariant-loop-word : goal.invariant-loop-word
invariant-loop-word l = AllByRecursion (IsRecordOf l.flow l.node) l.records.items
