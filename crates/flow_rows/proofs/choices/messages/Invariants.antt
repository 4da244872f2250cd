use Rattle.std.specs.List.{AllByRecursion}
use Rattle.flow_rows.specs.Written.{IsMessageOf}
use Rattle.flow_rows.proofs.choices.messages.Given as goal

abbrev pub invariant-loop-word : goal.invariant-loop-word
invariant-loop-word l = AllByRecursion (IsMessageOf l.flow) l.messages.items
