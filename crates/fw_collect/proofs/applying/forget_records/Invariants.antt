use Rattle.std.proofs.Common.{take}
use Rattle.fw_collect.specs.Dropped.{is_below_some, Forgets}
use Rattle.fw_collect.proofs.applying.forget_records.Given as goal

abbrev pub invariant-loop-record : goal.invariant-loop-record
invariant-loop-record l = Forgets (is_below_some (take l.record-index l.records) l.initial.keep) l.initial.keep l.keep
