use Rattle.std.proofs.Common.{take}
use Rattle.fw_collect.specs.Dropped.{is_at_some, Forgets}
use Rattle.fw_collect.proofs.applying.forget_events.Given as goal

abbrev pub invariant-loop-place : goal.invariant-loop-place
invariant-loop-place l = Forgets (is_at_some (take l.place l.events)) l.initial.keep l.keep
