use Rattle.std.proofs.Common.{◌≡◌, None, replicate}
use Rattle.fw_rollback.proofs.tables.Tables.new.Given as goal

abbrev pub invariant-loop-place : goal.invariant-loop-place
invariant-loop-place l = l.tables.items ≡ replicate l._place None
