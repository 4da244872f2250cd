use Rattle.std.proofs.Common.{◌≡◌, take}
use Rattle.fw_rollback.specs.Asked.{leads_to}
use Rattle.fw_rollback.proofs.restored.last_front.Given as goal

abbrev pub invariant-loop-what : goal.invariant-loop-what
invariant-loop-what l = l.last ≡ leads_to l.checkpoint (take l.what-index l.records)
