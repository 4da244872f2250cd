use Rattle.std.proofs.Common.{◌≡◌, ◌++◌, drop}
use Rattle.fw_keep.proofs.joined.add_messages.Given as goal

abbrev pub invariant-loop-logged : goal.invariant-loop-logged
invariant-loop-logged l = l.messages.items ++ drop l.logged-index l.log ≡ l.initial.messages.items ++ l.log
