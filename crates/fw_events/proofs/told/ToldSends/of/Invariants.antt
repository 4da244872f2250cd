use Rattle.std.proofs.Common.{◌≡◌, take}
use Rattle.fw_node.specs.Sends.{sends_list}
use Rattle.fw_events.proofs.told.ToldSends.of.Given as goal

abbrev pub invariant-loop-place : goal.invariant-loop-place
invariant-loop-place l = l.recs.items ≡ take l.place (sends_list l.sends)
