use Rattle.std.proofs.Common.{take}
use Rattle.fw_model.specs.EventStamps.{causes_of}
use Rattle.fw_model.specs.Offers.{counted_on_edge}
use Rattle.fw_progress.specs.StampData.{AreTheSame}
use Rattle.fw_progress.proofs.restore.causes_on.Given as goal

abbrev pub invariant-loop-message : goal.invariant-loop-message
invariant-loop-message l = AreTheSame (causes_of (counted_on_edge l.edge (take l.message-index l.messages))) l.kept
